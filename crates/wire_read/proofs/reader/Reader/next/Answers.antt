use Rattle.std.proofs.Common.{◌≡◌, ◌≤◌, length, drop, min, rules, arith, refl, ap}
use Rattle.std.proofs.lemmas.List.{length-drop}
use Rattle.wire_read.specs.Opened.{ending_of}
use Rattle.wire_read.specs.Reading.{groups_of, limits_in}
use Rattle.wire_read.proofs.Moving.{part_inside, rest_is, gives}
use Rattle.wire_read.proofs.reader.Reader.next.Goals as goal

pub overflow_sub-result-in-Err-2 : goal.overflow_sub-result-in-Err-2
overflow_sub-result-in-Err-2 c =
    let r = c.args.self.now in
    let all = c.args.bytes.now in
    let k : c.min.result ≡ min r.place (length all) = search rules in
    let few : length (drop r.place all) ≤ length all = omega (arith, length-drop r.place all) in
    omega (
      arith,
      few,
      ap length (rest_is all r.place c.min.result k),
      part_inside (limits_in r) (ending_of (groups_of r)) _ _ _ _ c.in-Err.ensures.fault,
    )

pub returns-in-Ok-clause-event : goal.returns-in-Ok-clause-event
returns-in-Ok-clause-event c =
    let r = c.args.self.now in
    let all = c.args.bytes.now in
    let k : c.min.result ≡ min r.place (length all) = search rules in
    gives _ all r c.step.new.self _ _ _ (rest_is all r.place c.min.result k) c.in-Ok.ensures.ok refl
    refl refl
