use Rattle.std.proofs.Common.{◌≡◌, ◌+◌, ◌≤◌, length, subst, rules, arith}
use Rattle.wire_base.specs.WriteLaws.{FillsSlice}
use Rattle.wire_codec.specs.Records.{text}
use Rattle.wire_structs.proofs.room.fill.Goals as goal

pub returns : goal.returns
returns g c =
    let law = c.what_fits_is_written.ensures in
    let sink = c.put.new.sink in
    let room = c.args.room.now in
    let all = text (g.P.StructPart.records c.args.parts) in
    let fits : 0 + length all ≤ length room = omega (arith, c.requires) in
    let done = law.succeeds all room _ 0 _ c.put.result fits c.put.ensures in
    let is = rw done at c.put.ensures.ok in
    let same = law.same_slice all room sink.room.now _ sink.room.ghost_name 0 sink.place is in
    let filled = law.fills all room sink.room.now _ _ 0 sink.place fits sink.within is in
    let moved : sink.place ≡ length all = omega (arith, filled.moved) in
    subst (λ new. FillsSlice all 0 room new (length all)) (search (rules, same))
    (subst (λ at. FillsSlice all 0 room sink.room.now at) moved filled)
