use Rattle.std.proofs.Common.{◌≡◌, Ok, Some, refl, sym, subst, rules}
use Rattle.wire_read.specs.Reading.{Gives, at}
use Rattle.wire_c.specs.Read.{HasRange, told_event}
use Rattle.wire_c.proofs.Ranges.{has_range}
use Rattle.wire_c.proofs.read.gtv_next.Goals as goal

pub returns-in-Ok-Some : goal.returns-in-Ok-Some
returns-in-Ok-Some c =
    let all = c.args.bytes.now in
    let e = c.in-Ok-Some.next in
    let given : Gives e all (at c.args.reader.now all) (at c.next.new.self all) = search rules in
    let told : c.tell_event.result ≡ told_event e = search rules in
    let range : HasRange all e c.tell_event.result =
    subst (HasRange all e) (sym told) (has_range all c.args.reader.now c.next.new.self e given) in
    record {
      next = Ok (Some e);
      gives = given;
      range = range;
      is_done = tt;
      unmoved = tt;
      stops = tt;
      unchanged = tt;
      told_event = told;
      told_fault = refl;
      answer = refl;
    }
