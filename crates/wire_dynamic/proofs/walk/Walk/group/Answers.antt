use Rattle.std.proofs.Common.{◌≡◌, arith, ap, refl, sym, ◌∙◌, length, take}
use Rattle.std.specs.Prelude.{Some, min, reverse, slice_get}
use Rattle.std.proofs.lemmas.Grind.{common_steps}
use Rattle.std.proofs.lemmas.List.{reverse-reverse}
use Rattle.std.proofs.lemmas.Option.{slice_get_read}
use Rattle.wire_read.specs.Reading.{groups_of}
use Rattle.wire_dynamic.specs.Told.{reader_of, root_of, schema_of}
use Rattle.wire_dynamic.specs.Walks.{field_in, innermost}
use Rattle.wire_dynamic.proofs.walk.Walk.group.Goals as goal

pub returns : goal.returns
returns c =
    let w = c.args.self.now in
    let gs = c.open_groups-groups.result.now in
    let k = c.args.count in
    let n = c.in_ok-number.number.now in
    let same : reverse (groups_of (reader_of w)) ≡ gs = ap reverse (sym c.open_groups-groups.ensures) ∙ reverse-reverse gs in
    let lookup = c.in_ok-number.ensures.lookup in
    let here : slice_get gs k ≡ Some n = slice_get_read gs (length gs) k n refl lookup.3.0 lookup.1 in
    let part : take (min k (length gs)) gs ≡ take k gs = grind (arith, common_steps, here) in
    let outside = c.innermost-outside.ensures
    ∙ ap (λ l. innermost (schema_of w) (root_of w) (reverse l))
    (ap (λ i. take i gs) c.min.ensures ∙ part) in
    rw (same, here) (c.field_of.ensures ∙ ap (field_in (schema_of w) n) outside)
