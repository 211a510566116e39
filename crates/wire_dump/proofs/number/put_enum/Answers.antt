use Rattle.std.proofs.Common.{List, ℕ, ℤ, Option, Some, sym, ap, ◌∙◌, ◌++◌, option_map, string_bytes, w32}
use Rattle.std.proofs.lemmas.Int.{to_z-of_z}
use Rattle.std.specs.BTreeMap.{get}
use Rattle.std.specs.Fmt.{signed_decimal}
use Rattle.std.specs.Option.{option_copied, option_map_or}
use Rattle.std.specs.Ordering.{int_cmp}
use Rattle.wire_dump.proofs.EnumNames.{named}
use Rattle.wire_dump.proofs.number.put_enum.Goals as goal

pub returns : goal.returns
returns c =
    let e = c.in-Some.of_enum.now in
    let old = c.args.out.now.items in
    let here = sym c.enum_at.ensures ∙ ap option_copied c.in-Some.is in
    let answer = c.in-Some-value_name.ensures
    ∙ ap (λ (v : ℤ). option_map string_bytes (get int_cmp e.names v))
    (to_z-of_z w32 c.args.number c.ranges.number) in
    let is = named c.args.schema.now c.args.place c.args.number e
    (Some c.in-Some-value_name.name.now) here answer in
    c.in_ok-extend_from_slice.ensures.items
    ∙ ap (λ (x : List ℕ). old ++ x) c.as_bytes.ensures.value
    ∙ sym (ap (λ (x : Option (List ℕ)). old
    ++ option_map_or (λ name. name) x (signed_decimal c.args.number)) is)
