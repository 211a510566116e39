use Rattle.std.proofs.Common.{ℤ, Some, is_some, sym, ap, ◌∙◌, option_map, string_bytes, w32}
use Rattle.std.proofs.lemmas.Int.{to_z-of_z}
use Rattle.std.specs.BTreeMap.{get}
use Rattle.std.specs.Option.{option_copied}
use Rattle.std.specs.Ordering.{int_cmp}
use Rattle.wire_dump.proofs.EnumNames.{named}
use Rattle.wire_dump.proofs.number.has_name.Goals as goal

pub returns : goal.returns
returns c =
    let e = c.in-Some.of_enum.now in
    let here = sym c.enum_at.ensures ∙ ap option_copied c.in-Some.is in
    let answer = c.in-Some-value_name.ensures
    ∙ ap (λ (v : ℤ). option_map string_bytes (get int_cmp e.names v))
    (to_z-of_z w32 c.args.number c.ranges.number) in
    sym (ap is_some (named c.args.schema.now c.args.place c.args.number e
    (Some c.in-Some-value_name.field-0.now) here answer))
