use Rattle.std.proofs.Common.{◌≡◌, string_bytes, subst}
use Rattle.std.specs.Prelude.{Some, None}
use Rattle.std.proofs.Common.{w32, ◌∙◌, ap, option_map}
use Rattle.std.proofs.lemmas.Int.{to_z-of_z}
use Rattle.std.specs.BTreeMap.{get}
use Rattle.std.specs.Ordering.{int_cmp}
use Rattle.wire_dynamic.proofs.enum_type.EnumType.value_name.Goals as goal

pub returns-in-Some : goal.returns-in-Some
returns-in-Some c =
    let at = to_z-of_z w32 c.args.number c.ranges.number in
    let held = subst (λ q. Some c.in-Some.name.now ≡ get int_cmp c.args.self.now.names q) at c.in-Some.ensures.value in
    ap Some c.as_str.ensures.value ∙ ap (option_map string_bytes) held

pub returns-in-None : goal.returns-in-None
returns-in-None c =
    let at = to_z-of_z w32 c.args.number c.ranges.number in
    let held = subst (λ q. None ≡ get int_cmp c.args.self.now.names q) at c.in-None.ensures.value in
    ap (option_map string_bytes) held
