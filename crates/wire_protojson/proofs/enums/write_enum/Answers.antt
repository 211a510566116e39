use Rattle.std.proofs.Common.{◌≡◌, ◌++◌, ℕ, List, w32, inl, inr, refl, subst}
use Rattle.std.specs.Prelude.{ℤ, OnOk}
use Rattle.std.specs.Fmt.{signed_decimal}
use Rattle.std.proofs.lemmas.Int.{to_z-of_z}
use Rattle.wire_json.specs.Json.{string}
use Rattle.wire_protojson.specs.Enums.{IsEnumTree, NumberIsNamed, enum_table}
use Rattle.wire_protojson.specs.Trees.{short_signed_tree}
use Rattle.wire_protojson.proofs.Floats.{put_tree}
use Rattle.wire_protojson.proofs.enums.write_enum.Goals as goal

pub returns-in-Some-clause-ok : goal.returns-in-Some-clause-ok
returns-in-Some-clause-ok c =
    let names = enum_table c.args.names.now in
    let name = c.in-Some.name.now in
    let at = to_z-of_z w32 c.args.number c.ranges.number in
    let P : ℤ → Type 0 = λ n. NumberIsNamed names n name in
    put_tree (IsEnumTree names c.args.number) (string name)
    (inl (name, subst P at c.in-Some.ensures.some, refl)) c.write_string.result
    c.args.out.now.items c.write_string.new.out.items c.write_string.ensures.ok

pub returns-in-None-clause-ok : goal.returns-in-None-clause-ok
returns-in-None-clause-ok c =
    let names = enum_table c.args.names.now in
    let at = to_z-of_z w32 c.args.number c.ranges.number in
    let P : ℤ → Type 0 = λ n. (name : List ℕ) → NumberIsNamed names n name → ⊥ in
    let put : ℤ → Type 0 = λ n. OnOk c.write_int32.result
    (c.write_int32.new.out.items ≡ c.args.out.now.items ++ signed_decimal n) in
    put_tree (IsEnumTree names c.args.number) (short_signed_tree c.args.number)
    (inr (subst P at c.in-None.ensures.none, refl)) c.write_int32.result
    c.args.out.now.items c.write_int32.new.out.items
    (subst put at c.write_int32.ensures.ok)
