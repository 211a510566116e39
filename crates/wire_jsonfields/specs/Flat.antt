-- Scalars are no arrays and no objects.
use Rattle.std.proofs.Common.{◌≡◌, true, false, inl, inr, refl, ap, ◌∙◌}
use Rattle.std.specs.Prelude.{codes}
use Rattle.std.specs.Float.{Format, nan, inf, fin}
use Rattle.wire_json.specs.Json.{Json, number, string, depth}
use Rattle.wire_protojson.specs.Enums.{EnumTable, IsEnumTree}
use Rattle.wire_protojson.specs.Trees.{IsFloatTree, short_signed_tree}

-- no tree of a value is an array or an object
abbrev pub AreFlat : {V : Type 0} → (V → Json → Type 0) → Type 0
AreFlat {V} Tree = (value : V) (json : Json) → Tree value json → depth json ≡ 0

pub flat_tree : (tree : Json) → depth tree ≡ 0 → (json : Json) → json ≡ tree → depth json ≡ 0
flat_tree tree flat json is = ap depth is ∙ flat

pub flat_float : (f : Format) → AreFlat (IsFloatTree f)
flat_float f nan json is = flat_tree (string (codes "NaN")) refl json is
flat_float f (inf true) json is = flat_tree (string (codes "-Infinity")) refl json is
flat_float f (inf false) json is = flat_tree (string (codes "Infinity")) refl json is
flat_float f (fin negative m e) json (text, is, spells, parses) =
    flat_tree (number text) refl json is

pub flat_enum : (names : EnumTable) → AreFlat (IsEnumTree names)
flat_enum names z json (inl (text, named, is)) = flat_tree (string text) refl json is
flat_enum names z json (inr (none, is)) = flat_tree (short_signed_tree z) refl json is
