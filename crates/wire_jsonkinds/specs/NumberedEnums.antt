-- Values of enums that are written as numbers.
use Rattle.std.proofs.Common.{◌≡◌, refl, sym, subst}
use Rattle.std.specs.Int.{w32}
use Rattle.std.specs.Prelude.{ℤ, FitsSigned, Option}
use Rattle.wire_json.specs.Json.{Json}
use Rattle.wire_protojson.specs.Enums.{EnumTable, MeansEnum}
use Rattle.wire_protojson.specs.Numbers.{MeansSigned}
use Rattle.wire_protojson.specs.Trees.{short_signed_tree}
use Rattle.wire_jsonfields.specs.Back.{ComesBack}
use Rattle.wire_jsonfields.specs.Flat.{AreFlat, flat_tree}
use Rattle.wire_jsonfields.specs.ScalarsBack.{short_signed_back}
use Rattle.wire_jsonkinds.specs.ClosedEnums.{IsInClosed, MeansClosed, closed_also}

-- the number of a value
abbrev pub IsNumberTree : ℤ → Json → Type 0
IsNumberTree z json = json ≡ short_signed_tree z

pub flat_number : AreFlat IsNumberTree
flat_number z json is = flat_tree (short_signed_tree z) refl json is

pub numbered_back : (names : EnumTable) (z : ℤ) → FitsSigned w32 z
    → ComesBack (MeansEnum names) IsNumberTree z
numbered_back names z fits json is =
    let back = short_signed_back z fits json is in
    let meant = subst (λ (j : Json). MeansSigned w32 j z) is back.means in
    record {
      lawful = back.lawful;
      means = subst (λ (j : Json). MeansEnum names j z) (sym is) meant;
      present = back.present;
    }

pub closed_numbered_back : {E : Type 0} (of_number : ℤ → Option E) (names : EnumTable) (z : ℤ)
    → IsInClosed of_number z → ComesBack (MeansClosed of_number names) IsNumberTree z
closed_numbered_back of_number names z is =
    closed_also of_number names IsNumberTree z is.1 (numbered_back names z is.0)
