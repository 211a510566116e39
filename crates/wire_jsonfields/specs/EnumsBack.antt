-- What is written of enums is read as them.
use Rattle.std.proofs.Common.{◌≡◌, ℕ, List, inl, inr, refl, sym, subst}
use Rattle.std.specs.Prelude.{ℤ, FitsSigned}
use Rattle.std.specs.Int.{w32}
use Rattle.wire_json.specs.Json.{Json, null, number, string, IsLawful}
use Rattle.wire_protojson.specs.Enums.{AreTexts, EnumTable, IsEnumTree, MeansEnum, NamesAgree}
use Rattle.wire_protojson.specs.Trees.{short_signed_tree}
use Rattle.wire_protojson.proofs.NumberTexts.{fits_wider}
use Rattle.wire_protojson.proofs.ReadBack.{signed_back, spells_integer}
use Rattle.wire_jsonfields.specs.Back.{ComesBack}

string_not_null : (s : List ℕ) (e : Json) → e ≡ string s → e ≡ null → ⊥
string_not_null s e is h = absurd cc

number_not_null : (s : List ℕ) (e : Json) → e ≡ number s → e ≡ null → ⊥
number_not_null s e is h = absurd cc

pub enum_back : (names : EnumTable) → NamesAgree names → AreTexts names → (z : ℤ)
    → FitsSigned w32 z → ComesBack (MeansEnum names) (IsEnumTree names) z
enum_back names agree texts z fits json (inl (text, named, is)) = record {
  lawful = subst IsLawful (sym is) (texts z text named);
  means = subst (λ (j : Json). MeansEnum names j z) (sym is) (agree z text named);
  present = string_not_null text json is;
}
enum_back names agree texts z fits json (inr (unnamed, is)) =
    let wide = fits_wider z fits in
    record {
      lawful = subst IsLawful (sym is) (spells_integer z wide);
      means = subst (λ (j : Json). MeansEnum names j z) (sym is)
          (signed_back w32 z wide fits (short_signed_tree z) refl);
      present = number_not_null _ json is;
    }
