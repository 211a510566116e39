-- Values of enums.
use Rattle.std.proofs.Common.{◌≡◌, ℕ, List, [], ◌∷◌, inl, inr, refl, sym, ap, ◌∙◌, subst}
use Rattle.std.specs.Prelude.{ℤ, FitsSigned}
use Rattle.std.specs.Int.{w32}
use Rattle.wire_json.specs.Json.{Json, null, boolean, number, string, array, object}
use Rattle.wire_protojson.specs.Enums.{AreTexts, EnumTable, IsEnumTree, IsFirst, MeansEnum, NamesAgree}
use Rattle.wire_protojson.specs.Laws.{IsDecided, IsReadAs}
use Rattle.wire_protojson.specs.Trees.{short_signed_tree}
use Rattle.wire_protojson.specs.Decided.{decided}
use Rattle.wire_protojson.specs.DecidedScalars.{one_signed}
use Rattle.wire_protojson.proofs.NumberTexts.{fits_wider}
use Rattle.wire_protojson.proofs.ReadBack.{by_meaning, signed_back, spells_integer}

one_first : {X : Type 0} (P : X → Type 0) (xs : List X) (x y : X) → IsFirst P xs x
    → IsFirst P xs y → x ≡ y
one_first P [] x y p q = absurd p
one_first P (z ∷ xs) x y (inl (here, is)) (inl (again, same)) = sym is ∙ same
one_first P (z ∷ xs) x y (inl (here, is)) (inr (not, q)) = absurd (not here)
one_first P (z ∷ xs) x y (inr (not, p)) (inl (here, is)) = absurd (not here)
one_first P (z ∷ xs) x y (inr (not, p)) (inr (nor, q)) = one_first P xs x y p q

one_value : (names : EnumTable) (json : Json) (y z : ℤ) → MeansEnum names json y
    → MeansEnum names json z → y ≡ z
one_value names null y z p q = absurd p
one_value names (boolean b) y z p q = absurd p
one_value names (number text) y z p q = one_signed w32 (number text) y z p q
one_value names (string text) y z (e, first, is) (f, again, same) =
    sym is
    ∙ ap (λ (x : List ℕ × ℤ). x.1) (one_first (λ x. x.0 ≡ text) names e f first again)
    ∙ same
one_value names (array es) y z p q = absurd p
one_value names (object ms) y z p q = absurd p

pub enums_decided : (names : EnumTable) → IsDecided (MeansEnum names)
enums_decided names =
    decided (MeansEnum names) (one_value names) (λ es z m. absurd m) (λ ms z m. absurd m)

pub enums_read_back : (names : EnumTable) (z : ℤ) (json : Json) → FitsSigned w32 z
    → NamesAgree names → AreTexts names → IsEnumTree names z json
    → IsReadAs (MeansEnum names) z json
enums_read_back names z json fits agree texts (inl (text, named, is)) =
    let lawful = texts z text named in
    let means = agree z text named in
    let P : Json → Type 0 = λ j. IsReadAs (MeansEnum names) z j in
    subst P (sym is) (by_meaning (MeansEnum names) z (string text) lawful means)
enums_read_back names z json fits agree texts (inr (unnamed, is)) =
    let wide = fits_wider z fits in
    let means = signed_back w32 z wide fits (short_signed_tree z) refl in
    let P : Json → Type 0 = λ j. IsReadAs (MeansEnum names) z j in
    subst P (sym is)
    (by_meaning (MeansEnum names) z (short_signed_tree z) (spells_integer z wide) means)
