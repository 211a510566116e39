-- Paths, step by step.
use Rattle.std.proofs.Common.{◌≡◌, ℕ, zero, suc, ◌+◌, ◌-◌, List, [], ◌∷◌, ◌++◌, append-nil, length, take, refl, sym, ap, ◌∙◌, subst}
use Rattle.wire_json.specs.Bytes.{past_space}
use Rattle.wire_jsonpath.specs.Laws.{HasOnePath}
use Rattle.wire_jsonpath.specs.Path.{TreeStep}
use Rattle.wire_jsonpath.specs.Places.{IsPathFrom, IsPathTo, LeadsTo, NothingHolds}
use Rattle.wire_jsonpath.proofs.Holding.{one_step}

pub a_step : (levels inner left : ℕ) (old item : List ℕ) (step : TreeStep) (path : List TreeStep)
    → inner ≡ suc levels → LeadsTo levels left old step item → IsPathFrom levels left item path
    → IsPathFrom inner left old (step ∷ path)
a_step levels inner left old item step path is leads from =
    let P : ℕ → Type 0 = λ n. IsPathFrom n left old (step ∷ path) in
    subst P (sym is) (item, leads, from)

pub no_step : (levels inner left : ℕ) (old : List ℕ) → inner ≡ suc levels
    → NothingHolds levels left old → IsPathFrom inner left old []
no_step levels inner left old is nothing =
    let P : ℕ → Type 0 = λ n. IsPathFrom n left old [] in
    subst P (sym is) nothing

pub no_level : (inner left : ℕ) (old : List ℕ) → inner ≡ 0 → IsPathFrom inner left old []
no_level inner left old is =
    let P : ℕ → Type 0 = λ n. IsPathFrom n left old [] in
    subst P (sym is) refl

one_from : (levels left : ℕ) (old : List ℕ) (p q : List TreeStep) → IsPathFrom levels left old p
    → IsPathFrom levels left old q → p ≡ q
one_from zero left old p q h g = h ∙ sym g
one_from (suc levels) left old [] [] h g = refl
one_from (suc levels) left old [] (t ∷ q) h (y, leads, from) = absurd (h t y leads)
one_from (suc levels) left old (s ∷ p) [] (x, leads, from) g = absurd (g s x leads)
one_from (suc levels) left old (s ∷ p) (t ∷ q) (x, leads, from) (y, led, further) =
    let both = one_step levels left old s t x y leads led in
    let P : List ℕ → Type 0 = λ a. IsPathFrom levels left a p in
    let more : p ≡ q = one_from levels left y p q (subst P both.1 from) further in
    ap (λ (a : TreeStep). a ∷ p) both.0 ∙ ap (λ (a : List TreeStep). t ∷ a) more

pub has_one_path : HasOnePath
has_one_path levels text at p q h g = one_from levels _ _ p q h g

-- the path of a text, from its front and the bytes of that from the byte on
pub told : (levels : ℕ) (text : List ℕ) (at : ℕ) (front : List ℕ) (left : ℕ) (path : List TreeStep)
    → front ≡ take (at + 1) text → left ≡ length front - at
    → IsPathFrom levels left (past_space front) (path ++ []) → IsPathTo levels text at path
told levels text at front left path is rest h =
    let P : List TreeStep → Type 0 = λ p. IsPathFrom levels left (past_space front) p in
    let Q : ℕ → Type 0 = λ n. IsPathFrom levels n (past_space front) path in
    let R : List ℕ → Type 0 = λ f. IsPathFrom levels (length f - at) (past_space f) path in
    subst R is (subst Q rest (subst P (append-nil path) h))
