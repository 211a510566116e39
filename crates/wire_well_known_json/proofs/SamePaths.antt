-- Lists of strings whose bytes are the same.
use Rattle.std.proofs.Common.{◌≡◌, ◌≢◌, Bool, true, false, List, map, refl, ◌∙◌, sym, Global}
use Rattle.std.specs.Bool.{Decides, MatchBool}
use Rattle.std.specs.Cmp.Derive.Mapped.{pointwise-map}
use Rattle.std.specs.Cmp.Lexicographic.{pointwise}
use Rattle.std.specs.Prelude.{String, string_bytes}
use Rattle.std.specs.Str.{bytes_eq}
use Rattle.std.specs.String.{string_eq}
use Rattle.std.proofs.lemmas.Slice.Eq.{bytes_eq-Decides, slice_eq-Decides}

told : (r : Bool) (P : Type 0) → Decides r P → MatchBool r P (P → ⊥)
told true P h = h.0 refl
told false P h = λ p. let both = h.1 p in absurd cc

pub told_same : (xs ys : List (String Global)) (r : Bool) → r ≡ pointwise string_eq xs ys
    → MatchBool r (map string_bytes xs ≡ map string_bytes ys)
    (map string_bytes xs ≢ map string_bytes ys)
told_same xs ys r is =
    told r (map string_bytes xs ≡ map string_bytes ys)
    (slice_eq-Decides bytes_eq-Decides (map string_bytes xs) (map string_bytes ys) r
    (is ∙ sym (pointwise-map string_bytes bytes_eq xs ys)))
