-- Texts of numbers.
use Rattle.std.proofs.Common.{◌≡◌, ℕ, ◌≤◌, Bool, true, false, List, [], length, drop, Ok, nat_eq, ap, arith, length-drop}
use Rattle.std.proofs.lemmas.Bool.Decides.{nat_tests}
use Rattle.std.specs.Prelude.{ℤ, pos, negsuc, FitsSigned}
use Rattle.std.specs.Bool.{OnFalse}
use Rattle.std.specs.Int.{w32, w64}
use Rattle.wire_json.specs.Number.{number_end, SpellsNumber}

-- a number that ends before the text does is not all of it
pub ends_before : (text : List ℕ) (end : ℕ) (whole : Bool) → nat_eq end (length text) ≡ whole
    → number_end text ≡ Ok (drop end text) → end ≤ length text
    → OnFalse whole (SpellsNumber text → ⊥)
ends_before text end true is ends within = tt
ends_before text end false is ends within = λ all.
    let none : drop end text ≡ [] = cc in
    let left : length (drop end text) ≡ 0 = ap length none in
    let same : end ≡ length text = omega (arith, left, length-drop end text) in
    grind (arith, nat_tests)

-- what 32 bits hold, 64 do
pub fits_wider : (z : ℤ) → FitsSigned w32 z → FitsSigned w64 z
fits_wider (pos n) h = omega (arith, h)
fits_wider (negsuc n) h = omega (arith, h)
