-- Clones of lists, of maps and of values that may be absent, as contracts see them.
use Rattle.std.proofs.Common.{◌≡◌, ap, ◌∙◌, List, [], ◌∷◌, map, refl}
use Rattle.std.specs.List.{AllZip}
use Rattle.std.specs.Prelude.{ℤ, MatchResult, IfOk, Result, Ok, Err}
use Rattle.wire_codec.specs.EnumValue.{EnumValue}
use Rattle.wire_codec.specs.EnumValue.TheVariants.{Known, Unknown}

pub if_ok : {A E : Type 0} {P R : A → Type 0} (Q : E → Type 0) → ((v : A) → P v → R v)
    → (r : Result A E) → MatchResult r P Q → IfOk r R
if_ok Q f (Ok v) h = f v h
if_ok Q f (Err e) h = tt

pub same_list : {T V : Type 0} (R : T → T → Type 0) (seen : T → V)
    → ((x y : T) → R x y → seen y ≡ seen x) → (xs ys : List T) → AllZip R xs ys
    → map seen ys ≡ map seen xs
same_list R seen each [] [] h = refl
same_list R seen each [] (y ∷ ys) h = elim h [ ]
same_list R seen each (x ∷ xs) [] h = elim h [ ]
same_list R seen each (x ∷ xs) (y ∷ ys) h =
    ap (λ v. v ∷ map seen ys) (each x y h.0)
    ∙ ap (λ vs. seen x ∷ vs) (same_list R seen each xs ys h.1)

pub same_entry : {S T K V : Type 0} (C : S → S → Type 0) (D : T → T → Type 0) (key : S → K)
    (value : T → V) → ((x y : S) → C x y → key y ≡ key x)
    → ((x y : T) → D x y → value y ≡ value x) → (p q : S × T) → C p.0 q.0 × D p.1 q.1
    → ◌≡◌ {A = K × V} (key q.0, value q.1) (key p.0, value p.1)
same_entry C D key value keys values p q h =
    ap (λ k. (k, value q.1)) (keys p.0 q.0 h.0) ∙ ap (λ v. (key p.0, v)) (values p.1 q.1 h.1)

-- copies of numbers of an enum are equal where those of its values are
pub same_enum : {E : Type 0} {R : E → E → Type 0} → ((x y : E) → R x y → y ≡ x)
    → (C : EnumValue E → EnumValue E → Type 0) → ((x y : E) → C (Known x) (Known y) → R x y)
    → ((x : E) (n : ℤ) → C (Known x) (Unknown n) → ⊥)
    → ((m : ℤ) (y : E) → C (Unknown m) (Known y) → ⊥)
    → ((m n : ℤ) → C (Unknown m) (Unknown n) → n ≡ m)
    → (x y : EnumValue E) → C x y → y ≡ x
same_enum same C known low high unknown (Known x) (Known y) h =
    ap (λ e. Known e) (same x y (known x y h))
same_enum same C known low high unknown (Known x) (Unknown n) h = elim (low x n h) [ ]
same_enum same C known low high unknown (Unknown m) (Known y) h = elim (high m y h) [ ]
same_enum same C known low high unknown (Unknown m) (Unknown n) h =
    ap (λ e. Unknown e) (unknown m n h)
