-- Elements of a packed payload, appended one after another.
use Rattle.std.proofs.Common.{◌≡◌, ℕ, ◌+◌, ◌*◌, ◌%◌, List, [], ◌∷◌, ◌++◌, length, refl, sym, ap, ◌∙◌, append_assoc, arith}
use Rattle.std.proofs.Math.Nat.{mul-add-mod_self_left}
use Rattle.std.proofs.lemmas.List.{append-nil, length-append}
use Rattle.std.specs.Int.{Width, byte_len}
use Rattle.std.specs.Prelude.{map}
use Rattle.wire_scalar.specs.Packed.{SpellsEach, Appends}
use Rattle.wire_base.specs.Fixed.{IsFixed}
use Rattle.wire_scalar.specs.Reading.{ReadsValue}
use Rattle.wire_scalar.specs.ValueMap.{ValueMap}

-- a text of one number more at the end
SpellsEach-push : (IsText : ℕ → List ℕ → Type 0) (xs text : List ℕ) (x : ℕ) (one : List ℕ)
    → SpellsEach IsText xs text → IsText x one → SpellsEach IsText (xs ++ x ∷ []) (text ++ one)
SpellsEach-push IsText [] text x one s t =
    (one, [], ap (λ (u : List ℕ). u ++ one) s ∙ sym (append-nil one), t, refl)
SpellsEach-push IsText (y ∷ ys) text x one s t = (
  s.0,
  s.1 ++ one,
  ap (λ (u : List ℕ). u ++ one) s.2
      ∙ append_assoc s.0 s.1 one,
  s.3,
  SpellsEach-push IsText ys s.1 x one s.4 t,
)

map-push : {T : Type 0} (f : ℕ → T) (xs : List ℕ) (x : ℕ)
    → map f (xs ++ x ∷ []) ≡ map f xs ++ f x ∷ []
map-push f [] x = refl
map-push f (y ∷ ys) x = ap (λ (t : List _). f y ∷ t) (map-push f ys x)

-- the elements of the payload up to what is left stand in now behind before
pub record Appended {T : Type 0} (IsText : ℕ → List ℕ
    → Type 0) (values : ValueMap T) (payload left : List ℕ) (before now : List T) : Type 0 where
  pub front : List ℕ
  pub parts : payload ≡ front ++ left
  pub appended : Appends IsText values front before now

module _ {T : Type 0} (IsText : ℕ → List ℕ
    → Type 0) (values : ValueMap T) (payload : List ℕ) (before : List T) where
  -- one element more
  pub Appended-more : (left next : List ℕ) (now after : List T) (value : T)
      → Appended IsText values payload left before now → ReadsValue IsText values left value next
      → after ≡ now ++ value ∷ []
      → Appended IsText values payload next before after
  Appended-more left next now after value a r e =
      let so_far = a.appended in
      record {
        front = a.front ++ r.read.text;
        parts = a.parts ∙ ap (λ (t : List ℕ). a.front ++ t) r.read.parts
            ∙ sym (append_assoc a.front r.read.text next);
        appended = record {
          numbers = so_far.numbers ++ r.number ∷ [];
          spelled = SpellsEach-push IsText so_far.numbers a.front r.number r.read.text
              so_far.spelled r.read.spelled;
          appended = e ∙ ap (λ (t : List T). t ++ value ∷ []) so_far.appended
              ∙ append_assoc before (map values.dec so_far.numbers) (value ∷ [])
              ∙ ap (λ (t : List T). before ++ t)
              (ap (λ (v : T). map values.dec so_far.numbers ++ v ∷ []) r.is
              ∙ sym (map-push values.dec so_far.numbers r.number));
        };
      }

-- nothing is read yet
pub Appended-none : {T : Type 0} (IsText : ℕ → List ℕ → Type 0) (values : ValueMap T)
    (payload : List ℕ) (before : List T) → Appended IsText values payload payload before before
Appended-none IsText values payload before = record {
  front = [];
  parts = refl;
  appended = record {
    numbers = [];
    spelled = refl;
    appended = sym (append-nil before);
  };
}

-- one element less is still a multiple of the width
pub whole_rest : {T : Type 0} (width : Width) (values : ValueMap T) (left next : List ℕ) (value : T)
    → length left % byte_len width ≡ 0 → ReadsValue (IsFixed width) values left value next
    → length next % byte_len width ≡ 0
whole_rest width values left next value whole r =
    let len : length left ≡ byte_len width * 1 + length next = omega
    (arith, ap length r.read.parts, length-append r.read.text next, r.read.spelled.0) in
    sym (mul-add-mod_self_left (byte_len width) 1 (length next))
    ∙ ap (λ (n : ℕ). n % byte_len width) (sym len) ∙ whole
