-- The records that are picked and all others, record by record.
use Rattle.std.proofs.Common.{◌≡◌, ◌≢◌, ◌⊎◌, ℕ, Bool, true, false, cond, refl, sym, ap, ◌∙◌}
use Rattle.std.proofs.Common.{List, [], ◌∷◌, inl, inr}
use Rattle.std.proofs.lemmas.Bool.{eqb-true}
use Rattle.std.proofs.lemmas.Bool.Decides.{eqb_tells}
use Rattle.std.specs.List.{filter}
use Rattle.std.specs.Prelude.{◌==◌, ◌&&◌, not, Option, Some, None}
use Rattle.wire_codec.specs.Field.{Payload, Fields, none, field, joined, push, type_of}
use Rattle.wire_codec.specs.FieldNumber.{IsFieldNumber}
use Rattle.wire_codec.specs.InRange.{AreNumbered, IsPayloadNumbered}
use Rattle.wire_codec.specs.UnknownField.{UnknownField}
use Rattle.wire_codec.specs.UnknownFields.{payload_of, fields_of}
use Rattle.wire_fields.specs.declared.leaving.OwnTypes.{OwnTypes}
use Rattle.wire_fields.specs.Back.{AllAre}
use Rattle.wire_fields.specs.Leaving.{has_type}
use Rattle.wire_fields.specs.Shape.{Owns}
use Rattle.wire_extensions.specs.Extension.{picked, others, replaced, is_own}
use Rattle.wire_extensions.specs.Laws.{AllOwned, OneLeavesOthers}

pub either_way : (b : Bool) → (b ≡ true) ⊎ (b ≡ false)
either_way true = inl refl
either_way false = inr refl

-- ---- one record

module _ (owns : Owns) (n : ℕ) (p : Payload) (rest : Fields) where
  pub own_is : owns n p ≡ true → picked owns (field n p rest) ≡ field n p (picked owns rest)
  own_is h = ap (λ b. cond b (field n p (picked owns rest)) (picked owns rest)) h

  pub own_not : owns n p ≡ false → picked owns (field n p rest) ≡ picked owns rest
  own_not h = ap (λ b. cond b (field n p (picked owns rest)) (picked owns rest)) h

  pub others_own : owns n p ≡ true → others owns (field n p rest) ≡ others owns rest
  others_own h = ap (λ b. cond b (others owns rest) (field n p (others owns rest))) h

  pub others_not : owns n p ≡ false → others owns (field n p rest) ≡ field n p (others owns rest)
  others_not h = ap (λ b. cond b (others owns rest) (field n p (others owns rest))) h

pub not_none : (k : ℕ) (p : Payload) (rest fs : Fields) → fs ≡ field k p rest → fs ≢ none
not_none k p rest fs h e = absurd cc

-- a list that is not some list is none
pub none_is : (fs : Fields) → (fs ≢ none → ⊥) → fs ≡ none
none_is none h = refl
none_is (field n p rest) h = absurd (h (not_none n p rest (field n p rest) refl))

-- ---- what is kept

kept_one : (b : Bool) (f : UnknownField) (ys : List UnknownField) (zs : Fields) → fields_of ys ≡ zs
    → fields_of (cond (not b) (f ∷ ys) ys) ≡ cond b zs (field f.number (payload_of f.value) zs)
kept_one true f ys zs h = h
kept_one false f ys zs h = ap (field f.number (payload_of f.value)) h

pub filtered_are_others : (owns : Owns) (all : List UnknownField)
    → fields_of (filter (λ (f : UnknownField). not (owns f.number (payload_of f.value))) all)
    ≡ others owns (fields_of all)
filtered_are_others owns [] = refl
filtered_are_others owns (f ∷ fs) =
    kept_one (owns f.number (payload_of f.value)) f
    (filter (λ (x : UnknownField). not (owns x.number (payload_of x.value))) fs)
    (others owns (fields_of fs)) (filtered_are_others owns fs)

-- ---- lists

pub joined_none : (fs : Fields) → joined fs none ≡ fs
joined_none none = refl
joined_none (field n p rest) = ap (field n p) (joined_none rest)

pub push_joined : (fs : Fields) (n : ℕ) (p : Payload) (gs : Fields)
    → joined (push fs n p) gs ≡ joined fs (field n p gs)
push_joined none n p gs = refl
push_joined (field k q rest) n p gs = ap (field k q) (push_joined rest n p gs)

module _ (owns : Owns) where
  none_left : (fs : Fields) → picked owns (others owns fs) ≡ none
  none_left none = refl
  none_left (field n p rest) = elim (either_way (owns n p)) [
    | inl e ↦ ap (picked owns) (others_own owns n p rest e) ∙ none_left rest
    | inr e ↦ ap (picked owns) (others_not owns n p rest e)
        ∙ own_not owns n p (others owns rest) e ∙ none_left rest
  ]

  twice : (fs : Fields) → others owns (others owns fs) ≡ others owns fs
  twice none = refl
  twice (field n p rest) = elim (either_way (owns n p)) [
    | inl e ↦ ap (others owns) (others_own owns n p rest e) ∙ twice rest
        ∙ sym (others_own owns n p rest e)
    | inr e ↦ ap (others owns) (others_not owns n p rest e)
        ∙ others_not owns n p (others owns rest) e ∙ ap (field n p) (twice rest)
        ∙ sym (others_not owns n p rest e)
  ]

  pub owned_joined : (fs gs : Fields)
      → picked owns (joined fs gs) ≡ joined (picked owns fs) (picked owns gs)
  owned_joined none gs = refl
  owned_joined (field n p rest) gs = elim (either_way (owns n p)) [
    | inl e ↦ own_is owns n p (joined rest gs) e ∙ ap (field n p) (owned_joined rest gs)
        ∙ sym (ap (λ fs. joined fs (picked owns gs)) (own_is owns n p rest e))
    | inr e ↦ own_not owns n p (joined rest gs) e ∙ owned_joined rest gs
        ∙ sym (ap (λ fs. joined fs (picked owns gs)) (own_not owns n p rest e))
  ]

  others_joined : (fs gs : Fields)
      → others owns (joined fs gs) ≡ joined (others owns fs) (others owns gs)
  others_joined none gs = refl
  others_joined (field n p rest) gs = elim (either_way (owns n p)) [
    | inl e ↦ others_own owns n p (joined rest gs) e ∙ others_joined rest gs
        ∙ sym (ap (λ fs. joined fs (others owns gs)) (others_own owns n p rest e))
    | inr e ↦ others_not owns n p (joined rest gs) e ∙ ap (field n p) (others_joined rest gs)
        ∙ sym (ap (λ fs. joined fs (others owns gs)) (others_not owns n p rest e))
  ]

  all_own : (fs : Fields) → AllOwned owns fs → picked owns fs ≡ fs
  all_own none h = refl
  all_own (field n p rest) h = own_is owns n p rest h.0 ∙ ap (field n p) (all_own rest h.1)

  no_others : (fs : Fields) → AllOwned owns fs → others owns fs ≡ none
  no_others none h = refl
  no_others (field n p rest) h = others_own owns n p rest h.0 ∙ no_others rest h.1

  pub own_replaced : (fs more : Fields) → AllOwned owns more
      → picked owns (replaced owns fs more) ≡ more
  own_replaced fs more h =
      owned_joined (others owns fs) more
      ∙ ap (λ x. joined x (picked owns more)) (none_left fs) ∙ all_own more h

  rest_replaced : (fs more : Fields) → AllOwned owns more
      → others owns (replaced owns fs more) ≡ others owns fs
  rest_replaced fs more h =
      others_joined (others owns fs) more
      ∙ ap (λ x. joined (others owns (others owns fs)) x) (no_others more h)
      ∙ joined_none (others owns (others owns fs)) ∙ twice fs

  -- where nothing is picked, all are others
  pub all_others : (fs : Fields) → picked owns fs ≡ none → others owns fs ≡ fs
  all_others none h = refl
  all_others (field n p rest) h = elim (either_way (owns n p)) [
    | inl e ↦ absurd (not_none n p (picked owns rest) (picked owns (field n p rest))
        (own_is owns n p rest e) h)
    | inr e ↦ others_not owns n p rest e
        ∙ ap (field n p) (all_others rest (sym (own_not owns n p rest e) ∙ h))
  ]

-- ---- another extension

module _ (owns apart : Owns)
    (differ : (n : ℕ) (p : Payload) → owns n p ≡ true → apart n p ≡ false) where
  left : (fs : Fields) → picked apart (others owns fs) ≡ picked apart fs
  left none = refl
  left (field n p rest) = elim (either_way (owns n p)) [
    | inl e ↦ ap (picked apart) (others_own owns n p rest e) ∙ left rest
        ∙ sym (own_not apart n p rest (differ n p e))
    | inr e ↦ ap (picked apart) (others_not owns n p rest e)
        ∙ ap (λ fs. cond (apart n p) (field n p fs) fs) (left rest)
  ]

  no_own : (fs : Fields) → AllOwned owns fs → picked apart fs ≡ none
  no_own none h = refl
  no_own (field n p rest) h = own_not apart n p rest (differ n p h.0) ∙ no_own rest h.1

  other_replaced : (fs more : Fields) → AllOwned owns more
      → picked apart (replaced owns fs more) ≡ picked apart fs
  other_replaced fs more h =
      owned_joined apart (others owns fs) more
      ∙ ap (λ x. joined (picked apart (others owns fs)) x) (no_own more h)
      ∙ joined_none (picked apart (others owns fs)) ∙ left fs

first_of_both : (a b : Bool) → (a && b) ≡ true → a ≡ true
first_of_both true b h = refl
first_of_both false b h = absurd cc

not_both : (a b : Bool) → a ≡ false → (a && b) ≡ false
not_both true b h = absurd cc
not_both false b h = refl

own_number : (n : ℕ) (s : Option OwnTypes) (j : ℕ) (p : Payload) → is_own n s j p ≡ true → j ≡ n
own_number n None j p h = eqb-true j n h
own_number n (Some types) j p h =
    eqb-true j n (first_of_both (j == n) (has_type types (type_of p)) h)

other_number : (n : ℕ) (s : Option OwnTypes) (j : ℕ) (p : Payload) → (j == n) ≡ false
    → is_own n s j p ≡ false
other_number n None j p h = h
other_number n (Some types) j p h = not_both (j == n) (has_type types (type_of p)) h

numbers_differ : (n k : ℕ) (s t : Option OwnTypes) → n ≢ k → (j : ℕ) (p : Payload)
    → is_own n s j p ≡ true → is_own k t j p ≡ false
numbers_differ n k s t other j p own =
    other_number k t j p (elim (eqb_tells j k) [
      | inl e ↦ absurd (other (sym (own_number n s j p own) ∙ e.1))
      | inr e ↦ e.0
    ])

same_number : (n j : ℕ) → j ≡ n → (j == n) ≡ true
same_number n j h = elim (eqb_tells j n) [ inl e ↦ e.0 | inr e ↦ absurd (e.1 h) ]

all_of_number : (n : ℕ) (fs : Fields) → AllAre (λ j. j ≡ n) fs → AllOwned (is_own n None) fs
all_of_number n none h = tt
all_of_number n (field j p rest) h = (same_number n j h.0, all_of_number n rest h.1)

numbered_one : (b : Bool) (n : ℕ) (p : Payload) (rest : Fields) → IsFieldNumber n
    → IsPayloadNumbered p → AreNumbered rest → AreNumbered (cond b (field n p rest) rest)
numbered_one true n p rest number payload h = (number, payload, h)
numbered_one false n p rest number payload h = h

numbered : (owns : Owns) (fs : Fields) → AreNumbered fs → AreNumbered (picked owns fs)
numbered owns none h = tt
numbered owns (field n p rest) h =
    numbered_one (owns n p) n p (picked owns rest) h.0 h.1 (numbered owns rest h.2)

pub one_leaves_others_lemma : OneLeavesOthers
one_leaves_others_lemma = record {
  own = own_replaced;
  rest = rest_replaced;
  again = λ owns fs first more h. ap (λ x. joined x more) (rest_replaced owns fs first h);
  other = λ owns apart fs more differ h. other_replaced owns apart differ fs more h;
  cleared = none_left;
  added = λ owns fs more h. owned_joined owns fs more
      ∙ ap (λ x. joined (picked owns fs) x) (all_own owns more h);
  numbered = numbered;
  all = all_of_number;
  numbers = numbers_differ;
}
