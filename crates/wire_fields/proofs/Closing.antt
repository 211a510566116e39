-- Numbers of closed enums: what they add, and what is kept of them.
use Rattle.std.proofs.Common.{◌≡◌, ◌⊎◌, inl, inr, ℕ, ℤ, ◌+◌, ◌<◌, List, [], ◌∷◌, get_or, length, map, drop, add-one, drop-cons, refl, sym, ap, ◌∙◌, subst}
use Rattle.std.proofs.lemmas.List.{map-id}
use Rattle.std.specs.Prelude.{Option, Some, None, Result, Ok, Err, OnOk}
use Rattle.wire_codec.specs.EnumValue.{EnumValue}
use Rattle.wire_codec.specs.EnumValue.TheVariants.{Known}
use Rattle.wire_codec.specs.Field.{Payload, Fields, varint, fixed64, fixed32, bytes, group}
use Rattle.wire_codec.specs.Limits.{Limits, Fits, NoCountGrew, left_after, no_charge, one_field}
use Rattle.wire_codec.specs.LimitsLaws.{LimitsAddUp, CountsFall}
use Rattle.wire_codec.specs.Packed.{SpellsEach}
use Rattle.wire_codec.specs.Taking.{TakesRecord, IsCharged, NotTaken}
use Rattle.wire_codec.specs.TakingLaws.{OneReading}
use Rattle.wire_codec.specs.ValueMap.{int32, uint64}
use Rattle.wire_codec.specs.Varint.{IsSpelling}
use Rattle.wire_codec.specs.WireType.{WireType}
use Rattle.wire_fields.specs.Closed.{HasNumbers, adds_known, sets_known, sorted, sort_charge}
use Rattle.wire_fields.specs.Closed.{all_sorted, all_charge, closes, closes_each, same_numbers}
use Rattle.wire_fields.specs.declared.form.Form.TheVariants.{Varint}
use Rattle.wire_fields.specs.Numbers.{ReadsNumber, NoNumber}
use Rattle.wire_fields.specs.Packed.{AddsNumber, AddsPayload, adds_numbers}

-- ---- one number

module _ {E : Type 0} (of_number : ℤ → Option E) (l : Limits) (n : ℕ) (w : WireType)
    (m : Option (EnumValue E) × Fields) (old : List ℕ) where
  pub no_varint : NoNumber Varint n w old → NotTaken (TakesRecord (closes of_number) l n w m old)
  no_varint none c z new h =
      let (x, has, charged, is) = h.step in
      none x new (record { payload = h.payload; has = has; read = h.read.read })

  pub known_taken : LimitsAddUp → (x : ℕ) (e : E) (new : List ℕ)
      → of_number (int32.dec x) ≡ Some e → ReadsNumber Varint n w x old new
      → IsCharged l l (λ c. TakesRecord (closes of_number) l n w m old c (Some (Known e), m.1) new)
  known_taken limits x e new is h = record {
    charge = no_charge;
    taken = record {
      payload = h.payload;
      read = record { read = h.read; fits = limits.nothing_fits l };
      step = (
        x,
        h.has,
        sym (ap sort_charge is),
        sym (ap (sorted sets_known n x m) is),
      );
    };
    left = sym (limits.left_after_nothing l);
  }

  same_number : (p q : Payload) (x y : ℕ) → p ≡ varint x → q ≡ varint y → p ≡ q → y ≡ x
  same_number p q x y h k e = cc

  pub not_kept : OneReading → (x : ℕ) (new : List ℕ) → of_number (int32.dec x) ≡ None
      → ReadsNumber Varint n w x old new → (Fits one_field l → ⊥)
      → NotTaken (TakesRecord (closes of_number) l n w m old)
  not_kept reading x new is h none c z rest k =
      let (y, has, charged, value) = k.step in
      let same = same_number h.payload k.payload x y h.has has
      (reading.payload n w h.payload k.payload old new rest h.read k.read.read).0 in
      none (subst (λ a. Fits a l)
      (charged ∙ ap (λ a. sort_charge (of_number (int32.dec a))) same ∙ ap sort_charge is)
      k.read.fits)

-- ---- numbers one after another

-- the number at i, and those behind it
pub next_number : (xs : List ℕ) (i d : ℕ) → i < length xs
    → drop i xs ≡ get_or xs i d ∷ drop (i + 1) xs
next_number xs i d within = rw (add-one, drop-cons xs i d) refl

module _ {E : Type 0} (of_number : ℤ → Option E) (n : ℕ) (limits : LimitsAddUp) (x : ℕ)
    (all rest : List ℕ) (front : all ≡ x ∷ rest) (l k : Limits)
    (is : k ≡ left_after l (sort_charge (of_number (int32.dec x)))) where
  pub one_sorted : (m z : List (EnumValue E) × Fields)
      → z ≡ sorted adds_known n x m (of_number (int32.dec x))
      → all_sorted adds_known of_number n z rest ≡ all_sorted adds_known of_number n m all
  one_sorted m z sorts =
      ap (λ (v : List (EnumValue E) × Fields). all_sorted adds_known of_number n v rest) sorts
      ∙ sym (ap (all_sorted adds_known of_number n m) front)

  pub one_left : left_after k (all_charge of_number rest) ≡ left_after l (all_charge of_number all)
  one_left =
      ap (λ (v : Limits). left_after v (all_charge of_number rest)) is
      ∙ limits.left_after_both l (sort_charge (of_number (int32.dec x))) (all_charge of_number rest)
      ∙ sym (ap (λ xs. left_after l (all_charge of_number xs)) front)

  pub one_fits : Fits (sort_charge (of_number (int32.dec x))) l
      → Fits (all_charge of_number rest) k → Fits (all_charge of_number all) l
  one_fits one others =
      subst (λ xs. Fits (all_charge of_number xs) l) (sym front)
      ((limits.both_fit l (sort_charge (of_number (int32.dec x))) (all_charge of_number rest)).1
      (one, subst (λ v. Fits (all_charge of_number rest) v) is others))

  pub rest_fits : Fits (all_charge of_number all) l → Fits (all_charge of_number rest) k
  rest_fits whole =
      subst (λ v. Fits (all_charge of_number rest) v) (sym is)
      ((limits.both_fit l (sort_charge (of_number (int32.dec x))) (all_charge of_number rest)).0
      (subst (λ xs. Fits (all_charge of_number xs) l) front whole)).1

  pub one_grew : CountsFall → (first : Limits) → NoCountGrew first l → NoCountGrew first k
  one_grew counts first grew =
      counts.again first l k grew
      (subst (NoCountGrew l) (sym is) (counts.after l (sort_charge (of_number (int32.dec x)))))

pub one_fits_first : {E : Type 0} (of_number : ℤ → Option E) → LimitsAddUp → (x : ℕ)
    (all rest : List ℕ) → all ≡ x ∷ rest → (l : Limits) → Fits (all_charge of_number all) l
    → Fits (sort_charge (of_number (int32.dec x))) l
one_fits_first of_number limits x all rest front l whole =
    ((limits.both_fit l (sort_charge (of_number (int32.dec x))) (all_charge of_number rest)).0
    (subst (λ xs. Fits (all_charge of_number xs) l) front whole)).0

-- ---- the numbers of a payload

has_one : (p : Payload) (x : ℕ) (xs : List ℕ) → p ≡ varint x → xs ≡ x ∷ [] → HasNumbers p xs
has_one p x xs is one = subst (λ q. HasNumbers q xs) (sym is) one

has_many : (p : Payload) (b : List ℕ) (xs ys : List ℕ) → p ≡ bytes b → xs ≡ ys
    → SpellsEach IsSpelling ys b → HasNumbers p xs
has_many p b xs ys is same spelled =
    subst (λ q. HasNumbers q xs) (sym is) (subst (λ zs. SpellsEach IsSpelling zs b) (sym same) spelled)

pub has_numbers : (p : Payload) (xs : List ℕ)
    → (AddsNumber Varint uint64 [] p xs ⊎ AddsPayload Varint uint64 [] p xs) → HasNumbers p xs
has_numbers p xs (inl h) =
    has_one p h.sets.number xs h.sets.has (h.is ∙ ap (λ (v : ℕ). v ∷ []) h.sets.is)
has_numbers p xs (inr h) =
    has_many p h.payload xs h.appends.numbers h.is
    (h.appends.appended ∙ map-id h.appends.numbers) h.appends.spelled

pub are_added : (p : Payload) (xs : List ℕ) → HasNumbers p xs
    → (z : List ℕ) × (AddsNumber Varint uint64 [] p z ⊎ AddsPayload Varint uint64 [] p z)
are_added (varint x) xs h = (
  x ∷ [],
  inl (record { value = x; sets = record { number = x; has = refl; is = refl }; is = refl }),
)
are_added (bytes b) xs h = (
  map uint64.dec xs,
  inr (record {
    payload = b;
    is = refl;
    appends = record { numbers = xs; spelled = h; appended = refl };
  }),
)
are_added (fixed64 x) xs h = absurd h
are_added (fixed32 x) xs h = absurd h
are_added (group fs) xs h = absurd h

module _ {E : Type 0} (of_number : ℤ → Option E) (l : Limits) (n : ℕ) (w : WireType)
    (m : List (EnumValue E) × Fields) (old start : List ℕ) (empty : start ≡ [])
    (limits : LimitsAddUp) where
  pub no_numbers : NotTaken (TakesRecord (adds_numbers Varint uint64) l n w start old)
      → NotTaken (TakesRecord (closes_each of_number) l n w m old)
  no_numbers none c z new h =
      let (xs, has, charged, is) = h.step in
      let added = are_added h.payload xs has in
      none no_charge added.0 new (record {
        payload = h.payload;
        read = record { read = h.read.read; fits = limits.nothing_fits l };
        step = subst (λ s. adds_numbers Varint uint64 s n h.payload no_charge added.0) (sym empty)
            (refl, added.1);
      })

  module _ (i : Limits) (xs new : List ℕ)
      (h : IsCharged l i (λ c. TakesRecord (adds_numbers Varint uint64) l n w start old c xs new)) where
    has_all : HasNumbers h.taken.payload xs
    has_all = has_numbers h.taken.payload xs
        (subst (λ s. AddsNumber Varint uint64 s h.taken.payload xs
        ⊎ AddsPayload Varint uint64 s h.taken.payload xs) empty h.taken.step.1)

    -- no number is charged before it is sorted
    unchanged : i ≡ l
    unchanged =
        h.left ∙ ap (left_after l) h.taken.step.0 ∙ limits.left_after_nothing l

    pub numbers_taken : (k : Limits) (z : List (EnumValue E) × Fields) (number : ℕ) (ys : List ℕ)
        → number ≡ n → ys ≡ xs → z ≡ all_sorted adds_known of_number number m ys
        → k ≡ left_after i (all_charge of_number ys) → Fits (all_charge of_number ys) i
        → IsCharged l k (λ c. TakesRecord (closes_each of_number) l n w m old c z new)
    numbers_taken k z number ys own same sorts left fits = record {
      charge = all_charge of_number xs;
      taken = record {
        payload = h.taken.payload;
        read = record {
          read = h.taken.read.read;
          fits = subst (λ v. Fits (all_charge of_number xs) v) unchanged
              (subst (λ v. Fits (all_charge of_number v) i) same fits);
        };
        step = (
          xs,
          has_all,
          refl,
          sorts ∙ ap (λ v. all_sorted adds_known of_number v m ys) own
              ∙ ap (all_sorted adds_known of_number n m) same,
        );
      };
      left = left ∙ ap (λ v. left_after i (all_charge of_number v)) same
          ∙ ap (λ (v : Limits). left_after v (all_charge of_number xs)) unchanged;
    }

    pub no_place : OneReading → (ys : List ℕ) → ys ≡ xs → (Fits (all_charge of_number ys) i → ⊥)
        → NotTaken (TakesRecord (closes_each of_number) l n w m old)
    no_place reading ys given none c z rest k =
        let (zs, has, charged, is) = k.step in
        let same = (reading.payload n w k.payload h.taken.payload old rest new k.read.read
        h.taken.read.read).0 in
        let equal = same_numbers reading h.taken.payload zs xs
        (subst (λ p. HasNumbers p zs) same has) has_all in
        none (subst (λ v. Fits (all_charge of_number v) i) (sym given)
        (subst (λ v. Fits (all_charge of_number xs) v) (sym unchanged)
        (subst (λ a. Fits a l) (charged ∙ ap (all_charge of_number) equal) k.read.fits)))

pub on_ok_three : {T E P Q R S : Type 0} (r : Result T E) → (P → Q → R → S) → OnOk r P → OnOk r Q
    → OnOk r R → OnOk r S
on_ok_three (Ok x) f p q r = f p q r
on_ok_three (Err e) f p q r = tt
