-- The leaves of types that hold one another: each type has its own, and together they are a sum.
use Rattle.std.proofs.Common.{◌≢◌, ◌⊎◌, inl, inr, ℕ, List, refl, ap}
use Rattle.std.specs.Prelude.{Result, IfErr}
use Rattle.wire_codec.specs.DecodeError.{DecodeError}
use Rattle.wire_codec.specs.DecodeError.TheVariants.{OutOfMemory}
use Rattle.wire_codec.specs.Field.{Payload}
use Rattle.wire_codec.specs.Folds.{Step, IsSingle}
use Rattle.wire_codec.specs.Limits.{Limits, Charge, no_charge}
use Rattle.wire_codec.specs.Records.{Records, none, plain}
use Rattle.wire_codec.specs.Taking.{TakesRecord, NotTaken}
use Rattle.wire_codec.specs.WireType.{WireType}
use Rattle.wire_fields.specs.Arms.{untaken, arm_err}
use Rattle.wire_fields.specs.Back.{fold_lifted}
use Rattle.wire_fields.specs.LeavingBack.{all_any}
use Rattle.wire_fields.specs.NestRange.{IsReadBack}
use Rattle.wire_fields.specs.Ranges.{Range}

module _ {A B : Type 0} where
  -- ---- one of two

  abbrev from_first : A → A ⊎ B → A
  from_first a (inl m) = m
  from_first a (inr m) = a

  abbrev from_second : B → A ⊎ B → B
  from_second b (inl m) = b
  from_second b (inr m) = m

  -- what the first takes
  abbrev pub first_takes : Step A → Step (A ⊎ B)
  first_takes step (inl m) n p c (inl z) = step m n p c z
  first_takes step (inl m) n p c (inr z) = ⊥
  first_takes step (inr m) n p c z = ⊥

  abbrev pub second_takes : Step B → Step (A ⊎ B)
  second_takes step (inr m) n p c (inr z) = step m n p c z
  second_takes step (inr m) n p c (inl z) = ⊥
  second_takes step (inl m) n p c z = ⊥

  pub first_single : (step : Step A) → IsSingle step → IsSingle (first_takes step)
  first_single step single (inr m) u z w n p c d h k = absurd h
  first_single step single (inl m) u (inr z) w n p c d h k = absurd h
  first_single step single (inl m) (inr u) (inl z) w n p c d h k = absurd k
  first_single step single (inl m) (inl u) (inl z) (inr w) n p c d h k = absurd k
  first_single step single (inl m) (inl u) (inl z) (inl w) n p c d h k =
      let same = single m u z w n p c d h k in
      (same.0, λ e. ap inl (same.1 (ap (from_first m) e)))

  pub second_single : (step : Step B) → IsSingle step → IsSingle (second_takes step)
  second_single step single (inl m) u z w n p c d h k = absurd h
  second_single step single (inr m) u (inl z) w n p c d h k = absurd h
  second_single step single (inr m) (inl u) (inr z) w n p c d h k = absurd k
  second_single step single (inr m) (inr u) (inr z) (inl w) n p c d h k = absurd k
  second_single step single (inr m) (inr u) (inr z) (inr w) n p c d h k =
      let same = single m u z w n p c d h k in
      (same.0, λ e. ap inr (same.1 (ap (from_second m) e)))

  -- what neither takes, the sum does not take
  from_first_step : (step : Step A) (m : A) (n : ℕ) (p : Payload) (c : Charge) (z : A ⊎ B)
      → first_takes step (inl m) n p c z → (u : A) × step m n p c u
  from_first_step step m n p c (inl z) h = (z, h)
  from_first_step step m n p c (inr z) h = absurd h

  from_second_step : (step : Step B) (m : B) (n : ℕ) (p : Payload) (c : Charge) (z : A ⊎ B)
      → second_takes step (inr m) n p c z → (u : B) × step m n p c u
  from_second_step step m n p c (inr z) h = (z, h)
  from_second_step step m n p c (inl z) h = absurd h

  -- what is written of the first
  abbrev pub of_first : (A → Records) → A ⊎ B → Records
  of_first records (inl l) = records l
  of_first records (inr l) = none

  abbrev pub of_second : (B → Records) → A ⊎ B → Records
  of_second records (inl l) = none
  of_second records (inr l) = records l

  -- ---- read back

  abbrev first_holds : (A → Type 0) → A ⊎ B → Type 0
  first_holds Holds (inl l) = Holds l
  first_holds Holds (inr l) = ⊥

  abbrev second_holds : (B → Type 0) → A ⊎ B → Type 0
  second_holds Holds (inl l) = ⊥
  second_holds Holds (inr l) = Holds l

  abbrev first_charge : (A → Charge) → A ⊎ B → Charge
  first_charge charge_of (inl l) = charge_of l
  first_charge charge_of (inr l) = no_charge

  abbrev second_charge : (B → Charge) → A ⊎ B → Charge
  second_charge charge_of (inl l) = no_charge
  second_charge charge_of (inr l) = charge_of l

  abbrev pub first_range : Range A → Range (A ⊎ B)
  first_range r = record { Holds = first_holds r.Holds; charge_of = first_charge r.charge_of }

  abbrev pub second_range : Range B → Range (A ⊎ B)
  second_range r = record { Holds = second_holds r.Holds; charge_of = second_charge r.charge_of }

  pub first_back : (takes : Step A) (start : A) (records : A → Records) (Has : ℕ → Type 0)
      (r : Range A) → IsReadBack takes start records Has r
      → IsReadBack (first_takes takes) (inl start) (of_first records) Has (first_range r)
  first_back takes start records Has r back (inr l) holds = absurd holds
  first_back takes start records Has r back (inl l) holds =
      let (one, has) = back l holds in (
        record {
          fitting = one.fitting;
          numbered = one.numbered;
          folded = fold_lifted (λ n p. Unit {0}) takes (first_takes takes) inl
              (λ m u n p c is step. step) (plain (records l)) start l (r.charge_of l)
              (all_any (plain (records l))) one.folded;
        },
        has,
      )

  pub second_back : (takes : Step B) (start : B) (records : B → Records) (Has : ℕ → Type 0)
      (r : Range B) → IsReadBack takes start records Has r
      → IsReadBack (second_takes takes) (inr start) (of_second records) Has (second_range r)
  second_back takes start records Has r back (inl l) holds = absurd holds
  second_back takes start records Has r back (inr l) holds =
      let (one, has) = back l holds in (
        record {
          fitting = one.fitting;
          numbered = one.numbered;
          folded = fold_lifted (λ n p. Unit {0}) takes (second_takes takes) inr
              (λ m u n p c is step. step) (plain (records l)) start l (r.charge_of l)
              (all_any (plain (records l))) one.folded;
        },
        has,
      )

-- ---- what the one refuses, the sum refuses

module _ {A : Type 0} (B : Type 0) (step : Step A) (m : A) (l : Limits) (n : ℕ) (w : WireType)
    (old : List ℕ) where
  pub first_untaken : NotTaken (TakesRecord step l n w m old)
      → NotTaken (TakesRecord (first_takes {B = B} step) l n w (inl m) old)
  first_untaken =
      untaken (first_takes {B = B} step) step n n refl (inl m) m
      (λ c z p h. from_first_step step m n p c z h) l w old

  pub first_err : {R : Type 0} (r : Result R DecodeError)
      → IfErr r (λ e. e ≢ OutOfMemory → NotTaken (TakesRecord step l n w m old))
      → IfErr r (λ e. e ≢ OutOfMemory
      → NotTaken (TakesRecord (first_takes {B = B} step) l n w (inl m) old))
  first_err =
      arm_err (first_takes {B = B} step) step n n refl (inl m) m
      (λ c z p h. from_first_step step m n p c z h) l w old

module _ {B : Type 0} (A : Type 0) (step : Step B) (m : B) (l : Limits) (n : ℕ) (w : WireType)
    (old : List ℕ) where
  pub second_untaken : NotTaken (TakesRecord step l n w m old)
      → NotTaken (TakesRecord (second_takes {A = A} step) l n w (inr m) old)
  second_untaken =
      untaken (second_takes {A = A} step) step n n refl (inr m) m
      (λ c z p h. from_second_step step m n p c z h) l w old

  pub second_err : {R : Type 0} (r : Result R DecodeError)
      → IfErr r (λ e. e ≢ OutOfMemory → NotTaken (TakesRecord step l n w m old))
      → IfErr r (λ e. e ≢ OutOfMemory
      → NotTaken (TakesRecord (second_takes {A = A} step) l n w (inr m) old))
  second_err =
      arm_err (second_takes {A = A} step) step n n refl (inr m) m
      (λ c z p h. from_second_step step m n p c z h) l w old
