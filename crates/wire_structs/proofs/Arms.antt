-- A record that a field of a struct takes or refuses is one that the struct takes or refuses: what
-- the arms of `merge_field` cite, beside those of `wire_fields` of the same use.
use Rattle.std.proofs.Common.{◌≡◌, ℕ, List, refl, subst, false}
use Rattle.std.specs.Prelude.{Option, Result, Ok, Err, OnErr, OnOk}
use Rattle.wire_codec.specs.DecodeError.{DecodeError}
use Rattle.wire_codec.specs.Field.{Payload}
use Rattle.wire_codec.specs.Folds.{Step}
use Rattle.wire_codec.specs.Limits.{Limits, Charge}
use Rattle.wire_codec.specs.Taking.{TakesRecord, IsCharged, NotTaken}
use Rattle.wire_codec.specs.WireType.{WireType}
use Rattle.wire_fields.specs.Arms.{arm_ok, from_last, to_last, untaken}
use Rattle.wire_fields.specs.Messages.{or_else}
use Rattle.wire_fields.specs.Oneof.{Variants, choice, takes_variant}
use Rattle.wire_fields.specs.Shape.{FieldKind, Owns, on, either}

-- a record of field number k, which the struct gives to this step of the field's value t
pub arm_refused : {V T : Type 0} (takes : Step V) (step : Step T) (k n : ℕ) → n ≡ k
    → (m : V) (t : T)
    → ((c : Charge) (z : V) (p : Payload) → takes m k p c z → (u : T) × step t k p c u)
    → {R : Type 0} (l : Limits) (w : WireType) (old : List ℕ) (r : Result R DecodeError)
    → OnErr r (NotTaken (TakesRecord step l n w t old))
    → OnErr r (NotTaken (TakesRecord takes l n w m old))
arm_refused takes step k n is m t back l w old (Ok x) h = tt
arm_refused takes step k n is m t back l w old (Err e) h =
    untaken takes step k n is m t back l w old h

-- a record that the first part does not own
pub rest_refused : {A B : Type 0} (owns : Owns) (one : Step A) (other : Step B) (n : ℕ)
    → ((p : Payload) → owns n p ≡ false) → (m : A × B)
    → {R : Type 0} (l : Limits) (w : WireType) (old : List ℕ) (r : Result R DecodeError)
    → OnErr r (NotTaken (TakesRecord other l n w m.1 old))
    → OnErr r (NotTaken (TakesRecord (either owns one other) l n w m old))
rest_refused owns one other n is m l w old (Ok x) h = tt
rest_refused owns one other n is m l w old (Err e) h = λ c z new taken. h c z.1 new (record {
  payload = taken.payload;
  read = taken.read;
  step = (subst (λ b. on b (one m.0 n taken.payload c z.0 × (z.1 ≡ m.1))
      (other m.1 n taken.payload c z.1 × (z.0 ≡ m.0))) (is taken.payload) taken.step).0;
})

-- what a call did of a value, where that is the one that stands
module _ {T : Type 0} (step : Step T) (t s : T) (is : t ≡ s) {R : Type 0} (l : Limits) (n : ℕ)
    (w : WireType) (old : List ℕ) (r : Result R DecodeError) where
  pub stood_ok : (after : Limits) (u : T) (new : List ℕ)
      → OnOk r (IsCharged l after (λ c. TakesRecord step l n w t old c u new))
      → OnOk r (IsCharged l after (λ c. TakesRecord step l n w s old c u new))
  stood_ok after u new =
      subst (λ x. OnOk r (IsCharged l after (λ c. TakesRecord step l n w x old c u new))) is

  pub stood_refused : OnErr r (NotTaken (TakesRecord step l n w t old))
      → OnErr r (NotTaken (TakesRecord step l n w s old))
  stood_refused = subst (λ x. OnErr r (NotTaken (TakesRecord step l n w x old))) is

-- the last variant of a oneof, for a record that those before it do not own, whose value t takes
-- the record as the one that stands does, or that of no records
module _ {V T : Type 0} (front : Variants V) (f : FieldKind T) (get : V → Option T) (set : T → V)
    (n : ℕ) (not : (p : Payload) → front.owns n p ≡ false) (m : V) (t : T) where
  pub last_ok : ((c : Charge) (p : Payload) (u : T) → f.takes t n p c u
      → f.takes (or_else f.default (get m)) n p c u)
      → (u : T) {R : Type 0} (l after : Limits) (w : WireType) (old new : List ℕ)
      (r : Result R DecodeError)
      → OnOk r (IsCharged l after (λ c. TakesRecord f.takes l n w t old c u new))
      → OnOk r (IsCharged l after (λ c. TakesRecord
      (choice front.owns front.takes (takes_variant f.default get set f.takes)) l n w m old c
      (set u) new))
  last_ok on u l after w old new r h =
      arm_ok (choice front.owns front.takes (takes_variant f.default get set f.takes)) f.takes n n
      refl m (set u) t u
      (λ c p k. to_last front.owns front.takes (takes_variant f.default get set f.takes) n not m
      (set u) c p (u, on c p u k, refl)) l after w old new r h

  pub last_refused : ((c : Charge) (p : Payload) (u : T) → f.takes (or_else f.default (get m)) n p c u
      → f.takes t n p c u)
      → {R : Type 0} (l : Limits) (w : WireType) (old : List ℕ) (r : Result R DecodeError)
      → OnErr r (NotTaken (TakesRecord f.takes l n w t old))
      → OnErr r (NotTaken (TakesRecord
      (choice front.owns front.takes (takes_variant f.default get set f.takes)) l n w m old))
  last_refused back l w old r h =
      arm_refused (choice front.owns front.takes (takes_variant f.default get set f.takes)) f.takes
      n n refl m t
      (λ c z p k.
      let mine = from_last front.owns front.takes (takes_variant f.default get set f.takes) n not m
      z c p k in (mine.0, back c p mine.0 mine.1)) l w old r h
