-- A record that a field takes is one that its message takes, and one that a field refuses is one
-- that its message refuses. The arms of `merge_field` cite these: `arm_err` that of a known field,
-- and `rest_err` the last one; `arm_ok` is for an arm that the prover does not find, with `to_rest`
-- for the last one.
use Rattle.std.proofs.Common.{◌≡◌, ◌≢◌, ℕ, List, refl, sym, subst, Bool, true, false, inl, inr}
use Rattle.std.proofs.lemmas.Bool.Decides.{eqb_tells}
use Rattle.std.specs.Prelude.{Option, Result, Ok, Err, OnOk, IfErr, ◌==◌, ◌||◌}
use Rattle.wire_codec.specs.DecodeError.{DecodeError}
use Rattle.wire_codec.specs.DecodeError.TheVariants.{OutOfMemory}
use Rattle.wire_codec.specs.Field.{Payload}
use Rattle.wire_codec.specs.Folds.{Step}
use Rattle.wire_codec.specs.Limits.{Limits, Charge}
use Rattle.wire_codec.specs.Taking.{TakesRecord, IsCharged, NotTaken}
use Rattle.wire_codec.specs.WireType.{WireType}
use Rattle.wire_fields.specs.Messages.{or_else}
use Rattle.wire_fields.specs.Oneof.{choice, takes_variant}
use Rattle.wire_fields.specs.Shape.{FieldKind, Owns, on, either}

-- a record of field number k, which the message gives to this step of the field's value t
module _ {V T : Type 0} (takes : Step V) (step : Step T) (k n : ℕ) (is : n ≡ k) (m : V) (t : T)
    (back : (c : Charge) (z : V) (p : Payload) → takes m k p c z → (u : T) × step t k p c u) where
  pub untaken : (l : Limits) (w : WireType) (old : List ℕ) → NotTaken (TakesRecord step l n w t old)
      → NotTaken (TakesRecord takes l n w m old)
  untaken l w old none c z new h =
      let inside = back c z h.payload (subst (λ x. takes m x h.payload c z) is h.step) in
      none c inside.0 new (record {
        payload = h.payload;
        read = h.read;
        step = subst (λ x. step t x h.payload c inside.0) (sym is) inside.1;
      })

  pub arm_err : {R : Type 0} (l : Limits) (w : WireType) (old : List ℕ) (r : Result R DecodeError)
      → IfErr r (λ e. e ≢ OutOfMemory → NotTaken (TakesRecord step l n w t old))
      → IfErr r (λ e. e ≢ OutOfMemory → NotTaken (TakesRecord takes l n w m old))
  arm_err l w old (Ok x) h = tt
  arm_err l w old (Err e) h = λ other. untaken l w old (h other)

-- the message becomes z where the field becomes u
module _ {V T : Type 0} (takes : Step V) (step : Step T) (k n : ℕ) (is : n ≡ k) (m z : V) (t u : T)
    (put : (c : Charge) (p : Payload) → step t k p c u → takes m k p c z) where
  pub arm_ok : {R : Type 0} (l after : Limits) (w : WireType) (old new : List ℕ)
      (r : Result R DecodeError)
      → OnOk r (IsCharged l after (λ c. TakesRecord step l n w t old c u new))
      → OnOk r (IsCharged l after (λ c. TakesRecord takes l n w m old c z new))
  arm_ok l after w old new (Ok x) h = record {
    charge = h.charge;
    taken = record {
      payload = h.taken.payload;
      read = h.taken.read;
      step = subst (λ x. takes m x h.taken.payload h.charge z) (sym is)
          (put h.charge h.taken.payload
          (subst (λ x. step t x h.taken.payload h.charge u) is h.taken.step));
    };
    left = h.left;
  }
  arm_ok l after w old new (Err e) h = tt

-- a record that the first part does not own
module _ {A B : Type 0} (owns : Owns) (one : Step A) (other : Step B) (n : ℕ)
    (is : (p : Payload) → owns n p ≡ false) (m : A × B) where
  to_other : (c : Charge) (z : A × B) (p : Payload) → either owns one other m n p c z
      → other m.1 n p c z.1
  to_other c z p h =
      (subst (λ b. on b (one m.0 n p c z.0 × (z.1 ≡ m.1)) (other m.1 n p c z.1 × (z.0 ≡ m.0)))
      (is p) h).0

  pub to_rest : (c : Charge) (z : B) (p : Payload) → other m.1 n p c z
      → either owns one other m n p c (m.0, z)
  to_rest c z p h =
      subst (λ b. on b (one m.0 n p c m.0 × (z ≡ m.1)) (other m.1 n p c z × (m.0 ≡ m.0)))
      (sym (is p)) (h, refl)

  pub rest_err : {R : Type 0} (l : Limits) (w : WireType) (old : List ℕ) (r : Result R DecodeError)
      → IfErr r (λ e. e ≢ OutOfMemory → NotTaken (TakesRecord other l n w m.1 old))
      → IfErr r (λ e. e ≢ OutOfMemory → NotTaken (TakesRecord (either owns one other) l n w m old))
  rest_err l w old (Ok x) h = tt
  rest_err l w old (Err e) h = λ why c z new taken. h why c z.1 new (record {
    payload = taken.payload;
    read = taken.read;
    step = to_other c z taken.payload taken.step;
  })

-- ---- numbers that are not owned

pub neither : (a b : Bool) → a ≡ false → b ≡ false → (a || b) ≡ false
neither true b h k = absurd cc
neither false b h k = k

pub unlike : (n k : ℕ) → n ≢ k → (n == k) ≡ false
unlike n k h = elim (eqb_tells n k) [ inl e ↦ absurd (h e.1) | inr e ↦ e.0 ]

-- ---- variants of a oneof

-- where this variant does not stand, it refuses what its kind refuses of a value of no records
pub anew_untaken : {V T : Type 0} (takes : Step V) (f : FieldKind T) (get : V → Option T)
    (set : T → V) (k n : ℕ) → n ≡ k → (m : V) → or_else f.default (get m) ≡ f.default
    → ((c : Charge) (z : V) (p : Payload) → takes m k p c z
    → takes_variant f.default get set f.takes m k p c z)
    → (l : Limits) (w : WireType) (old : List ℕ)
    → NotTaken (TakesRecord f.takes l n w f.default old) → NotTaken (TakesRecord takes l n w m old)
anew_untaken takes f get set k n is m none own =
    untaken takes f.takes k n is m f.default (λ c z p h.
    let inside = own c z p h in
    (inside.0, subst (λ t. f.takes t k p c inside.0) none inside.1))

-- a record that the first variants do not own is one for the last
module _ {V : Type 0} (owns : Owns) (one other : Step V) (n : ℕ)
    (is : (p : Payload) → owns n p ≡ false) (m z : V) (c : Charge) (p : Payload) where
  pub to_last : other m n p c z → choice owns one other m n p c z
  to_last h = subst (λ b. on b (one m n p c z) (other m n p c z)) (sym (is p)) h

  pub from_last : choice owns one other m n p c z → other m n p c z
  from_last h = subst (λ b. on b (one m n p c z) (other m n p c z)) (is p) h

-- a record that the first variants do not own is refused where the last refuses it
pub last_err : {V T R : Type 0} (owns : Owns) (one other : Step V) (n : ℕ)
    → ((p : Payload) → owns n p ≡ false) → (step : Step T) (m : V) (t : T)
    → ((c : Charge) (z : V) (p : Payload) → other m n p c z → (u : T) × step t n p c u)
    → (l : Limits) (w : WireType) (old : List ℕ) (r : Result R DecodeError)
    → IfErr r (λ e. e ≢ OutOfMemory → NotTaken (TakesRecord step l n w t old))
    → IfErr r (λ e. e ≢ OutOfMemory → NotTaken (TakesRecord (choice owns one other) l n w m old))
last_err owns one other n is step m t back =
    arm_err (choice owns one other) step n n refl m t (λ c z p h.
    back c z p (from_last owns one other n is m z c p h))
