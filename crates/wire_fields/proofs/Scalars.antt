-- Records of scalar fields: what they take, and why they take nothing.
use Rattle.std.proofs.Common.{◌≡◌, ℕ, List, [], length, Bool, true, false, sym, refl}
use Rattle.std.specs.Prelude.{Result, Ok, Err, OnOk}
use Rattle.wire_codec.specs.Field.{Payload, field, none}
use Rattle.wire_codec.specs.Folds.{Step}
use Rattle.wire_codec.specs.Limits.{Limits, Charge, no_charge}
use Rattle.wire_codec.specs.Laws.{FieldsArePlain, FlatKeepsTheTape}
use Rattle.wire_codec.specs.LimitsLaws.{LimitsAddUp}
use Rattle.wire_codec.specs.Records.{Records}
use Rattle.wire_codec.specs.Sizes.{sizes}
use Rattle.wire_codec.specs.Taking.{TakesRecord, IsCharged, NotTaken}
use Rattle.wire_codec.specs.Tape.{Tape, advanced}
use Rattle.wire_codec.specs.WireType.{WireType}
use Rattle.wire_fields.specs.Presence.{unless, implicit_records}
use Rattle.wire_fields.specs.Scalar.{ScalarType, scalar_record, ReadsScalar, NoScalar}

-- ---- what is written

-- no message is embedded in a scalar
pub scalar_sizes : {V : Type 0} → FieldsArePlain → (t : ScalarType V) (n : ℕ) (v : V)
    → sizes (scalar_record t n v) ≡ []
scalar_sizes same t n v = same.sizes (field n (t.payload v) none)

-- so a scalar leaves the tape as it is
pub scalar_reads : {V T E : Type 0} → FlatKeepsTheTape → FieldsArePlain → (t : ScalarType V) (n : ℕ)
    (v : V) (tape : Tape) (r : Result T E)
    → OnOk r (tape ≡ advanced tape (length (sizes (scalar_record t n v))))
scalar_reads flat same t n v tape (Ok x) =
    flat.written (scalar_record t n v) tape (scalar_sizes same t n v)
scalar_reads flat same t n v tape (Err e) = tt

unless_false : (b : Bool) (rs : Records) → b ≡ false → unless b rs ≡ rs
unless_false true rs h = absurd cc
unless_false false rs h = refl

pub implicit_written : {V : Type 0} (t : ScalarType V) (n : ℕ) (v : V) → t.is_default v ≡ false
    → implicit_records t n v ≡ scalar_record t n v
implicit_written t n v h = unless_false (t.is_default v) (scalar_record t n v) h

-- ---- what is taken

module _ {V U : Type 0} (t : ScalarType V) (takes : Step U) (l : Limits) (n : ℕ) (w : WireType)
    (m : U) (old : List ℕ) where
  -- a step that is not charged takes what a payload sets
  pub scalar_taken : LimitsAddUp → (v : V) (z : U) (new : List ℕ)
      → ((p : Payload) → t.Sets p v → takes m n p no_charge z) → ReadsScalar t n w v old new
      → IsCharged l l (λ c. TakesRecord takes l n w m old c z new)
  scalar_taken limits v z new step h = record {
    charge = no_charge;
    taken = record {
      payload = h.payload;
      read = record { read = h.read; fits = limits.nothing_fits l };
      step = step h.payload h.sets;
    };
    left = sym (limits.left_after_nothing l);
  }

  -- a step that wants a value takes nothing where none stands
  pub no_scalar : ((p : Payload) (c : Charge) (z : U) → takes m n p c z → (v : V) × t.Sets p v)
      → NoScalar t n w old → NotTaken (TakesRecord takes l n w m old)
  no_scalar back absent c z new h =
      let value = back h.payload c z h.step in
      absent value.0 new (record { payload = h.payload; read = h.read.read; sets = value.1 })
