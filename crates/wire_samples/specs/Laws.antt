-- What holds of the message types. Each statement is proved as the contract of a law of
-- src/laws.rt.
use Rattle.std.specs.Prelude.{◌≡◌, ◌↔◌, ℕ, ◌<◌, ◌^◌, ◌≤◌, List, All}
use Rattle.wire_codec.specs.Charge.{charge}
use Rattle.wire_codec.specs.Ending.{Ending}
use Rattle.wire_codec.specs.Field.{Payload}
use Rattle.wire_codec.specs.Folds.{Step, Folds}
use Rattle.wire_codec.specs.InRange.{AreFitting, AreNumbered}
use Rattle.wire_codec.specs.Limits.{Limits, Charge, no_charge}
use Rattle.wire_codec.specs.Records.{Records, plain, text_size}
use Rattle.wire_codec.specs.Taking.{TakesList, Decodes}
use Rattle.wire_samples.specs.declared.repeat.Repeat.{Repeat}
use Rattle.wire_samples.specs.Node.{NodeValue, IsNode}
use Rattle.wire_samples.specs.NodeCharge.{node_charge}
use Rattle.wire_samples.specs.Person.{PersonValue, IsPerson}

-- what contracts see of a value, the default, what a type makes of a record, and the records of a
-- value are those of a table
pub record IsTable {T V : Type 0} (view table_view : T → V) (default table_default : V)
    (takes table_takes : Step V) (records table_records : V → Records) : Type 0 where
  pub seen : (m : T) → view m ≡ table_view m
  pub start : default ≡ table_default
  pub step : (m : V) (n : ℕ) (p : Payload) (c : Charge) (z : V)
      → takes m n p c z ↔ table_takes m n p c z
  pub written : (m : V) → records m ≡ table_records m

-- The records of a value have numbers and lengths in range, and fold back to it from the default
-- for this charge.
pub record RecordsFoldBack {V : Type 0} (takes : Step V) (records : V → Records) (default m : V)
    (c : Charge) : Type 0 where
  pub fitting : AreFitting (plain (records m))
  pub numbered : AreNumbered (plain (records m))
  pub folded : Folds takes default (plain (records m)) c m

-- What decoding leaves: the default value is in range, and so is what a value that is in range
-- becomes by the records of some bytes.
pub record StaysInRange {V : Type 0} (takes : Step V) (default : V) (IsInRange : V → Type 0)
    : Type 0 where
  pub start : IsInRange default
  pub taken : (l : Limits) (ending : Ending) (m z : V) (old new : List ℕ) (c : Charge)
      → All (λ b. b < 256) old → IsInRange m → TakesList takes l ending m old c z new
      → IsInRange z

-- A value that is decoded from some bytes is in range, and folds back where a message may have so
-- many bytes as its records.
pub record DecodedFoldsBack {V : Type 0} (takes : Step V) (records : V → Records) (default : V)
    (IsInRange : V → Type 0) (charge_of : V → Charge) (bytes : List ℕ) : Type 0 where
  pub in_range : (l : Limits) (z : V) → Decodes takes l default bytes z → IsInRange z
  pub back : (l : Limits) (z : V) → Decodes takes l default bytes z
      → text_size (records z) ≤ 2147483647 → RecordsFoldBack takes records default z (charge_of z)

-- a person of a size that a message may have, charged for its unknown fields
abbrev pub PersonsFoldBack : Step PersonValue → (PersonValue → Records) → PersonValue → Type 0
PersonsFoldBack takes records default =
    (m : PersonValue) → IsPerson m → text_size (records m) ≤ 2147483647
    → RecordsFoldBack takes records default m (charge m.unknown)

-- a node of a size that a message may have, charged for what it holds and for its unknown fields
abbrev pub NodesFoldBack : Step NodeValue → (NodeValue → Records) → NodeValue → Type 0
NodesFoldBack takes records default =
    (m : NodeValue) → IsNode m → text_size (records m) ≤ 2147483647
    → RecordsFoldBack takes records default m (node_charge m)

-- all numbers of 64 bits
abbrev pub RepeatsFoldBack : Step Repeat → (Repeat → Records) → Repeat → Type 0
RepeatsFoldBack takes records default =
    (m : Repeat) → m.times < 2 ^ 64 → RecordsFoldBack takes records default m no_charge
