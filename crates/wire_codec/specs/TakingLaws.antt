-- What readers of lists of records stand on, and what holds of lists that a message type takes.
-- Each statement is proved as the contract of a law of src/laws.rt.
use Rattle.std.specs.Prelude.{◌≡◌, ◌↔◌, ℕ, min, List, ◌++◌, length}
use Rattle.wire_base.specs.Ending.{Ending, by_limit}
use Rattle.wire_base.specs.Field.{Payload, Fields, none, field}
use Rattle.wire_base.specs.InRange.{AreFitting, AreNumbered}
use Rattle.wire_base.specs.Limits.{Limits, Charge, Fits, both}
use Rattle.wire_base.specs.LimitsLaws.{ChargesAddUp, LimitsAddUp, LevelsAddUp, CountsFall}
use Rattle.wire_base.specs.RecordLaws.{OneList, OnePayload, OneSpelled, RecordsFromTheFront, WholeInput}
use Rattle.wire_base.specs.Spells.{Spells}
use Rattle.wire_base.specs.TagLaws.{OneTag, NoTagBesideFault}
use Rattle.wire_base.specs.VarintLaws.{OneVarint, OneDelimited, NoDelimitedBesideFault, OneDelimitedFault}
use Rattle.wire_scalar.specs.Laws.{OnePackedList}
use Rattle.wire_codec.specs.Folds.{Step, Folds}
use Rattle.wire_codec.specs.Records.{Records, plain, text}
use Rattle.wire_codec.specs.Taking.{TakesList, TakesAll}

-- the same bytes are read in one way
pub record OneReading : Type 0 where
  pub varint : OneVarint
  pub delimited : OneDelimited
  pub packed : OnePackedList
  pub tag : OneTag
  pub payload : OnePayload
  pub records : OneSpelled

-- what readers of records go by: a list is taken record by record from the front, in one way, and
-- charges add up
pub record RecordsInOrder : Type 0 where
  pub reading : OneReading
  pub tag_fault : NoTagBesideFault
  pub front : RecordsFromTheFront
  pub limits : LimitsAddUp
  pub charges : ChargesAddUp
  pub counts : CountsFall

-- what readers of length-delimited payloads stand on: payloads, faults and lists are single, no
-- fault stands beside a payload, and a list that ends with the input is all of it
pub record DelimitedIsRead : Type 0 where
  pub delimited : OneDelimited
  pub beside : NoDelimitedBesideFault
  pub fault : OneDelimitedFault
  pub list : OneList
  pub whole : WholeInput

-- levels and counts add up, and counts fall
pub record LevelsAndCounts : Type 0 where
  pub levels : LevelsAddUp
  pub counts : CountsFall

-- All of some bytes is taken exactly where they spell records that the value takes one after
-- another, for a charge within the limits.
abbrev pub AllIsSpelled : {V : Type 0} → Step V → Type 0
AllIsSpelled {V} takes =
    (l : Limits) (m z : V) (bytes : List ℕ) (c : Charge)
    → TakesAll takes l m bytes c z
    ↔ ((fs : Fields) × Spells fs bytes × Folds takes m fs c z × Fits c l)

-- what is taken is taken in one way, within whatever limits
abbrev pub TakenInOneWay : {V : Type 0} → Step V → Type 0
TakenInOneWay {V} takes =
    (l k : Limits) (ending : Ending) (m y z : V) (old r s : List ℕ) (c d : Charge)
    → TakesList takes l ending m old c y r → TakesList takes k ending m old d z s
    → (c ≡ d) × (y ≡ z) × (r ≡ s)

-- bytes that are taken one after the other, within whatever limits, are taken joined where both
-- charges together fit
abbrev pub JoinedInputsAreTaken : {V : Type 0} → Step V → Type 0
JoinedInputsAreTaken {V} takes =
    (l k j : Limits) (m mid z : V) (first second : List ℕ) (c d : Charge)
    → TakesAll takes k m first c mid → TakesAll takes j mid second d z → Fits (both c d) l
    → TakesAll takes l m (first ++ second) (both c d) z

-- one record more at the end
abbrev pub OneRecordMore : {V : Type 0} → Step V → Type 0
OneRecordMore {V} takes =
    (l k : Limits) (m mid z : V) (n : ℕ) (p : Payload) (old record_text : List ℕ) (c d : Charge)
    → TakesAll takes k m old c mid → Spells (field n p none) record_text → takes mid n p d z
    → Fits (both c d) l → TakesAll takes l m (old ++ record_text) (both c d) z

-- a limit above the number of bytes that are left acts as that number
abbrev pub LimitIsTheLesser : {V : Type 0} → Step V → Type 0
LimitIsTheLesser {V} takes =
    (l : Limits) (m z : V) (limit : ℕ) (old new : List ℕ) (c : Charge)
    → TakesList takes l (by_limit limit) m old c z new
    ↔ TakesList takes l (by_limit (min limit (length old))) m old c z new

-- A value whose records have numbers and lengths in range, fold back to it, and fit, is what its
-- text decodes to.
abbrev pub TextDecodes : {V : Type 0} → Step V → (V → Records) → V → Type 0
TextDecodes {V} takes records default =
    (l : Limits) (m : V) (c : Charge)
    → AreFitting (plain (records m)) → AreNumbered (plain (records m))
    → Folds takes default (plain (records m)) c m → Fits c l
    → TakesAll takes l default (text (records m)) c m
