-- What holds of the definitions themselves. Each statement is proved as the contract of a law of
-- src/laws.rt.
use Rattle.std.specs.Prelude.{◌≡◌, ◌≢◌, ◌↔◌, ◌==◌, ℕ, true, false, Option, Some, None}
use Rattle.wire_codec.specs.Field.{Payload, Fields, none, field, joined, type_of}
use Rattle.wire_codec.specs.Folds.{Step, Folds, IsSingle}
use Rattle.wire_codec.specs.InRange.{AreFitting, AreNumbered}
use Rattle.wire_codec.specs.Limits.{Limits, Charge, both}
use Rattle.wire_codec.specs.Records.{Records, plain}
use Rattle.wire_fields.specs.declared.leaving.OwnTypes.{OwnTypes}
use Rattle.wire_fields.specs.Back.{AllAre, FoldsBack}
use Rattle.wire_fields.specs.Leaving.{has_type, or_kept, keeps_beside}
use Rattle.wire_fields.specs.Oneof.{choice}
use Rattle.wire_fields.specs.Shape.{Owns, FieldKind, either, keeps}
use Rattle.wire_extensions.specs.Extension.{picked, others, replaced, is_own, Stores}

-- each record is picked
abbrev pub AllOwned : Owns → Fields → Type 0
AllOwned owns none = Unit {0}
AllOwned owns (field n p rest) = (owns n p ≡ true) × AllOwned owns rest

-- What stands in the place of the extension's records: they are its own, and the other records are
-- as they were, so that what was put before is gone, and another extension has what it had.
pub record OneLeavesOthers : Type 0 where
  pub own : (owns : Owns) (fs more : Fields) → AllOwned owns more
      → picked owns (replaced owns fs more) ≡ more
  pub rest : (owns : Owns) (fs more : Fields) → AllOwned owns more
      → others owns (replaced owns fs more) ≡ others owns fs
  pub again : (owns : Owns) (fs first more : Fields) → AllOwned owns first
      → replaced owns (replaced owns fs first) more ≡ replaced owns fs more
  pub other : (owns apart : Owns) (fs more : Fields)
      → ((n : ℕ) (p : Payload) → owns n p ≡ true → apart n p ≡ false)
      → AllOwned owns more → picked apart (replaced owns fs more) ≡ picked apart fs
  pub cleared : (owns : Owns) (fs : Fields) → picked owns (others owns fs) ≡ none
  -- what is added stands behind what was there
  pub added : (owns : Owns) (fs more : Fields) → AllOwned owns more
      → picked owns (joined fs more) ≡ joined (picked owns fs) more
  -- records that were decoded have numbers in range, and so have those of one extension
  pub numbered : (owns : Owns) (fs : Fields) → AreNumbered fs → AreNumbered (picked owns fs)
  -- the records of its number are an extension's own where it names no wire types
  pub all : (n : ℕ) (fs : Fields) → AllAre (λ j. j ≡ n) fs → AllOwned (is_own n None) fs
  -- two extensions of different numbers are apart
  pub numbers : (n k : ℕ) (s t : Option OwnTypes) → n ≢ k → (j : ℕ) (p : Payload)
      → is_own n s j p ≡ true → is_own k t j p ≡ false

-- records in range are stored as they are
abbrev pub StoredArePlain : Type 0
StoredArePlain =
    (rs : Records) (l : Limits) (stored : Fields) → AreFitting (plain rs) → AreNumbered (plain rs)
    → Stores rs l stored → stored ≡ plain rs

-- of these records the extension makes this value, and no other
pub record IsGot {V : Type 0} (k : FieldKind V) (owns : Owns) (fs : Fields) (c : Charge) (v : V)
    : Type 0 where
  pub numbered : AreNumbered (picked owns fs)
  pub folded : Folds k.takes k.default (picked owns fs) c v
  pub only : IsSingle k.takes → (d : Charge) (u : V) → Folds k.takes k.default (picked owns fs) d u
      → u ≡ v

-- A value whose records are in range, fold back to it and are the extension's own is what `get`
-- finds where `set` has put it.
abbrev pub GetOfSet : {V : Type 0} → FieldKind V → Type 0
GetOfSet {V} k =
    (n : ℕ) (owns : Owns) (l : Limits) (fs stored : Fields) (v : V) (c : Charge)
    → FoldsBack k.takes k.default (plain (k.records n v)) c v
    → AllOwned owns (plain (k.records n v)) → Stores (k.records n v) l stored
    → IsGot k owns (replaced owns fs stored) c v

-- Where records of the extension's own are added, its value is what the value before makes of them.
abbrev pub GetOfAdd : {V : Type 0} → FieldKind V → Type 0
GetOfAdd {V} k =
    (owns : Owns) (fs more : Fields) (v z : V) (c d : Charge) → AllOwned owns more
    → Folds k.takes k.default (picked owns fs) c v → Folds k.takes v more d z
    → Folds k.takes k.default (picked owns (joined fs more)) (both c d) z

-- A message that declares the field makes of records what the extension makes of them: the field's
-- value is the fold of the extension's records, and the unknown fields are all others. With
-- `is_own n None` the step here is that of a message of `known n` and `unknown`; one that has
-- `leaving_types` takes the same as with these types.
pub record AgreesWithMessage {V : Type 0} (takes : Step V) : Type 0 where
  pub declared : (owns : Owns) (m z : V) (u w fs : Fields) (c : Charge)
      → Folds (either owns takes keeps) (m, u) fs c (z, w)
      → (w ≡ joined u (others owns fs)) × ((d : Charge) × Folds takes m (picked owns fs) d z)
  pub undeclared : (owns : Owns) (m z : V) (u fs : Fields) (d : Charge)
      → Folds takes m (picked owns fs) d z
      → (c : Charge) × Folds (either owns takes keeps) (m, u) fs c (z, joined u (others owns fs))
  pub leaving : (n : ℕ) (types : OwnTypes) (m z : V × Fields) (fs : Fields) (c : Charge)
      → Folds (choice (λ k p. k == n) (or_kept (λ p. has_type types (type_of p)) takes)
      keeps_beside) m fs c z
      ↔ Folds (either (is_own n (Some types)) takes keeps) m fs c z
