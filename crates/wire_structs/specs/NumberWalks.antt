-- Lists of numbers that are read in place, packed or not, one number after another.
use Rattle.std.specs.Prelude.{◌≡◌, ◌≢◌, ◌≤◌, ℕ, List, [], ◌∷◌, ◌++◌}
use Rattle.wire_codec.specs.Charge.{payload_charge}
use Rattle.wire_codec.specs.Field.{Payload}
use Rattle.wire_codec.specs.Folds.{Step}
use Rattle.wire_codec.specs.Limits.{Charge}
use Rattle.wire_codec.specs.Packed.{Appends}
use Rattle.wire_codec.specs.ValueMap.{ValueMap}
use Rattle.wire_fields.specs.Packed.{IsNumberText, adds_numbers}
use Rattle.wire_fields.specs.declared.form.Form.{Form}
use Rattle.wire_structs.specs.Walks.{Makes}
use Rattle.wire_structs.specs.declared.numbers_walk.NumbersWalk.{NumbersWalk}

-- Where these numbers were given, the walk leads to z: with those of the payload that stands open
-- behind them they are the list of a value, of which the bytes make z.
pub record Leads {V T : Type 0} (takes : Step V) (list : V → List T) (form : Form)
    (values : ValueMap T) (walk : NumbersWalk) (given : List T) (z : V) : Type 0 where
  pub value : V
  pub payload : Appends (IsNumberText form) values walk.payload.now given (list value)
  pub bytes : Makes takes walk.bytes.now value z

-- wherever the old walk leads, the new one does, with one number more given
abbrev pub GivesNumber : {V T : Type 0} → Step V → (V → List T) → Form → ValueMap T → NumbersWalk
    → NumbersWalk → T → Type 0
GivesNumber {V} {T} takes list form values old new number =
    (given : List T) (z : V) → Leads takes list form values old given z
    → Leads takes list form values new (given ++ number ∷ []) z

-- wherever the walk leads, the numbers that were given are all of the list
abbrev pub EndsNumbers : {V T : Type 0} → Step V → (V → List T) → Form → ValueMap T → NumbersWalk
    → Type 0
EndsNumbers {V} {T} takes list form values walk =
    (given : List T) (z : V) → Leads takes list form values walk given z → list z ≡ given

-- wherever the old walk leads, the new one does
abbrev pub LeadsOn : {V T : Type 0} → Step V → (V → List T) → Form → ValueMap T → NumbersWalk
    → NumbersWalk → Type 0
LeadsOn {V} {T} takes list form values old new =
    (given : List T) (z : V) → Leads takes list form values old given z
    → Leads takes list form values new given z

-- the walk leads nowhere
abbrev pub LeadsNowhere : {V T : Type 0} → Step V → (V → List T) → Form → ValueMap T → NumbersWalk
    → Type 0
LeadsNowhere {V} {T} takes list form values walk =
    (given : List T) (z : V) → Leads takes list form values walk given z → ⊥

-- where the bytes make z of m, the walk leads to z, with the list of m given
abbrev pub BeginsNumbers : {V T : Type 0} → Step V → (V → List T) → Form → ValueMap T → List ℕ
    → NumbersWalk → Type 0
BeginsNumbers {V} takes list form values bytes walk =
    (m z : V) → Makes takes bytes m z → Leads takes list form values walk (list m) z

-- A list of numbers of a message: a record of number k adds its number, or those of its payload,
-- and every other leaves the list as it is; and the groups of a record are charged their levels.
pub record NumbersOf {V T : Type 0} (takes : Step V) (list : V → List T) (k : ℕ) (form : Form)
    (values : ValueMap T) : Type 0 where
  pub own : (m z : V) (p : Payload) (c : Charge) → takes m k p c z
      → adds_numbers form values (list m) k p c (list z)
  pub others : (m z : V) (n : ℕ) (p : Payload) (c : Charge) → n ≢ k → takes m n p c z
      → list z ≡ list m
  pub levels : (m z : V) (n : ℕ) (p : Payload) (c : Charge) → takes m n p c z
      → (payload_charge p).depth ≤ c.depth
