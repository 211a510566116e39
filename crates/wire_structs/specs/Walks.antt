-- Lists that are read in place, one value after another.
use Rattle.std.specs.Prelude.{◌≡◌, ◌≢◌, ◌≤◌, ℕ, List, [], ◌∷◌, ◌++◌}
use Rattle.wire_codec.specs.Charge.{payload_charge}
use Rattle.wire_codec.specs.Field.{Payload}
use Rattle.wire_codec.specs.Folds.{Step}
use Rattle.wire_codec.specs.Limits.{Limits, Charge, Fits}
use Rattle.wire_codec.specs.LimitsLaws.{LimitsAddUp}
use Rattle.wire_codec.specs.RecordLaws.{WholeInput}
use Rattle.wire_codec.specs.Taking.{Decodes}
use Rattle.wire_codec.specs.TakingLaws.{LevelsAndCounts}
use Rattle.wire_fields.specs.Scalar.{ScalarType}
use Rattle.wire_fields.specs.Shape.{Shape}

-- within some limits of no more than 100 levels the bytes make z of m
abbrev pub Makes : {V : Type 0} → Step V → List ℕ → V → V → Type 0
Makes takes bytes m z = (l : Limits) × (l.depth ≤ 100) × Decodes takes l m bytes z

-- what is given is the element
abbrev pub IsElement : List ℕ → List ℕ → Type 0
IsElement b a = b ≡ a

-- what is given are bytes that make the element, a message
abbrev pub MakesElement : {V : Type 0} → Shape V → List ℕ → V → Type 0
MakesElement s b a = Makes s.takes b s.default a

-- Where old makes z of m, new makes z of a value whose list is that of m with one element more at
-- its end, for which what is given stands: so those that were given and those that are left are the
-- list of z.
abbrev pub GivesNext : {V A B : Type 0} → Step V → (V → List A) → (B → A → Type 0) → List ℕ → List ℕ
    → B → Type 0
GivesNext {V} {A} takes list Means old new b =
    (m z : V) → Makes takes old m z
    → (u : V) × Makes takes new u z × (a : A) × Means b a × (list u ≡ list m ++ a ∷ [])

-- where the bytes make z of m, none is left
abbrev pub EndsList : {V A : Type 0} → Step V → (V → List A) → List ℕ → Type 0
EndsList {V} takes list bytes = (m z : V) → Makes takes bytes m z → list z ≡ list m

-- the bytes make nothing of any value
abbrev pub MakesNothing : {V : Type 0} → Step V → List ℕ → Type 0
MakesNothing {V} takes bytes = (m z : V) → Makes takes bytes m z → ⊥

-- A list of a message: a record of number k adds the element for which the value that it sets
-- stands, and every other leaves the list as it is; and the groups of a record are charged their
-- levels.
pub record ListOf {V A B : Type 0} (takes : Step V) (list : V → List A) (Means : B → A → Type 0)
    (k : ℕ) (t : ScalarType B) : Type 0 where
  pub own : LevelsAndCounts → LimitsAddUp → WholeInput → (l : Limits) → l.depth ≤ 100 → (m z : V)
      (p : Payload) (c : Charge) → Fits c l → takes m k p c z
      → (b : B) × t.Sets p b × (a : A) × Means b a × (list z ≡ list m ++ a ∷ [])
  pub others : (m z : V) (n : ℕ) (p : Payload) (c : Charge) → n ≢ k → takes m n p c z
      → list z ≡ list m
  pub levels : (m z : V) (n : ℕ) (p : Payload) (c : Charge) → takes m n p c z
      → (payload_charge p).depth ≤ c.depth
