-- Which required field a value lacks that holds values of its own type, or of the types of a family.
use Rattle.std.proofs.Common.{◌⊎◌, inl, inr}
use Rattle.std.specs.Option.{option_or}
use Rattle.std.specs.Prelude.{ℕ, suc, List, [], ◌∷◌, None}
use Rattle.wire_fields.specs.Nest.{Nest, nest, Rows, done, row, Row, end, ahead, first_in}
use Rattle.wire_fields.specs.NestTable.{Family}
use Rattle.wire_required.specs.Missing.{Missing, needs, within, within_each}

-- what is asked of a row of messages, which is a field of this name: of a list, of one message at
-- most, or of one that is required
pub data AskedRow : Type 0 where
  each : List ℕ → AskedRow
  once : List ℕ → AskedRow
  needed : List ℕ → AskedRow

-- What is asked of each type: of a run of its leaf, before the first row, behind the first, and so
-- on; and of each row.
pub record Asked (S L : Type 0) : Type 0 where
  pub run : S → ℕ → L → Missing
  pub row : S → ℕ → AskedRow

-- what a row lacks whose messages lack these
abbrev pub row_missing : AskedRow → List Missing → Missing
row_missing (each name) found = within_each name (λ m. m) found
row_missing (once name) found = within name (λ m. m) (first_in found)
row_missing (needed name) found =
    option_or (needs name (first_in found)) (within name (λ m. m) (first_in found))

abbrev mutual
  -- the first required field that is not there
  pub family_missing : {S L : Type 0} → Family S L → Asked S L → S → Nest L → Missing
  family_missing family asked s (nest l rows) =
      option_or (asked.run s 0 l) (rows_missing family asked s l 0 rows)

  -- the rows from the one at i on, and the runs behind them
  pub rows_missing : {S L : Type 0} → Family S L → Asked S L → S → L → ℕ → Rows L → Missing
  rows_missing family asked s l i done = None
  rows_missing family asked s l i (row r rs) =
      option_or (row_missing (asked.row s i) (each_missing family asked (family.holds s i) r))
      (option_or (asked.run s (suc i) l) (rows_missing family asked s l (suc i) rs))

  -- what each message of a row lacks
  pub each_missing : {S L : Type 0} → Family S L → Asked S L → S → Row L → List Missing
  each_missing family asked s end = []
  each_missing family asked s (ahead m ms) =
      family_missing family asked s m ∷ each_missing family asked s ms

-- ---- the leaf of one type of several

module _ {A B : Type 0} where
  abbrev pub asked_first : (A → Missing) → A ⊎ B → Missing
  asked_first missing (inl l) = missing l
  asked_first missing (inr l) = None

  abbrev pub asked_second : (B → Missing) → A ⊎ B → Missing
  asked_second missing (inl l) = None
  asked_second missing (inr l) = missing l
