-- What values of a family lack from one of their rows on.
use Rattle.std.proofs.Common.{◌≡◌, ℕ, zero, suc, ◌+◌, ◌<◌, ◌≤◌, List, [], ◌∷◌, get_or, length, map, drop, add-one, refl, sym, ap, ◌∙◌, arith}
use Rattle.std.specs.Option.{option_or}
use Rattle.std.specs.Prelude.{Some, None}
use Rattle.wire_fields.specs.Nest.{Nest, nest, Rows, done, row, Row, end, ahead, listed}
use Rattle.wire_fields.specs.Nest.{leaf_of, rows_of, rows_row, row_at, count_rows, row_count}
use Rattle.wire_fields.specs.NestTable.{Table, Family, message_at, empty_of}
use Rattle.wire_required.specs.Missing.{Missing, under, each_from}
use Rattle.wire_required.specs.Nested.{Asked, AskedRow, family_missing, rows_missing, each_missing}
use Rattle.wire_required.specs.Nested.{row_missing}
use Rattle.wire_required.specs.Path.{PathPart, index}

abbrev rows_from : {L : Type 0} → ℕ → Rows L → Rows L
rows_from zero rs = rs
rows_from (suc i) done = done
rows_from (suc i) (row r rs) = rows_from i rs

-- what a value lacks from the row at i on
abbrev pub left_missing : {S L : Type 0} → Family S L → Asked S L → S → Nest L → ℕ → Missing
left_missing family asked s m i =
    rows_missing family asked s (leaf_of m) i (rows_from i (rows_of m))

-- what each message of a row lacks, message by message
each_of_row : {S L : Type 0} (family : Family S L) (asked : Asked S L) (s : S) (r : Row L)
    → each_missing family asked s r ≡ map (family_missing family asked s) (listed r)
each_of_row family asked s end = refl
each_of_row family asked s (ahead m ms) =
    ap (λ (found : List Missing). family_missing family asked s m ∷ found)
    (each_of_row family asked s ms)

no_more_rows : {L : Type 0} (i : ℕ) (rs : Rows L) → count_rows rs ≤ i → rows_from i rs ≡ done
no_more_rows zero done h = refl
no_more_rows (suc i) done h = refl
no_more_rows zero (row r rs) h = absurd (omega (arith, h))
no_more_rows (suc i) (row r rs) h = no_more_rows i rs (omega (arith, h))

module _ {S L : Type 0} (family : Family S L) (asked : Asked S L) (s : S) where
  next_of : (l : L) (i k : ℕ) (rs : Rows L) → i < count_rows rs
      → rows_missing family asked s l k (rows_from i rs)
      ≡ option_or (row_missing (asked.row s k) (map (family_missing family asked
      (family.holds s k)) (rows_row i rs)))
      (option_or (asked.run s (suc k) l) (rows_missing family asked s l (suc k)
      (rows_from (suc i) rs)))
  next_of l i k done h = absurd (omega (arith, h))
  next_of l zero k (row r rs) h =
      ap (λ (found : List Missing). option_or (row_missing (asked.row s k) found)
      (option_or (asked.run s (suc k) l) (rows_missing family asked s l (suc k) rs)))
      (each_of_row family asked (family.holds s k) r)
  next_of l (suc i) k (row r rs) h = next_of l i k rs (omega (arith, h))

  -- what a row lacks, the run behind it, and the rows to come
  pub next_row : (m : Nest L) (i : ℕ) (q : AskedRow) (held : S) (ms : List (Nest L))
      (found : Missing) → i < row_count m → q ≡ asked.row s i → held ≡ family.holds s i
      → ms ≡ row_at i m → found ≡ row_missing q (map (family_missing family asked held) ms)
      → left_missing family asked s m i ≡ option_or found
      (option_or (asked.run s (i + 1) (leaf_of m)) (left_missing family asked s m (i + 1)))
  next_row m i q held ms found h q_is held_is ms_is found_is =
      rw (found_is, q_is, held_is, ms_is, add-one) (next_of (leaf_of m) i i (rows_of m) h)

  -- behind the last row
  pub no_rows : (m : Nest L) (i : ℕ) → row_count m ≤ i → left_missing family asked s m i ≡ None
  no_rows m i h = ap (rows_missing family asked s (leaf_of m) i) (no_more_rows i (rows_of m) h)

-- ---- one message after another

-- the messages from the one at i on, of which the first has the index k
next_from : {L : Type 0} (lacks : Nest L → Missing) (ms : List (Nest L)) (i k : ℕ) (d : Nest L)
    → i < length ms → each_from (λ m. m) k (drop i (map lacks ms))
    ≡ option_or (under (index k) (lacks (get_or ms i d)))
    (each_from (λ m. m) (suc k) (drop (suc i) (map lacks ms)))
next_from lacks [] i k d h = absurd (omega (arith, h))
next_from lacks (m ∷ ms) zero k d h = refl
next_from lacks (m ∷ ms) (suc i) k d h = next_from lacks ms i k d (omega (arith, h))

pub next_message : {L : Type 0} (t : Table L) (lacks : Nest L → Missing) (ms : List (Nest L))
    (i : ℕ) → i < length ms → each_from (λ m. m) i (drop i (map lacks ms))
    ≡ option_or (under (index i) (lacks (message_at t ms i)))
    (each_from (λ m. m) (i + 1) (drop (i + 1) (map lacks ms)))
next_message t lacks ms i h = rw add-one (next_from lacks ms i i (empty_of t) h)

-- ---- what was found, and what was not

pub found_here : (whole here rest : Missing) (path : List PathPart) → whole ≡ option_or here rest
    → here ≡ Some path → Some path ≡ whole
found_here whole here rest path is found =
    sym (is ∙ ap (λ (x : Missing). option_or x rest) found)

pub not_here : (whole here rest : Missing) → whole ≡ option_or here rest → here ≡ None
    → whole ≡ rest
not_here whole here rest is none = is ∙ ap (λ (x : Missing). option_or x rest) none
