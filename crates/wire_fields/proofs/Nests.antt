-- Messages that hold themselves or one another: their rows, written one behind another.
use Rattle.std.proofs.Common.{◌≡◌, List, [], ◌∷◌, ℕ, zero, suc, ◌+◌, ◌<◌, ◌≤◌, length, drop, drop-cons, add-one, refl, sym, ap, ◌∙◌, arith}
use Rattle.std.specs.Prelude.{Bool}
use Rattle.wire_codec.specs.Records.{Records, none, joined_records, text_size}
use Rattle.wire_codec.specs.Sizes.{cut_sizes}
use Rattle.wire_codec.specs.Tape.{Tape, recorded}
use Rattle.wire_fields.specs.Measuring.{Measures}
use Rattle.wire_fields.specs.Messages.{Encoding, message_record, message_each}
use Rattle.wire_fields.specs.Nest.{Nest, nest, Rows, done, row, Row, end, ahead, listed, row_of}
use Rattle.wire_fields.specs.Nest.{row_listed, leaf_of, rows_of, rows_row, row_at, count_rows, row_count, listed_row}
use Rattle.wire_fields.specs.NestTable.{Table, Family, message_at, empty_of, family_records, rows_records, row_records}
use Rattle.wire_fields.specs.NestTable.{is_grouped, encoding_of, encoding_at}
use Rattle.wire_fields.proofs.Measuring.{Splits, IsMeasuredTo, nothing_recorded}

abbrev rows_from : {L : Type 0} → ℕ → Rows L → Rows L
rows_from zero rs = rs
rows_from (suc i) done = done
rows_from (suc i) (row r rs) = rows_from i rs

-- the records of a value from the row at i on
abbrev pub left_at : {S L : Type 0} → Family S L → S → Nest L → ℕ → Records
left_at family s m i = rows_records family s (leaf_of m) i (rows_from i (rows_of m))

first_row : {L : Type 0} (i : ℕ) (rs : Rows L) → i < count_rows rs
    → rows_from i rs ≡ row (row_of (rows_row i rs)) (rows_from (suc i) rs)
first_row i done h = absurd (omega (arith, h))
first_row {L} zero (row r rs) h = ap (λ (x : Row L). row x rs) (sym (row_listed r))
first_row (suc i) (row r rs) h = first_row i rs (omega (arith, h))

no_more_rows : {L : Type 0} (i : ℕ) (rs : Rows L) → count_rows rs ≤ i → rows_from i rs ≡ done
no_more_rows zero done h = refl
no_more_rows (suc i) done h = refl
no_more_rows zero (row r rs) h = absurd (omega (arith, h))
no_more_rows (suc i) (row r rs) h = no_more_rows i rs (omega (arith, h))

-- a row of records is that of its messages, one by one
each_of_row : {S L : Type 0} (family : Family S L) (s : S) (e : Encoding) (n : ℕ) (r : Row L)
    → row_records family s e n r ≡ message_each e (family_records family s) n (listed r)
each_of_row family s e n end = refl
each_of_row family s e n (ahead m ms) =
    ap (joined_records (message_record e n (family_records family s m)))
    (each_of_row family s e n ms)

module _ {S L : Type 0} (family : Family S L) (s : S) where
  -- the first run, and the rows
  pub first_run : (m : Nest L)
      → Splits (family_records family s m) ((family.table s).run 0 (leaf_of m))
      (left_at family s m 0)
  first_run (nest l rows) = record { is = refl }

  -- behind the row at i, with its number and its encoding
  abbrev pub behind_row : Nest L → ℕ → Records
  behind_row m i =
      joined_records ((family.table s).run (i + 1) (leaf_of m)) (left_at family s m (i + 1))

  pub next_row : (m : Nest L) (i n : ℕ) (grouped : Bool) (held : S) (ms : List (Nest L))
      → i < row_count m → n ≡ (family.table s).number i
      → grouped ≡ is_grouped ((family.table s).place ((family.table s).number i)) → held
      ≡ family.holds s i
      → ms ≡ row_at i m
      → Splits (left_at family s m i)
      (message_each (encoding_of grouped) (family_records family held) n ms) (behind_row m i)
  next_row m i n grouped held ms h n_is grouped_is held_is ms_is =
      rw (grouped_is, n_is, held_is, ms_is, add-one) (record {
        is = ap (rows_records family s (leaf_of m) i) (first_row i (rows_of m) h)
            ∙ ap (λ (x : Records). joined_records x (joined_records ((family.table s).run (suc i)
            (leaf_of m))
            (left_at family s m (suc i))))
            (each_of_row family (family.holds s i) (encoding_at (family.table s)
            ((family.table s).number i)) ((family.table s).number i)
            (row_of (row_at i m))
            ∙ ap (message_each (encoding_at (family.table s) ((family.table s).number i))
            (family_records family (family.holds s i)) ((family.table s).number i)) (listed_row
            (row_at i m)));
      })

  pub next_run : (m : Nest L) (i : ℕ)
      → Splits (behind_row m i) ((family.table s).run (i + 1) (leaf_of m)) (left_at family s m
      (i + 1))
  next_run m i = record { is = refl }

  -- behind the last row
  pub no_rows : (m : Nest L) (i : ℕ) → row_count m ≤ i → left_at family s m i ≡ none
  no_rows m i h = ap (rows_records family s (leaf_of m) i) (no_more_rows i (rows_of m) h)

-- the messages of a row from the one at i on
pub next_at : {L : Type 0} (t : Table L) (encoding : Encoding) (records : Nest L → Records)
    (n : ℕ) (ms : List (Nest L)) (i : ℕ) → i < length ms
    → Splits (message_each encoding records n (drop i ms))
    (message_record encoding n (records (message_at t ms i)))
    (message_each encoding records n (drop (i + 1) ms))
next_at {L} t encoding records n ms i within =
    let front : drop i ms ≡ message_at t ms i ∷ drop (i + 1) ms =
    rw add-one (drop-cons ms i (empty_of t) within) in
    record { is = ap (λ (xs : List (Nest L)). message_each encoding records n xs) front }

-- all of them
pub all_at : {L : Type 0} (encoding : Encoding) (records : Nest L → Records) (n : ℕ)
    (ms : List (Nest L)) (i : ℕ) → length ms ≤ i → message_each encoding records n (drop i ms)
    ≡ none
all_at encoding records n [] zero h = refl
all_at encoding records n [] (suc i) h = refl
all_at encoding records n (m ∷ ms) zero h = absurd (omega (arith, h))
all_at encoding records n (m ∷ ms) (suc i) h = all_at encoding records n ms i (omega (arith, h))

-- none of them
pub none_at : {L : Type 0} (encoding : Encoding) (records : Nest L → Records) (n : ℕ)
    (ms : List (Nest L)) → length ms ≡ 0 → message_each encoding records n ms ≡ none
none_at encoding records n [] h = refl
none_at encoding records n (m ∷ ms) h = absurd (omega (arith, h))

-- nothing is left to measure
pub measured_all : (whole left : Records) (old now : Tape) (len : ℕ) → left ≡ none
    → IsMeasuredTo whole left old now len → Measures whole old now len
measured_all whole left old now len is w =
    let nothing : text_size none ≡ 0 = refl in
    record {
      size = omega (arith, w.size, ap text_size is, nothing);
      sizes = nothing_recorded now ∙ ap (λ (rs : Records). recorded now (cut_sizes rs)) (sym is)
          ∙ w.sizes;
    }
