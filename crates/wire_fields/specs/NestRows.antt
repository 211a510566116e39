-- The rows of a value that holds itself as they are read back, one message after another.
use Rattle.std.proofs.Common.{◌≡◌, ℕ, zero, suc, ◌<◌, List, [], refl, sym, ap, ◌∙◌, arith}
use Rattle.wire_fields.specs.Nest.{Nest, Rows, done, row, Row, listed, row_of, row_listed}
use Rattle.wire_fields.specs.Nest.{rows_row, set_rows, count_rows, empty_rows}

-- a row of a value, set to what it is
pub set_same : {L : Type 0} (i : ℕ) (rs : Rows L) → set_rows i (row_of (rows_row i rs)) rs ≡ rs
set_same i done = refl
set_same {L} zero (row r rs) = ap (λ (x : Row L). row x rs) (row_listed r)
set_same {L} (suc i) (row r rs) = ap (λ (x : Rows L). row r x) (set_same i rs)

pub set_again : {L : Type 0} (i : ℕ) (r q : Row L) (rs : Rows L)
    → set_rows i r (set_rows i q rs) ≡ set_rows i r rs
set_again i r q done = refl
set_again zero r q (row p rs) = refl
set_again {L} (suc i) r q (row p rs) = ap (λ (x : Rows L). row p x) (set_again i r q rs)

pub row_set : {L : Type 0} (i : ℕ) (r : Row L) (rs : Rows L) → i < count_rows rs
    → rows_row i (set_rows i r rs) ≡ listed r
row_set i r done h = absurd (omega (arith, h))
row_set zero r (row q rs) h = refl
row_set (suc i) r (row q rs) h = row_set i r rs (omega (arith, h))

-- another row stays
pub row_behind : {L : Type 0} (i j : ℕ) (r : Row L) (rs : Rows L) → i < j
    → rows_row j (set_rows i r rs) ≡ rows_row j rs
row_behind i j r done h = refl
row_behind i zero r (row q rs) h = absurd (omega (arith, h))
row_behind zero (suc j) r (row q rs) h = refl
row_behind (suc i) (suc j) r (row q rs) h = row_behind i j r rs (omega (arith, h))

pub count_set : {L : Type 0} (i : ℕ) (r : Row L) (rs : Rows L)
    → count_rows (set_rows i r rs) ≡ count_rows rs
count_set i r done = refl
count_set zero r (row q rs) = refl
count_set (suc i) r (row q rs) = ap suc (count_set i r rs)

-- a row that is set to what it is to be, so that no row has a message where f has none
pub within_set : {L : Type 0} (f : ℕ → List (Nest L)) (i : ℕ) (q : Row L) (into : Rows L)
    → ((j : ℕ) → f j ≡ [] → rows_row j into ≡ []) → f i ≡ listed q
    → (j : ℕ) → f j ≡ [] → rows_row j (set_rows i q into) ≡ []
within_set f i q done within is j none = refl
within_set f zero q (row p rs) within is zero none = sym is ∙ none
within_set f zero q (row p rs) within is (suc j) none = within (suc j) none
within_set f (suc i) q (row p rs) within is zero none = within zero none
within_set f (suc i) q (row p rs) within is (suc j) none =
    within_set (λ k. f (suc k)) i q rs (λ k. within (suc k)) is j none

pub no_messages : (L : Type 0) (i k : ℕ) → rows_row i (empty_rows {L = L} k) ≡ []
no_messages L i zero = refl
no_messages L zero (suc k) = refl
no_messages L (suc i) (suc k) = no_messages L i k

pub count_empty : (L : Type 0) (k : ℕ) → count_rows (empty_rows {L = L} k) ≡ k
count_empty L zero = refl
count_empty L (suc k) = ap suc (count_empty L k)

-- the rows from the one at i on, put into a value one after another
abbrev pub with_rows : {L : Type 0} → ℕ → Rows L → Rows L → Rows L
with_rows i done into = into
with_rows i (row r rs) into = with_rows (suc i) rs (set_rows i r into)

filled_behind : {L : Type 0} (i : ℕ) (rs : Rows L) (r : Row L) (into : Rows L)
    → with_rows (suc i) rs (row r into) ≡ row r (with_rows i rs into)
filled_behind i done r into = refl
filled_behind i (row q rs) r into = filled_behind (suc i) rs r (set_rows i q into)

pub with_all_rows : {L : Type 0} (rs : Rows L) → with_rows 0 rs (empty_rows (count_rows rs)) ≡ rs
with_all_rows done = refl
with_all_rows {L} (row r rs) =
    filled_behind 0 rs r (empty_rows (count_rows rs))
    ∙ ap (λ (x : Rows L). row r x) (with_all_rows rs)
