-- Values that hold values of their own type, or of the types of a family.
use Rattle.std.proofs.Common.{◌≡◌, ℕ, zero, suc, ◌+◌, ◌<◌, ◌≤◌, List, [], ◌∷◌, get_or, length, map, ◌++◌, sym}
use Rattle.std.proofs.lemmas.List.{map-append}
use Rattle.std.proofs.Common.{refl, ap, ◌∙◌, arith}
use Rattle.std.specs.Prelude.{Option, Some, None, Box, box_value}
use Rattle.std.specs.declared.alloc.Global.{Global}

mutual
  -- the leaf, which is all that is of none of these types, and a row for each field that is of one
  pub data Nest (L : Type 0) : Type 0 where
    nest : L → Rows L → Nest L

  pub data Rows (L : Type 0) : Type 0 where
    done : Rows L
    row : Row L → Rows L → Rows L

  pub data Row (L : Type 0) : Type 0 where
    end : Row L
    ahead : Nest L → Row L → Row L

-- ---- rows as lists

abbrev pub listed : {L : Type 0} → Row L → List (Nest L)
listed end = []
listed (ahead m ms) = m ∷ listed ms

abbrev pub row_of : {L : Type 0} → List (Nest L) → Row L
row_of [] = end
row_of (m ∷ ms) = ahead m (row_of ms)

pub listed_row : {L : Type 0} (ms : List (Nest L)) → listed (row_of ms) ≡ ms
listed_row [] = refl
listed_row {L} (m ∷ ms) = ap (λ (x : List (Nest L)). m ∷ x) (listed_row ms)

pub row_listed : {L : Type 0} (r : Row L) → row_of (listed r) ≡ r
row_listed end = refl
row_listed {L} (ahead m ms) = ap (λ (x : Row L). ahead m x) (row_listed ms)

-- what an optional field holds, as a row
abbrev pub boxed_row : {V : Type 0} → Option (Box V Global) → List V
boxed_row None = []
boxed_row (Some boxed) = box_value boxed ∷ []

abbrev pub first_in : {V : Type 0} → List V → Option V
first_in [] = None
first_in (v ∷ vs) = Some v

-- ---- parts

abbrev pub leaf_of : {L : Type 0} → Nest L → L
leaf_of (nest l rows) = l

abbrev pub rows_of : {L : Type 0} → Nest L → Rows L
rows_of (nest l rows) = rows

abbrev pub rows_row : {L : Type 0} → ℕ → Rows L → List (Nest L)
rows_row i done = []
rows_row zero (row r rs) = listed r
rows_row (suc i) (row r rs) = rows_row i rs

abbrev pub row_at : {L : Type 0} → ℕ → Nest L → List (Nest L)
row_at i m = rows_row i (rows_of m)

abbrev pub set_rows : {L : Type 0} → ℕ → Row L → Rows L → Rows L
set_rows i r done = done
set_rows zero r (row q rs) = row r rs
set_rows (suc i) r (row q rs) = row q (set_rows i r rs)

-- the same value with another row, and with these in the row
abbrev pub set_row : {L : Type 0} → ℕ → Row L → Nest L → Nest L
set_row i r m = nest (leaf_of m) (set_rows i r (rows_of m))

abbrev pub with_row : {L : Type 0} → ℕ → List (Nest L) → Nest L → Nest L
with_row i ms m = set_row i (row_of ms) m

-- a message is put behind those of a row
pub row_pushed : {T L : Type 0} (view : T → Nest L) (i : ℕ) (m : Nest L) (ms ks : List T) (t : T)
    → row_at i m ≡ map view ms → ks ≡ ms ++ t ∷ []
    → set_row i (row_of (map view ks)) m ≡ with_row i (row_at i m ++ view t ∷ []) m
row_pushed {T} {L} view i m ms ks t row_is is =
    ap (λ (x : List T). set_row i (row_of (map view x)) m) is
    ∙ ap (λ (x : List (Nest L)). set_row i (row_of x) m) (map-append view ms (t ∷ [])
    ∙ ap (λ (x : List (Nest L)). x ++ view t ∷ []) (sym row_is))

abbrev pub count_rows : {L : Type 0} → Rows L → ℕ
count_rows done = 0
count_rows (row r rs) = suc (count_rows rs)

abbrev pub row_count : {L : Type 0} → Nest L → ℕ
row_count m = count_rows (rows_of m)

abbrev pub empty_rows : {L : Type 0} → ℕ → Rows L
empty_rows zero = done
empty_rows (suc k) = row end (empty_rows k)

pub same_nest : {L : Type 0} (m k : Nest L) → leaf_of m ≡ leaf_of k → rows_of m ≡ rows_of k → m ≡ k
same_nest {L} (nest l rs) (nest k ss) e f =
    ap (λ (x : L). nest x rs) e ∙ ap (λ (x : Rows L). nest k x) f

-- ---- how many values there are, in all

abbrev mutual
  pub nodes : {L : Type 0} → Nest L → ℕ
  nodes (nest l rows) = suc (rows_nodes rows)

  pub rows_nodes : {L : Type 0} → Rows L → ℕ
  rows_nodes done = 0
  rows_nodes (row r rs) = row_nodes r + rows_nodes rs

  pub row_nodes : {L : Type 0} → Row L → ℕ
  row_nodes end = 0
  row_nodes (ahead m ms) = nodes m + row_nodes ms

abbrev pub all_nodes : {L : Type 0} → List (Nest L) → ℕ
all_nodes [] = 0
all_nodes (m ∷ ms) = nodes m + all_nodes ms

listed_nodes : {L : Type 0} (r : Row L) → all_nodes (listed r) ≡ row_nodes r
listed_nodes end = refl
listed_nodes (ahead m ms) = ap (λ k. nodes m + k) (listed_nodes ms)

rows_less : {L : Type 0} (i : ℕ) (rs : Rows L) → all_nodes (rows_row i rs) ≤ rows_nodes rs
rows_less i done = omega arith
rows_less zero (row r rs) = omega (arith, listed_nodes r)
rows_less (suc i) (row r rs) = omega (arith, rows_less i rs)

one_less : {L : Type 0} (m : Nest L) (i : ℕ) → all_nodes (row_at i m) < nodes m
one_less (nest l rows) i = omega (arith, rows_less i rows)

-- a row has fewer than the value
pub row_less : {L : Type 0} (ms : List (Nest L)) (m : Nest L) (i : ℕ) → ms ≡ row_at i m
    → all_nodes ms < nodes m
row_less ms m i e = omega (arith, ap all_nodes e, one_less m i)

-- and one of a row no more than the row
pub message_less : {L : Type 0} (ms : List (Nest L)) (i : ℕ) (d : Nest L) → i < length ms
    → nodes (get_or ms i d) ≤ all_nodes ms
message_less [] i d h = absurd (omega (arith, h))
message_less (m ∷ ms) zero d h = omega arith
message_less (m ∷ ms) (suc i) d h = omega (arith, message_less ms i d (omega (arith, h)))

-- ---- messages that lie in a slice

pub viewed_at : {T L : Type 0} (view : T → Nest L) (ts : List T) (i : ℕ) (t : T) (d : Nest L)
    → i < length (map view ts) → t ≡ get_or ts i t → get_or (map view ts) i d ≡ view t
viewed_at view [] i t d h e = absurd (omega (arith, h))
viewed_at view (x ∷ xs) zero t d h e = ap view (sym e)
viewed_at view (x ∷ xs) (suc i) t d h e = viewed_at view xs i t d (omega (arith, h)) e
