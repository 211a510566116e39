-- What decoding leaves of messages that hold themselves or one another is in range, where what it
-- leaves of their leaves is.
use Rattle.std.proofs.Common.{◌≡◌, ◌⊎◌, inl, inr, ℕ, zero, suc, ◌+◌, [], ◌∷◌, ◌++◌, refl, sym, ap, ◌∙◌, subst, arith, add-zero}
use Rattle.std.specs.Prelude.{Bool, true, false}
use Rattle.wire_codec.specs.Field.{Payload}
use Rattle.wire_codec.specs.Folds.{Step}
use Rattle.wire_codec.specs.Limits.{Charge}
use Rattle.wire_codec.specs.Records.{joined_records}
use Rattle.wire_fields.specs.declared.recursive.Place.{Place}
use Rattle.wire_fields.specs.declared.recursive.Place.TheVariants.{Leaf, Once, Each, Grouped, EachGrouped}
use Rattle.wire_fields.specs.Grounds.{Grounds}
use Rattle.wire_fields.specs.Least.{Steps, up_to}
use Rattle.wire_fields.specs.Messages.{inside, or_else}
use Rattle.wire_fields.specs.Nest.{Nest, nest, Rows, done, row, Row, end, ahead, listed, row_of}
use Rattle.wire_fields.specs.Nest.{leaf_of, rows_of, rows_row, set_rows, count_rows}
use Rattle.wire_fields.specs.Nest.{empty_rows, first_in, with_row}
use Rattle.wire_fields.specs.NestRange.{IsFit, Beside, any_beside, FamilyHolds, RowsHold, RowHolds}
use Rattle.wire_fields.specs.NestRange.{beside_range, nest_range, runs_from, all_runs, GoesToLeaf}
use Rattle.wire_fields.specs.NestRows.{count_set, count_empty}
use Rattle.wire_fields.specs.NestTable.{Table, Family, alone, IsThere, encoding_of, encoding_at}
use Rattle.wire_fields.specs.NestTable.{is_grouped, placed, with_more, empty_of, family_records, rows_records}
use Rattle.wire_fields.specs.NestTable.{row_records, owned, new_in, one_in, takes_at, level}
use Rattle.wire_fields.specs.NestTable.{family_takes, nest_records, nest_takes}
use Rattle.wire_fields.specs.Ranges.{Range}
use Rattle.wire_fields.specs.Shape.{Shape}
use Rattle.wire_fields.specs.Short.{AreShort, first_short, second_short, joined_short}
use Rattle.wire_fields.specs.Sound.{IsSound}
use Rattle.wire_fields.specs.Stays.{Stays, folds_stay}
use Rattle.wire_fields.specs.StaysMessages.{EncodingStays, prefixed_stays, delimited_stays}

-- ---- what a type shows of its table

-- each row as it was, or without its messages
abbrev pub IsThinned : {L : Type 0} → Rows L → Rows L → Type 0
IsThinned done done = Unit {0}
IsThinned done (row p ps) = ⊥
IsThinned (row q rs) done = ⊥
IsThinned (row q rs) (row p ps) = ((p ≡ q) ⊎ (p ≡ end)) × IsThinned rs ps

pub as_thin : {L : Type 0} (rows : Rows L) → IsThinned rows rows
as_thin done = tt
as_thin (row q rs) = (inl refl, as_thin rs)

-- What the leaf holds as records leave it. Each place is one of the table. Which rows may stand
-- beside it stays so: where a record of the leaf is taken, where a message becomes the one of its
-- row, and where one is put behind those of its row.
pub record LeafStays {L : Type 0} (t : Table L) (r : Range L) (Stands : Beside L) : Type 1 where
  pub Is : L → Type 0
  pub start : Is t.default
  pub step : (n : ℕ) (p : Payload) (c : Charge) (l z : L) → IsSound n p → GoesToLeaf t n → Is l
      → t.takes l n p c z → Is z
  pub holds : (l : L) → Is l → AreShort (all_runs t l) → r.Holds l
  pub there : (n : ℕ) → IsThere t (t.place n)
  pub none : Stands t.default (empty_rows t.rows)
  pub beside_leaf : (n : ℕ) (p : Payload) (c : Charge) (l z : L) (rows : Rows L) → GoesToLeaf t n
      → Is l → Stands l rows → t.takes l n p c z
      → IsThinned rows (t.rows_beside n z rows) × Stands z (t.rows_beside n z rows)
  pub beside_one : (i : ℕ) (m after : Nest L) → t.once i ≡ true → Is (leaf_of m)
      → Stands (leaf_of m) (rows_of m) → Is (leaf_of (t.beside i m))
      × IsThinned (rows_of m) (rows_of (t.beside i m))
      × Stands (leaf_of (t.beside i m)) (set_rows i (ahead after end) (rows_of (t.beside i m)))
  pub beside_more : (i : ℕ) (l : L) (rows : Rows L) (q : Row L) → t.once i ≡ false
      → Stands l rows → Stands l (set_rows i q rows)

-- ---- the value

module _ {S L : Type 0} (family : Family S L) (Is : S → L → Type 0) (stands : S → Beside L) where
  -- the leaf is as this says, there are as many rows as the table has, and their messages are such
  abbrev mutual
    pub FamilyIs : S → Nest L → Type 0
    FamilyIs s (nest l rows) =
        Is s l × (count_rows rows ≡ (family.table s).rows) × RowsAre s 0 rows × stands s l rows

    pub RowsAre : S → ℕ → Rows L → Type 0
    RowsAre s i done = Unit {0}
    RowsAre s i (row q rs) =
        IsFit ((family.table s).once i) q × RowIs (family.holds s i) q × RowsAre s (suc i) rs

    pub RowIs : S → Row L → Type 0
    RowIs s end = Unit {0}
    RowIs s (ahead m ms) = FamilyIs s m × RowIs s ms

fit_end : (L : Type 0) (once : Bool) → IsFit {L = L} once end
fit_end L true = tt
fit_end L false = tt

fit_one : {L : Type 0} (once : Bool) (m : Nest L) → IsFit once (ahead m end)
fit_one true m = tt
fit_one false m = tt

fit_many : {L : Type 0} (once : Bool) (q : Row L) → once ≡ false → IsFit once q
fit_many true q many = absurd cc
fit_many false q many = tt

thinned_count : {L : Type 0} (rows into : Rows L) → IsThinned rows into
    → count_rows into ≡ count_rows rows
thinned_count done done h = refl
thinned_count done (row p ps) h = absurd h
thinned_count (row q rs) done h = absurd h
thinned_count (row q rs) (row p ps) h = ap suc (thinned_count rs ps h.1)

module _ {S L : Type 0} (g : Grounds) (family : Family S L) (r : S → Range L)
    (stands : S → Beside L) (h : (s : S) → LeafStays (family.table s) (r s) (stands s)) where
  abbrev IsMessage : S → Nest L → Type 0
  IsMessage = FamilyIs family (λ s. (h s).Is) stands

  abbrev AreRows : S → ℕ → Rows L → Type 0
  AreRows = RowsAre family (λ s. (h s).Is) stands

  abbrev IsRow : S → Row L → Type 0
  IsRow = RowIs family (λ s. (h s).Is) stands

  -- ---- rows

  empty_are : (s : S) (i k : ℕ) → AreRows s i (empty_rows k)
  empty_are s i zero = tt
  empty_are s i (suc k) = (fit_end L ((family.table s).once i), tt, empty_are s (suc i) k)

  empty_is : (s : S) → IsMessage s (empty_of (family.table s))
  empty_is s = (
    (h s).start,
    count_empty L (family.table s).rows,
    empty_are s 0 (family.table s).rows,
    (h s).none,
  )

  thinned_is : (s : S) (q p : Row L) (once : Bool) → (p ≡ q) ⊎ (p ≡ end) → IsFit once q
      → IsRow s q → IsFit once p × IsRow s p
  thinned_is s q p once (inl same) fit is = (
    subst (IsFit once) (sym same) fit,
    subst (IsRow s) (sym same) is,
  )
  thinned_is s q p once (inr none) fit is = (
    subst (IsFit once) (sym none) (fit_end L once),
    subst (IsRow s) (sym none) tt,
  )

  thinned_are : (s : S) (i : ℕ) (rows into : Rows L) → IsThinned rows into → AreRows s i rows
      → AreRows s i into
  thinned_are s i done done thin are = tt
  thinned_are s i done (row p ps) thin are = absurd thin
  thinned_are s i (row q rs) done thin are = absurd thin
  thinned_are s i (row q rs) (row p ps) thin are =
      let here = thinned_is (family.holds s i) q p ((family.table s).once i) thin.0 are.0 are.1 in
      (here.0, here.1, thinned_are s (suc i) rs ps thin.1 are.2)

  -- the row at i, which is that at j of the rows from k on
  first_of_row : (s : S) (i : ℕ) (q : Row L) → IsRow (family.holds s i) q
      → IsMessage (family.holds s i) (or_else (new_in family s i) (first_in (listed q)))
  first_of_row s i end is = empty_is (family.holds s i)
  first_of_row s i (ahead m ms) is = is.0

  first_is : (s : S) (k j i : ℕ) (rows : Rows L) → i ≡ k + j → AreRows s k rows
      → IsMessage (family.holds s i) (or_else (new_in family s i) (first_in (rows_row j rows)))
  first_is s k j i done at are = empty_is (family.holds s i)
  first_is s k zero i (row q rs) at are =
      first_of_row s i q (subst (λ x. IsRow (family.holds s x) q)
      (sym (at ∙ add-zero k)) are.1)
  first_is s k (suc j) i (row q rs) at are =
      first_is s (suc k) j i rs (omega (arith, at)) are.2

  row_more : (s : S) (q : Row L) (m : Nest L) → IsRow s q → IsMessage s m
      → IsRow s (row_of (listed q ++ m ∷ []))
  row_more s end m is one = (one, tt)
  row_more s (ahead k ks) m is one = (is.0, row_more s ks m is.1 one)

  more_is : (s : S) (k j i : ℕ) (rows : Rows L) (m : Nest L) → i ≡ k + j → AreRows s k rows
      → IsMessage (family.holds s i) m
      → IsRow (family.holds s i) (row_of (rows_row j rows ++ m ∷ []))
  more_is s k j i done m at are one = (one, tt)
  more_is s k zero i (row q rs) m at are one =
      row_more (family.holds s i) q m
      (subst (λ x. IsRow (family.holds s x) q) (sym (at ∙ add-zero k)) are.1) one
  more_is s k (suc j) i (row q rs) m at are one =
      more_is s (suc k) j i rs m (omega (arith, at)) are.2 one

  set_are : (s : S) (k j i : ℕ) (rows : Rows L) (q : Row L) → i ≡ k + j → AreRows s k rows
      → IsFit ((family.table s).once i) q → IsRow (family.holds s i) q
      → AreRows s k (set_rows j q rows)
  set_are s k j i done q at are fit is = tt
  set_are s k zero i (row p rs) q at are fit is =
      let same = at ∙ add-zero k in (
        subst (λ x. IsFit ((family.table s).once x) q) same fit,
        subst (λ x. IsRow (family.holds s x) q) same is,
        are.2,
      )
  set_are s k (suc j) i (row p rs) q at are fit is =
      (are.0, are.1, set_are s (suc k) j i rs q (omega (arith, at)) are.2 fit is)

  -- ---- a record

  encoding_stays : (grouped : Bool) → EncodingStays (encoding_of grouped)
  encoding_stays false = prefixed_stays g
  encoding_stays true = delimited_stays

  module _ (steps : Steps S (Nest L))
      (stay : (s : S) (n : ℕ) (p : Payload) (c : Charge) (m z : Nest L) → IsSound n p
      → IsMessage s m → steps s m n p c z → IsMessage s z)
      (s : S) (n : ℕ) (p : Payload) (sound : IsSound n p) where
    inside_is : (grouped : Bool) (i : ℕ) (m z : Nest L) (c : Charge)
        → IsMessage (family.holds s i) m
        → inside (encoding_of grouped) (steps (family.holds s i)) m n p c z
        → IsMessage (family.holds s i) z
    inside_is grouped i m z c is (fs, within, has, folded, charged) =
        folds_stay (steps (family.holds s i)) (IsMessage (family.holds s i))
        (stay (family.holds s i)) fs m z within
        ((encoding_stays grouped).sound n p fs sound has) is folded

    one_is : (grouped : Bool) (i : ℕ) (m z : Nest L) (c : Charge) → (family.table s).once i ≡ true
        → IsMessage s m
        → owned (encoding_of grouped) (one_in family s i)
        (λ m after. with_row i (after ∷ []) ((family.table s).beside i m)) (λ one. one)
        (steps (family.holds s i)) m n p c z
        → IsMessage s z
    one_is grouped i (nest l rows) z c once is (after, one, taken, charged, same) =
        let m = nest l rows in
        let into = (family.table s).beside i m in
        let message = inside_is grouped i (one_in family s i m) after one
        (first_is s 0 i i rows (omega arith) is.2) taken in
        let (leaf, thin, stand) = (h s).beside_one i m after once is.0 is.3 in
        subst (IsMessage s) (sym same) (
          leaf,
          count_set i (ahead after end) (rows_of into)
              ∙ thinned_count rows (rows_of into) thin ∙ is.1,
          set_are s 0 i i (rows_of into) (ahead after end) (omega arith)
              (thinned_are s 0 rows (rows_of into) thin is.2)
              (fit_one ((family.table s).once i) after) (message, tt),
          stand,
        )

    more_taken : (grouped : Bool) (i bytes : ℕ) (m z : Nest L) (c : Charge)
        → (family.table s).once i ≡ false → IsMessage s m
        → owned (encoding_of grouped) (λ m. new_in family s i) (with_more i) (placed bytes)
        (steps (family.holds s i)) m n p c z
        → IsMessage s z
    more_taken grouped i bytes (nest l rows) z c many is (after, one, taken, charged, same) =
        let q = row_of (rows_row i rows ++ after ∷ []) in
        let message = inside_is grouped i (new_in family s i) after one
        (empty_is (family.holds s i)) taken in
        subst (IsMessage s) (sym same) (
          is.0,
          count_set i q rows ∙ is.1,
          set_are s 0 i i rows q (omega arith) is.2
              (fit_many ((family.table s).once i) q many)
              (more_is s 0 i i rows after (omega arith) is.2 message),
          (h s).beside_more i l rows q many is.3,
        )

    at_place : (place : Place) (m z : Nest L) (c : Charge) → (family.table s).place n ≡ place
        → IsThere (family.table s) place → IsMessage s m
        → takes_at family steps s place m n p c z → IsMessage s z
    at_place Leaf (nest l rows) (nest k into) c is_leaf there is (taken, same) =
        let t = family.table s in
        let (thin, stand) = (h s).beside_leaf n p c l k rows is_leaf is.0 is.3 taken in
        subst (λ x. IsMessage s (nest k x)) (sym same) (
          (h s).step n p c l k sound is_leaf is.0 taken,
          thinned_count rows (t.rows_beside n k rows) thin ∙ is.1,
          thinned_are s 0 rows (t.rows_beside n k rows) thin is.2,
          stand,
        )
    at_place (Once i) m z c place_is there is taken = one_is false i m z c there.1 is taken
    at_place (Grouped i) m z c place_is there is taken = one_is true i m z c there.1 is taken
    at_place (Each i bytes) m z c place_is there is taken =
        more_taken false i bytes m z c there.1 is taken
    at_place (EachGrouped i bytes) m z c place_is there is taken =
        more_taken true i bytes m z c there.1 is taken

  steps_stay : (k : ℕ) (s : S) (n : ℕ) (p : Payload) (c : Charge) (m z : Nest L) → IsSound n p
      → IsMessage s m → up_to (level family) k s m n p c z → IsMessage s z
  steps_stay zero s n p c m z sound is taken = absurd taken
  steps_stay (suc k) s n p c m z sound is taken =
      at_place (up_to (level family) k) (steps_stay k) s n p sound ((family.table s).place n) m z c
      refl ((h s).there n) is taken

  -- ---- in range

  runs_short : (s : S) (l : L) (i : ℕ) (rows : Rows L) → AreShort (rows_records family s l i rows)
      → AreShort (runs_from (family.table s) l (suc i) (count_rows rows))
  runs_short s l i done short = tt
  runs_short s l i (row q rs) short =
      let t = family.table s in
      let n = t.number i in
      let run = t.run (suc i) l in
      let others = rows_records family s l (suc i) rs in
      let behind = second_short
      (row_records family (family.holds s i) (encoding_at t n) n q)
      (joined_records run others) short in
      joined_short run (runs_from t l (suc (suc i)) (count_rows rs))
      (first_short run others behind)
      (runs_short s l (suc i) rs (second_short run others behind))

  mutual
    nest_holds : (s : S) (m : Nest L) → IsMessage s m → AreShort (family_records family s m)
        → FamilyHolds family r stands s m
    nest_holds s (nest l rows) is short =
        let t = family.table s in
        let run = t.run 0 l in
        let others = rows_records family s l 0 rows in
        let behind = second_short run others short in
        let runs = joined_short run (runs_from t l 1 (count_rows rows))
        (first_short run others short) (runs_short s l 0 rows behind) in (
          (h s).holds l is.0 (subst (λ k. AreShort (runs_from t l 0 (suc k))) is.1 runs),
          is.1,
          rows_hold s l 0 rows is.2 behind,
          is.3,
        )

    rows_hold : (s : S) (l : L) (i : ℕ) (rows : Rows L) → AreRows s i rows
        → AreShort (rows_records family s l i rows) → RowsHold family r stands s i rows
    rows_hold s l i done are short = tt
    rows_hold s l i (row q rs) are short =
        let t = family.table s in
        let n = t.number i in
        let here = row_records family (family.holds s i) (encoding_at t n) n q in
        let run = t.run (suc i) l in
        let others = rows_records family s l (suc i) rs in (
          are.0,
          row_holds (family.holds s i) (is_grouped (t.place n)) n q are.1
              (first_short here (joined_records run others) short),
          rows_hold s l (suc i) rs are.2
              (second_short run others (second_short here (joined_records run others) short)),
        )

    row_holds : (s : S) (grouped : Bool) (n : ℕ) (q : Row L) → IsRow s q
        → AreShort (row_records family s (encoding_of grouped) n q)
        → RowHolds family r stands s q
    row_holds s grouped n end is short = tt
    row_holds s grouped n (ahead m ms) is short =
        let own = (encoding_stays grouped).short (family_records family s m) short.0 in
        (nest_holds s m is.0 own.1, own.0, row_holds s grouped n ms is.1 short.1)

  -- a message of such a table
  pub beside_stays : (s : S) (shape : Shape (Nest L)) → shape.default ≡ empty_of (family.table s)
      → shape.records ≡ family_records family s → shape.takes ≡ family_takes family s
      → Stays shape (beside_range family r stands s)
  beside_stays s shape start records step = record {
    Is = IsMessage s;
    start = subst (IsMessage s) (sym start) (empty_is s);
    step = λ n p c m z sound is taken.
        let (k, at) = subst (λ (f : Step (Nest L)). f m n p c z) step taken in
        steps_stay k s n p c m z sound is at;
    holds = λ m is short.
        nest_holds s m is (subst (λ (f : Nest L → _). AreShort (f m)) records short);
  }

-- a message of a type that holds itself alone
pub nest_stays : {L : Type 0} (g : Grounds) (t : Table L) (r : Range L)
    → LeafStays t r any_beside → (shape : Shape (Nest L)) → shape.default ≡ empty_of t
    → shape.records ≡ nest_records t → shape.takes ≡ nest_takes t → Stays shape (nest_range t r)
nest_stays g t r h = beside_stays g (alone t) (λ s. r) (λ s. any_beside) (λ s. h) tt
