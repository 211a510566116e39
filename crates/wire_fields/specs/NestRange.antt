-- Which messages that hold themselves or one another are read back, and what a type shows of its
-- table for that.
use Rattle.std.proofs.Common.{◌≡◌, ◌⊎◌, inl, inr, ℕ, zero, suc, ◌<◌, ◌≤◌, List, [], ◌∷◌, refl, sym, ap, ◌∙◌, subst}
use Rattle.std.specs.Prelude.{Bool, true, false}
use Rattle.wire_codec.specs.Charge.{charge}
use Rattle.wire_codec.specs.Field.{Payload, Fields}
use Rattle.wire_codec.specs.FieldNumber.{IsFieldNumber}
use Rattle.wire_codec.specs.Folds.{Step}
use Rattle.wire_codec.specs.Limits.{Charge, both, nested, no_charge}
use Rattle.wire_codec.specs.Records.{Records, none, field, plain, joined_records, text_size}
use Rattle.wire_fields.specs.declared.recursive.Place.{Place}
use Rattle.wire_fields.specs.declared.recursive.Place.TheVariants.{Leaf, Once, Each, Grouped, EachGrouped}
use Rattle.wire_fields.specs.Back.{AllAre, FoldsBack, AreOthers, all_weaker, two_back, unknown_back}
use Rattle.wire_fields.specs.Grounds.{Grounds}
use Rattle.wire_fields.specs.Nest.{Nest, nest, Rows, done, row, Row, end, ahead, count_rows}
use Rattle.wire_fields.specs.Nest.{rows_row}
use Rattle.wire_fields.specs.NestTable.{Table, Family, alone, family_records, placed}
use Rattle.wire_fields.specs.Ranges.{Range, pair_range, NotOwned}
use Rattle.wire_fields.specs.Returned.{Returned}
use Rattle.wire_fields.specs.Shape.{Shape, two, unknown}

-- ---- which values are read back, and for what charge

-- a row that has one message at most has no more
abbrev pub IsFit : {L : Type 0} → Bool → Row L → Type 0
IsFit false r = Unit {0}
IsFit true end = Unit {0}
IsFit true (ahead m end) = Unit {0}
IsFit true (ahead m (ahead k ms)) = ⊥

-- which rows may stand beside a leaf: any, but where a row is one of a oneof
abbrev pub Beside : Type 0 → Type 1
Beside L = L → Rows L → Type 0

abbrev pub any_beside : {L : Type 0} → Beside L
any_beside l rows = Unit {0}

-- The leaf is in range; there are as many rows as the table has, each with no more messages than
-- it may have; these are such too, of a size that a message may have; and the rows may stand beside
-- the leaf.
abbrev mutual
  pub FamilyHolds : {S L : Type 0} → Family S L → (S → Range L) → (S → Beside L) → S → Nest L
      → Type 0
  FamilyHolds family r stands s (nest l rows) =
      (r s).Holds l × (count_rows rows ≡ (family.table s).rows) × RowsHold family r stands s 0 rows
      × stands s l rows

  pub RowsHold : {S L : Type 0} → Family S L → (S → Range L) → (S → Beside L) → S → ℕ → Rows L
      → Type 0
  RowsHold family r stands s i done = Unit {0}
  RowsHold family r stands s i (row q rs) =
      IsFit ((family.table s).once i) q × RowHolds family r stands (family.holds s i) q
      × RowsHold family r stands s (suc i) rs

  pub RowHolds : {S L : Type 0} → Family S L → (S → Range L) → (S → Beside L) → S → Row L → Type 0
  RowHolds family r stands s end = Unit {0}
  RowHolds family r stands s (ahead m ms) =
      FamilyHolds family r stands s m × (text_size (family_records family s m) ≤ 2147483647)
      × RowHolds family r stands s ms

-- with its place in memory, where it is one of many
abbrev pub price : Place → Charge → Charge
price Leaf one = one
price (Once i) one = one
price (Each i bytes) one = placed bytes one
price (Grouped i) one = one
price (EachGrouped i bytes) one = placed bytes one

-- that of the leaf, and that of the messages, each a level down
abbrev mutual
  pub family_charge : {S L : Type 0} → Family S L → (S → Range L) → S → Nest L → Charge
  family_charge family r s (nest l rows) = both ((r s).charge_of l) (rows_charge family r s 0 rows)

  pub rows_charge : {S L : Type 0} → Family S L → (S → Range L) → S → ℕ → Rows L → Charge
  rows_charge family r s i done = no_charge
  rows_charge family r s i (row q rs) =
      both (row_charge family r (family.holds s i) ((family.table s).place
      ((family.table s).number i)) q)
      (rows_charge family r s (suc i) rs)

  pub row_charge : {S L : Type 0} → Family S L → (S → Range L) → S → Place → Row L → Charge
  row_charge family r s place end = no_charge
  row_charge family r s place (ahead m ms) =
      both (price place (nested (family_charge family r s m))) (row_charge family r s place ms)

abbrev pub beside_range : {S L : Type 0} → Family S L → (S → Range L) → (S → Beside L) → S
    → Range (Nest L)
beside_range family r stands s = record {
  Holds = FamilyHolds family r stands s;
  charge_of = family_charge family r s;
}

abbrev pub family_range : {S L : Type 0} → Family S L → (S → Range L) → S → Range (Nest L)
family_range family r = beside_range family r (λ s. any_beside)

abbrev pub nest_range : {L : Type 0} → Table L → Range L → Range (Nest L)
nest_range t r = family_range (alone t) (λ s. r) tt

-- the runs of a leaf from the one at i on, so many
abbrev pub runs_from : {L : Type 0} → Table L → L → ℕ → ℕ → Records
runs_from t l i zero = none
runs_from t l i (suc count) = joined_records (t.run i l) (runs_from t l (suc i) count)

-- all of them, before the first row and behind each
abbrev pub all_runs : {L : Type 0} → Table L → L → Records
all_runs t l = runs_from t l 0 (suc t.rows)

-- the place of the records of the row at i
abbrev pub IsPlaceOf : ℕ → Bool → Place → Type 0
IsPlaceOf i once Leaf = ⊥
IsPlaceOf i once (Once k) = (k ≡ i) × (once ≡ true)
IsPlaceOf i once (Each k bytes) = (k ≡ i) × (once ≡ false)
IsPlaceOf i once (Grouped k) = (k ≡ i) × (once ≡ true)
IsPlaceOf i once (EachGrouped k bytes) = (k ≡ i) × (once ≡ false)

abbrev pub GoesToLeaf : {L : Type 0} → Table L → ℕ → Type 0
GoesToLeaf t n = t.place n ≡ Leaf

-- what is written of such a value folds back to it, under these numbers
abbrev pub IsReadBack : {L : Type 0} → Step L → L → (L → Records) → (ℕ → Type 0) → Range L → Type 0
IsReadBack takes start records Has r =
    (l : _) → r.Holds l
    → FoldsBack takes start (plain (records l)) (r.charge_of l) l × AllAre Has (plain (records l))

-- `into` has messages only in rows where `rows` has some
abbrev pub IsWithin : {L : Type 0} → Rows L → Rows L → Type 0
IsWithin rows into = (j : ℕ) → rows_row j rows ≡ [] → rows_row j into ≡ []

-- What a type shows of its table. Each row has a number whose records go there. The runs of a leaf
-- fold back to it, under numbers whose records go to the leaf. Until it is read, a message of a row
-- leaves the leaf and the rows so far as they are, and a record of the leaf the rows.
pub record LeafBeside {L : Type 0} (t : Table L) (r : Range L) (Stands : Beside L) : Type 1 where
  pub number : (i : ℕ) → i < t.rows → IsFieldNumber (t.number i)
  pub place : (i : ℕ) → i < t.rows → IsPlaceOf i (t.once i) (t.place (t.number i))
  pub back : (l : L) → r.Holds l
      → FoldsBack t.takes t.default (plain (all_runs t l)) (r.charge_of l) l
      × AllAre (GoesToLeaf t) (plain (all_runs t l))
  -- `OnWay l m`: m may come up while l is read, at whose end l does
  pub OnWay : L → L → Type 0
  pub ends : (l : L) → OnWay l l
  pub comes_from : (l m z : L) (n : ℕ) (p : Payload) (c : Charge) → t.takes m n p c z → OnWay l z
      → OnWay l m
  pub beside : (l m : L) (rows into : Rows L) (i : ℕ) (k : Nest L) (ks : List (Nest L))
      → r.Holds l → Stands l rows → OnWay l m → IsWithin rows into → t.once i ≡ true
      → rows_row i rows ≡ k ∷ ks → t.beside i (nest m into) ≡ nest m into
  pub rows_beside : (l m : L) (rows into : Rows L) (n : ℕ) → r.Holds l → Stands l rows
      → OnWay l m → IsWithin rows into → t.rows_beside n m into ≡ into

-- where no row is one of a oneof
abbrev pub LeafBack : {L : Type 0} → Table L → Range L → Type 1
LeafBack t r = LeafBeside t r any_beside

-- ---- leaves that are fields with the unknown ones

-- a number that the fields do not own, and whose records go to no row
abbrev pub IsOther : {L V : Type 0} → Table L → Shape V → ℕ → Type 0
IsOther t known n = NotOwned known.owns n × GoesToLeaf t n

abbrev pub leaf_range : {L V : Type 0} → Table L → Shape V → Range V → Range (V × Fields)
leaf_range t known r = pair_range r (record {
  Holds = AreOthers (IsOther t known);
  charge_of = charge;
})

-- the fields have numbers that go to the leaf
pub known_leaf_back : {L V : Type 0} → Grounds → (t : Table L) (known : Shape V) (r : Range V)
    (x : Returned known r) → ((n : ℕ) → x.Has n → GoesToLeaf t n)
    → IsReadBack (two known unknown).takes (two known unknown).default (two known unknown).records
    (GoesToLeaf t) (leaf_range t known r)
known_leaf_back g t known r x here l holds =
    let both_back = two_back known unknown r.Holds (AreOthers (IsOther t known)) r.charge_of charge
    x.Has (IsOther t known) g.charges x.back (unknown_back g.plain (IsOther t known))
    (λ n p h. h.0 p) in (
      both_back.back l holds,
      all_weaker (λ n. x.Has n ⊎ IsOther t known n) (GoesToLeaf t)
          (λ n. elim [ inl h ↦ here n h | inr h ↦ h.1 ])
          (plain ((two known unknown).records l)) (both_back.has l holds),
    )

-- What a type shows of its rows, with runs that are what the leaf is written as.
pub table_back : {L : Type 0} (t : Table L) (r : Range L) (takes : Step L) (start : L)
    (records : L → Records) → IsReadBack takes start records (GoesToLeaf t) r
    → t.takes ≡ takes → t.default ≡ start → ((l : L) → all_runs t l ≡ records l)
    → ((i : ℕ) → i < t.rows → IsFieldNumber (t.number i))
    → ((i : ℕ) → i < t.rows → IsPlaceOf i (t.once i) (t.place (t.number i)))
    → ((i : ℕ) (m : Nest L) → t.beside i m ≡ m)
    → ((n : ℕ) (l : L) (rs : Rows L) → t.rows_beside n l rs ≡ rs) → LeafBack t r
table_back t r takes start records back takes_is start_is runs_are number place beside rows_beside =
    record {
      number = number;
      place = place;
      OnWay = λ l m. Unit {0};
      ends = λ l. tt;
      comes_from = λ l m z n p c step way. tt;
      beside = λ l m rows into i k ks holds stands way within once is. beside i (nest m into);
      rows_beside = λ l m rows into n holds stands way within. rows_beside n m into;
      back = λ l holds. (
        subst (λ rs. FoldsBack t.takes t.default (plain rs) (r.charge_of l) l) (sym (runs_are l))
            (subst (λ s. FoldsBack t.takes s (plain (records l)) (r.charge_of l) l) (sym start_is)
            (subst (λ s. FoldsBack s start (plain (records l)) (r.charge_of l) l) (sym takes_is)
            (back l holds).0)),
        subst (λ rs. AllAre (GoesToLeaf t) (plain rs)) (sym (runs_are l)) (back l holds).1,
      );
    }

-- The same of fields with the unknown ones, of a type that holds itself alone. The fields have
-- numbers that go to the leaf.
module _ {V : Type 0} (g : Grounds) (t : Table (V × Fields)) (known : Shape V) (r : Range V)
    (x : Returned known r) (takes_is : t.takes ≡ (two known unknown).takes)
    (start_is : t.default ≡ (two known unknown).default)
    (runs_are : (l : V × Fields)
    → runs_from t l 0 (suc t.rows) ≡ (two known unknown).records l)
    (here : (n : ℕ) → x.Has n → t.place n ≡ Leaf)
    (number : (i : ℕ) → i < t.rows → IsFieldNumber (t.number i))
    (place : (i : ℕ) → i < t.rows → IsPlaceOf i (t.once i) (t.place (t.number i)))
    (beside : (i : ℕ) (m : Nest (V × Fields)) → t.beside i m ≡ m)
    (rows_beside : (n : ℕ) (l : V × Fields) (rs : Rows (V × Fields))
    → t.rows_beside n l rs ≡ rs) where
  pub leaf_back : LeafBack t (leaf_range t known r)
  leaf_back =
      table_back t (leaf_range t known r) (two known unknown).takes (two known unknown).default
      (two known unknown).records (known_leaf_back g t known r x here) takes_is start_is runs_are number
      place beside rows_beside

-- ---- records put together in one order or another

pub data Pieces : Type 0 where
  piece : Records → Pieces
  followed : Pieces → Pieces → Pieces

abbrev pub together : Pieces → Records
together (piece rs) = rs
together (followed a b) = joined_records (together a) (together b)

-- one after another, before others
abbrev pub in_order : Pieces → Records → Records
in_order (piece rs) others = joined_records rs others
in_order (followed a b) others = in_order a (in_order b others)

joined_assoc : (a b c : Records)
    → joined_records (joined_records a b) c ≡ joined_records a (joined_records b c)
joined_assoc none b c = refl
joined_assoc (field n p rest) b c = ap (field n p) (joined_assoc rest b c)

joined_last : (a : Records) → joined_records a none ≡ a
joined_last none = refl
joined_last (field n p rest) = ap (field n p) (joined_last rest)

ordered : (a : Pieces) (others : Records) → joined_records (together a) others ≡ in_order a others
ordered (piece rs) others = refl
ordered (followed a b) others =
    joined_assoc (together a) (together b) others
    ∙ ap (joined_records (together a)) (ordered b others)
    ∙ ordered a (in_order b others)

pub same_order : (a b : Pieces) → in_order a none ≡ in_order b none → together a ≡ together b
same_order a b is =
    sym (joined_last (together a)) ∙ ordered a none ∙ is ∙ sym (ordered b none)
    ∙ joined_last (together b)
