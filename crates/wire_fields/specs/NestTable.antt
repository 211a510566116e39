-- Message types that hold themselves or one another, as tables: their records, and what they make
-- of a record.
use Rattle.std.proofs.Common.{◌≡◌, ℕ, zero, suc, List, [], ◌∷◌, ◌++◌, ◌<◌, get_or, map, ap, ◌∙◌, sym}
use Rattle.std.specs.Prelude.{Bool, true, false}
use Rattle.wire_codec.specs.Folds.{Step, IsSingle}
use Rattle.wire_codec.specs.Limits.{Charge, both, element_of}
use Rattle.wire_codec.specs.Records.{Records, none, joined_records}
use Rattle.wire_codec.specs.TakingLaws.{OneReading}
use Rattle.wire_fields.specs.declared.recursive.Place.{Place}
use Rattle.wire_fields.specs.declared.recursive.Place.TheVariants.{Leaf, Once, Each, Grouped, EachGrouped}
use Rattle.wire_fields.specs.Least.{Within, at_some, Rising, Steps, AllWithin, AllSingle, AllRising}
use Rattle.wire_fields.specs.Least.{all_at_some, IsMonotone, least, least_single, inside_more, inside_finite}
use Rattle.wire_fields.specs.Messages.{Encoding, length_prefixed, delimited, inside, or_else}
use Rattle.wire_fields.specs.Messages.{inside_single, message_record}
use Rattle.wire_fields.specs.Nest.{Nest, nest, Rows, done, row, Row, end, ahead, leaf_of, rows_of}
use Rattle.wire_fields.specs.Nest.{row_at, with_row, first_in, row_count, empty_rows, same_nest}
use Rattle.wire_fields.specs.NestRows.{count_empty}

-- The fields whose messages are of the family are embedded messages or groups, each with a row of
-- the value. All other fields, with the unknown ones, are the leaf, which is a table as of any
-- message; they are written in runs: before the first row, behind the first, and so on.
pub record Table (L : Type 0) : Type 1 where
  pub default : L
  pub takes : Step L
  pub run : ℕ → L → Records
  -- how many rows there are, their field numbers, and which have one message at most
  pub rows : ℕ
  pub number : ℕ → ℕ
  pub once : ℕ → Bool
  -- where the records of a field number go
  pub place : ℕ → Place
  -- what stays of a value beside the message of a row that has one at most, and which rows stay
  -- beside the leaf that a record of a number has left: all, but for the others of a oneof
  pub beside : ℕ → Nest L → Nest L
  pub rows_beside : ℕ → L → Rows L → Rows L

-- Types that hold one another: a table for each, and of which type the messages of a row are.
pub record Family (S L : Type 0) : Type 1 where
  pub table : S → Table L
  pub holds : S → ℕ → S

-- a type that holds itself alone
abbrev pub alone : {L : Type 0} → Table L → Family (Unit {0}) L
alone t = record { table = λ s. t; holds = λ s i. tt }

-- there is such a row
abbrev pub IsThere : {L : Type 0} → Table L → Place → Type 0
IsThere t Leaf = Unit {0}
IsThere t (Once i) = (i < t.rows) × (t.once i ≡ true)
IsThere t (Each i bytes) = (i < t.rows) × (t.once i ≡ false)
IsThere t (Grouped i) = (i < t.rows) × (t.once i ≡ true)
IsThere t (EachGrouped i bytes) = (i < t.rows) × (t.once i ≡ false)

-- the messages that go to this place stand in groups, and not behind their lengths
abbrev pub is_grouped : Place → Bool
is_grouped Leaf = false
is_grouped (Once i) = false
is_grouped (Each i bytes) = false
is_grouped (Grouped i) = true
is_grouped (EachGrouped i bytes) = true

abbrev pub encoding_of : Bool → Encoding
encoding_of true = delimited
encoding_of false = length_prefixed

-- how the messages of a field number stand in its records, by the place of the number
abbrev pub encoding_at : {L : Type 0} → Table L → ℕ → Encoding
encoding_at t n = encoding_of (is_grouped (t.place n))

-- one place or another
abbrev pub if_number : Bool → Place → Place → Place
if_number true here there = here
if_number false here there = there

-- all stays
abbrev pub as_it_was : {V : Type 0} → ℕ → V → V
as_it_was n v = v

abbrev pub as_they_were : {L : Type 0} → ℕ → L → Rows L → Rows L
as_they_were n l rows = rows

-- the value of no records
abbrev pub empty_of : {L : Type 0} → Table L → Nest L
empty_of t = nest t.default (empty_rows t.rows)

-- one of several messages of a table
abbrev pub message_at : {L : Type 0} → Table L → List (Nest L) → ℕ → Nest L
message_at t ms i = get_or ms i (empty_of t)

-- as each of the messages has all of the rows, so does any that is named
pub all_counted : {L T : Type 0} (t : Table L) (view : T → Nest L)
    → ((m : T) → row_count (view m) ≡ t.rows) → (ms : List T) (i : ℕ)
    → row_count (message_at t (map view ms) i) ≡ t.rows
all_counted {L} t view has [] i = count_empty L t.rows
all_counted t view has (m ∷ ms) zero = has m
all_counted t view has (m ∷ ms) (suc i) = all_counted t view has ms i

-- ---- records

abbrev mutual
  pub family_records : {S L : Type 0} → Family S L → S → Nest L → Records
  family_records family s (nest l rows) =
      joined_records ((family.table s).run 0 l) (rows_records family s l 0 rows)

  -- the rows from the one at i on, and the runs behind them
  pub rows_records : {S L : Type 0} → Family S L → S → L → ℕ → Rows L → Records
  rows_records family s l i done = none
  rows_records family s l i (row r rs) =
      let n = (family.table s).number i in
      joined_records (row_records family (family.holds s i) (encoding_at (family.table s) n) n r)
      (joined_records ((family.table s).run (suc i) l) (rows_records family s l (suc i) rs))

  -- an embedded message or a group for each
  pub row_records : {S L : Type 0} → Family S L → S → Encoding → ℕ → Row L → Records
  row_records family s encoding n end = none
  row_records family s encoding n (ahead m ms) =
      joined_records (message_record encoding n (family_records family s m))
      (row_records family s encoding n ms)

abbrev pub records_at : {S L : Type 0} → Family S L → S → List (Nest L) → ℕ → Records
records_at family s ms i = family_records family s (message_at (family.table s) ms i)

-- ---- what is taken

-- a message of such a type takes the payload, and is put into the value with its charge
abbrev pub owned : {V : Type 0} → Encoding → (V → V) → (V → V → V) → (Charge → Charge) → Step V
    → Step V
owned {V} encoding start put price step m n p c z =
    (after : V) × (one : Charge) × inside encoding step (start m) n p one after
    × (c ≡ price one) × (z ≡ put m after)

-- the message of no records, of the type of a row
abbrev pub new_in : {S L : Type 0} → Family S L → S → ℕ → Nest L
new_in family s i = empty_of (family.table (family.holds s i))

-- the message of a row that has one at most, or a new one
abbrev pub one_in : {S L : Type 0} → Family S L → S → ℕ → Nest L → Nest L
one_in family s i m = or_else (new_in family s i) (first_in (row_at i m))

abbrev pub with_one : {L : Type 0} → Table L → ℕ → Nest L → Nest L → Nest L
with_one t i m after = with_row i (after ∷ []) (t.beside i m)

abbrev pub with_more : {L : Type 0} → ℕ → Nest L → Nest L → Nest L
with_more i m after = with_row i (row_at i m ++ after ∷ []) m

-- the charge of one of many, with that for its place in memory
abbrev pub placed : ℕ → Charge → Charge
placed bytes one = both (element_of bytes) one

-- A record of the leaf is the leaf's. Once: the message that is there takes the
-- payload, or a new one does. Each: a new one does, which is charged for its place in memory
-- besides, and is put behind those that are there. Grouped: as once, of a group, or as each.
abbrev pub takes_at : {S L : Type 0} → Family S L → Steps S (Nest L) → S → Place → Step (Nest L)
takes_at family steps s Leaf m n p c z =
    (family.table s).takes (leaf_of m) n p c (leaf_of z)
    × (rows_of z ≡ (family.table s).rows_beside n (leaf_of z) (rows_of m))
takes_at family steps s (Once i) m n p c z =
    owned length_prefixed (one_in family s i) (with_one (family.table s) i) (λ one. one)
    (steps (family.holds s i)) m n p c z
takes_at family steps s (Each i bytes) m n p c z =
    owned length_prefixed (λ m. new_in family s i) (with_more i) (placed bytes)
    (steps (family.holds s i)) m n p c z
takes_at family steps s (Grouped i) m n p c z =
    owned delimited (one_in family s i) (with_one (family.table s) i) (λ one. one)
    (steps (family.holds s i)) m n p c z
takes_at family steps s (EachGrouped i bytes) m n p c z =
    owned delimited (λ m. new_in family s i) (with_more i) (placed bytes)
    (steps (family.holds s i)) m n p c z

-- what a value makes of a record, by what those in it make of theirs
abbrev pub level : {S L : Type 0} → Family S L → Steps S (Nest L) → Steps S (Nest L)
level family steps s m n p c z = takes_at family steps s ((family.table s).place n) m n p c z

abbrev pub family_takes : {S L : Type 0} → Family S L → Steps S (Nest L)
family_takes family = least (level family)

-- ---- single

module _ {V : Type 0} (encoding : Encoding) (start : V → V) (put : V → V → V)
    (price : Charge → Charge) where
  owned_more : (a b : Step V) → Within a b
      → Within (owned encoding start put price a) (owned encoding start put price b)
  owned_more a b on m z n p c (after, one, h, charged, is) =
      (after, one, inside_more a b on encoding (start m) after n p one h, charged, is)

  owned_finite : (chain : ℕ → Step V) → Rising chain
      → Within (owned encoding start put price (at_some chain))
      (at_some (λ h. owned encoding start put price (chain h)))
  owned_finite chain rising m z n p c (after, one, h, charged, is) =
      let (k, s) = inside_finite chain rising encoding (start m) after n p one h in
      (k, (after, one, s, charged, is))

  owned_single : OneReading → (a : Step V) → IsSingle a
      → IsSingle (owned encoding start put price a)
  owned_single reading a single m u z w n p c d (after, one, h, charged, is)
      (after_2, one_2, k, charged_2, is_2) =
      let agree = inside_single encoding a reading single (start m) (start u) after after_2 n
      p one one_2 h k in (
        charged ∙ ap price agree.0 ∙ sym charged_2,
        λ e. is ∙ ap (put m) (agree.1 (ap start e)) ∙ ap (λ (x : V). put x after_2) e ∙ sym is_2,
      )

module _ {S L : Type 0} (family : Family S L) (reading : OneReading)
    (single : (s : S) → IsSingle (family.table s).takes) where
  at_more : (s : S) (place : Place) (a b : Steps S (Nest L)) → AllWithin a b
      → Within (takes_at family a s place) (takes_at family b s place)
  at_more s Leaf a b on m z n p c h = h
  at_more s (Once i) a b on m z n p c h =
      let k = family.holds s i in
      owned_more length_prefixed (one_in family s i) (with_one (family.table s) i) (λ one. one)
      (a k) (b k) (on k)
      m z n p c h
  at_more s (Each i bytes) a b on m z n p c h =
      let k = family.holds s i in
      owned_more length_prefixed (λ m. new_in family s i) (with_more i) (placed bytes) (a k) (b k)
      (on k)
      m z n p c h
  at_more s (Grouped i) a b on m z n p c h =
      let k = family.holds s i in
      owned_more delimited (one_in family s i) (with_one (family.table s) i) (λ one. one) (a k)
      (b k) (on k)
      m z n p c h
  at_more s (EachGrouped i bytes) a b on m z n p c h =
      let k = family.holds s i in
      owned_more delimited (λ m. new_in family s i) (with_more i) (placed bytes) (a k) (b k) (on k)
      m z n p c h

  at_finite : (s : S) (place : Place) (chain : ℕ → Steps S (Nest L)) → AllRising chain
      → Within (takes_at family (all_at_some chain) s place)
      (at_some (λ h. takes_at family (chain h) s place))
  at_finite s Leaf chain rising m z n p c h = (0, h)
  at_finite s (Once i) chain rising m z n p c h =
      let k = family.holds s i in
      owned_finite length_prefixed (one_in family s i) (with_one (family.table s) i) (λ one. one)
      (λ h. chain h k) (rising k) m z n p c h
  at_finite s (Each i bytes) chain rising m z n p c h =
      let k = family.holds s i in
      owned_finite length_prefixed (λ m. new_in family s i) (with_more i) (placed bytes)
      (λ h. chain h k) (rising k) m z n p c h
  at_finite s (Grouped i) chain rising m z n p c h =
      let k = family.holds s i in
      owned_finite delimited (one_in family s i) (with_one (family.table s) i) (λ one. one)
      (λ h. chain h k) (rising k) m z n p c h
  at_finite s (EachGrouped i bytes) chain rising m z n p c h =
      let k = family.holds s i in
      owned_finite delimited (λ m. new_in family s i) (with_more i) (placed bytes)
      (λ h. chain h k) (rising k) m z n p c h

  at_single : (s : S) (place : Place) (a : Steps S (Nest L)) → AllSingle a
      → IsSingle (takes_at family a s place)
  at_single s Leaf a one m u z w n p c d h k =
      let same = single s (leaf_of m) (leaf_of u) (leaf_of z) (leaf_of w) n p c d h.0 k.0 in (
        same.0,
        λ e. let leaf = same.1 (ap leaf_of e) in
            same_nest z w leaf (h.1
            ∙ ap (λ (x : Nest L). (family.table s).rows_beside n (leaf_of z) (rows_of x)) e
            ∙ ap (λ (x : L). (family.table s).rows_beside n x (rows_of u)) leaf ∙ sym k.1),
      )
  at_single s (Once i) a one m u z w n p c d h k =
      let held = family.holds s i in
      owned_single length_prefixed (one_in family s i) (with_one (family.table s) i)
      (λ one. one) reading (a held)
      (one held) m u z w n p c d h k
  at_single s (Each i bytes) a one m u z w n p c d h k =
      let held = family.holds s i in
      owned_single length_prefixed (λ m. new_in family s i) (with_more i) (placed bytes) reading
      (a held)
      (one held) m u z w n p c d h k
  at_single s (Grouped i) a one m u z w n p c d h k =
      let held = family.holds s i in
      owned_single delimited (one_in family s i) (with_one (family.table s) i) (λ one. one) reading
      (a held)
      (one held) m u z w n p c d h k
  at_single s (EachGrouped i bytes) a one m u z w n p c d h k =
      let held = family.holds s i in
      owned_single delimited (λ m. new_in family s i) (with_more i) (placed bytes) reading (a held)
      (one held) m u z w n p c d h k

  pub grows : IsMonotone (level family)
  grows = record {
    more = λ a b on s m z n p c h. at_more s ((family.table s).place n) a b on m z n p c h;
    single = λ a one s m u z w n p c d h k. at_single s ((family.table s).place n) a one m u z w n p
        c d h k;
    finite = λ chain rising s m z n p c h. at_finite s ((family.table s).place n) chain rising m z n
        p c h;
  }

  pub family_single : AllSingle (family_takes family)
  family_single = least_single (level family) grows

-- ---- a type that holds itself alone

abbrev pub nest_records : {L : Type 0} → Table L → Nest L → Records
nest_records t = family_records (alone t) tt

abbrev pub nest_takes : {L : Type 0} → Table L → Step (Nest L)
nest_takes t = family_takes (alone t) tt

abbrev pub one_of : {L : Type 0} → Table L → ℕ → Nest L → Nest L
one_of t = one_in (alone t) tt

pub nest_single : {L : Type 0} (t : Table L) → OneReading → IsSingle t.takes
    → IsSingle (nest_takes t)
nest_single t reading single = family_single (alone t) reading (λ s. single) tt
