-- The records of a value row by row, in the order in which they are written.
use Rattle.std.proofs.Common.{◌≡◌, refl, sym, ap, ◌∙◌}
use Rattle.std.specs.Prelude.{ℕ, zero, suc, List, [], ◌∷◌}
use Rattle.wire_codec.specs.Records.{Records, none, field, joined_records}

-- the records of the row at a place, and none behind the last
abbrev pub records_in_row : List Records → ℕ → Records
records_in_row [] place = none
records_in_row (rs ∷ rows) zero = rs
records_in_row (rs ∷ rows) (suc place) = records_in_row rows place

-- the records of all rows
abbrev pub in_rows : List Records → Records
in_rows [] = none
in_rows (rs ∷ rows) = joined_records rs (in_rows rows)

-- ---- rows in pairs, as the table of a message has its fields

pub data Grouping : Type 0 where
  single : Grouping
  paired : Grouping → Grouping → Grouping

-- the records of the first rows, as many as are grouped, and the rows behind them
abbrev pub group_front : Grouping → List Records → Records × List Records
group_front single [] = (none, [])
group_front single (rs ∷ rows) = (rs, rows)
group_front (paired a b) rows =
    let first = group_front a rows in
    let second = group_front b first.1 in
    (joined_records first.0 second.0, second.1)

joined_assoc : (a b c : Records)
    → joined_records (joined_records a b) c ≡ joined_records a (joined_records b c)
joined_assoc none b c = refl
joined_assoc (field n p rest) b c = ap (field n p) (joined_assoc rest b c)

joined_last : (a : Records) → joined_records a none ≡ a
joined_last none = refl
joined_last (field n p rest) = ap (field n p) (joined_last rest)

front_is_grouped : (grouping : Grouping) (rows : List Records) → in_rows rows
    ≡ joined_records (group_front grouping rows).0 (in_rows (group_front grouping rows).1)
front_is_grouped single [] = refl
front_is_grouped single (rs ∷ rows) = refl
front_is_grouped (paired a b) rows =
    let first = group_front a rows in
    let second = group_front b first.1 in
    front_is_grouped a rows ∙ ap (joined_records first.0) (front_is_grouped b first.1)
    ∙ sym (joined_assoc first.0 second.0 (in_rows second.1))

-- where all rows are grouped, their records are those of the groups
pub all_grouped : (grouping : Grouping) (rows : List Records)
    → (group_front grouping rows).1 ≡ [] → in_rows rows ≡ (group_front grouping rows).0
all_grouped grouping rows all =
    front_is_grouped grouping rows
    ∙ ap (λ behind. joined_records (group_front grouping rows).0 (in_rows behind)) all
    ∙ joined_last (group_front grouping rows).0
