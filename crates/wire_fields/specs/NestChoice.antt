-- Messages that hold themselves or one another as one of a oneof: some of its variants are rows of
-- messages, and the others a field of the leaf. One of all stands at most.
use Rattle.std.proofs.Common.{ℕ, zero, suc, ◌⊎◌, inl, inr}
use Rattle.std.specs.Prelude.{Bool, true, false, ◌==◌, ◌&&◌, Option, None}
use Rattle.wire_fields.specs.Nest.{Nest, nest, Rows, done, row, Row, end, leaf_of, rows_of}

-- the field numbers of the variants that are of the leaf, and which rows are variants; whether one
-- of the former stands in a leaf, and the leaf without it
pub record Choice (L : Type 0) : Type 0 where
  pub is_plain : ℕ → Bool
  pub is_row : ℕ → Bool
  pub stands : L → Bool
  pub without : L → L

-- ---- parts of a pair

abbrev pub in_first : {A B : Type 0} → (A → A) → A × B → A × B
in_first f m = (f m.0, m.1)

abbrev pub in_second : {A B : Type 0} → (B → B) → A × B → A × B
in_second f m = (m.0, f m.1)

-- ---- rows without messages

abbrev pub emptied : {L : Type 0} → Bool → Row L → Row L
emptied true q = end
emptied false q = q

-- all rows, but for these without their messages
abbrev pub rows_without : {L : Type 0} → (ℕ → Bool) → Rows L → Rows L
rows_without gone done = done
rows_without gone (row q rs) =
    row (emptied (gone zero) q) (rows_without (λ j. gone (suc j)) rs)

abbrev pub if_other : Bool → Bool → Bool
if_other true b = false
if_other false b = b

-- the other rows of the oneof
abbrev pub other_row : {L : Type 0} → Choice L → ℕ → ℕ → Bool
other_row c i j = if_other (j == i) (c.is_row j)

-- ---- what stays

abbrev pub beside_if : {L : Type 0} → Choice L → Bool → ℕ → Nest L → Nest L
beside_if c true i m = nest (c.without (leaf_of m)) (rows_without (other_row c i) (rows_of m))
beside_if c false i m = m

-- beside the message of a row: no other variant, where the row is one
abbrev pub beside_row : {L : Type 0} → Choice L → ℕ → Nest L → Nest L
beside_row c i m = beside_if c (c.is_row i) i m

abbrev pub rows_if : {L : Type 0} → Choice L → Bool → Rows L → Rows L
rows_if c true rows = rows_without c.is_row rows
rows_if c false rows = rows

-- beside the leaf that a record of a number has left: no row that is a variant, where the number is
-- of one of the leaf's and one of these stands
abbrev pub rows_beside_field : {L : Type 0} → Choice L → ℕ → L → Rows L → Rows L
rows_beside_field c n l rows = rows_if c (c.is_plain n && c.stands l) rows

abbrev pub no_variant : {V : Type 0} → Option V → Option V
no_variant m = None

-- where all variants are rows
abbrev pub rows_alone : {L : Type 0} → (ℕ → Bool) → Choice L
rows_alone is_row = record {
  is_plain = λ n. false;
  is_row = is_row;
  stands = λ l. false;
  without = λ l. l;
}

-- ---- types that hold one another

module _ {A B : Type 0} where
  abbrev stands_first : (A → Bool) → A ⊎ B → Bool
  stands_first stands (inl l) = stands l
  stands_first stands (inr l) = false

  abbrev stands_second : (B → Bool) → A ⊎ B → Bool
  stands_second stands (inl l) = false
  stands_second stands (inr l) = stands l

  abbrev without_first : (A → A) → A ⊎ B → A ⊎ B
  without_first without (inl l) = inl (without l)
  without_first without (inr l) = inr l

  abbrev without_second : (B → B) → A ⊎ B → A ⊎ B
  without_second without (inl l) = inl l
  without_second without (inr l) = inr (without l)

  abbrev pub first_choice : Choice A → Choice (A ⊎ B)
  first_choice c = record {
    is_plain = c.is_plain;
    is_row = c.is_row;
    stands = stands_first c.stands;
    without = without_first c.without;
  }

  abbrev pub second_choice : Choice B → Choice (A ⊎ B)
  second_choice c = record {
    is_plain = c.is_plain;
    is_row = c.is_row;
    stands = stands_second c.stands;
    without = without_second c.without;
  }
