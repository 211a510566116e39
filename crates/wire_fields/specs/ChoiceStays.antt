-- That what decoding leaves of messages is in range of which some variants of a oneof are rows.
use Rattle.std.proofs.Common.{◌≡◌, inl, inr, ℕ, refl, sym, ◌∙◌, subst}
use Rattle.std.specs.Prelude.{Bool, true, false, ◌&&◌}
use Rattle.wire_codec.specs.Field.{Payload}
use Rattle.wire_codec.specs.Folds.{Step}
use Rattle.wire_codec.specs.Limits.{Charge}
use Rattle.wire_codec.specs.Records.{Records}
use Rattle.wire_fields.specs.ChoiceBack.{IsChoice, one_stands, both_not, none_left}
use Rattle.wire_fields.specs.ChoiceBack.{rows_thin, none_set, not_itself, not_other}
use Rattle.wire_fields.specs.Nest.{Nest, Rows, Row, end, ahead}
use Rattle.wire_fields.specs.Nest.{leaf_of, rows_of, set_rows}
use Rattle.wire_fields.specs.NestChoice.{Choice, rows_without, other_row, beside_if, beside_row}
use Rattle.wire_fields.specs.NestChoice.{rows_if, rows_beside_field}
use Rattle.wire_fields.specs.NestRange.{GoesToLeaf, all_runs}
use Rattle.wire_fields.specs.NestRows.{no_messages}
use Rattle.wire_fields.specs.NestTable.{Table, IsThere}
use Rattle.wire_fields.specs.Ranges.{Range}
use Rattle.wire_fields.specs.Short.{AreShort}
use Rattle.wire_fields.specs.StaysLeaf.{StepStays}
use Rattle.wire_fields.specs.StaysNest.{LeafStays, IsThinned, as_thin}

-- ---- what decoding leaves

module _ {L : Type 0} (takes : Step L) (c : Choice L) (x : IsChoice takes c) where
  thin_if : (b : Bool) (rows : Rows L) → IsThinned rows (rows_if c b rows)
  thin_if true rows = rows_thin c.is_row rows
  thin_if false rows = as_thin rows

  stands_beside : (b set : Bool) (l z : L) (rows : Rows L) (n : ℕ) (p : Payload) (k : Charge)
      → c.is_plain n ≡ b → c.stands z ≡ set → one_stands c l rows → takes l n p k z
      → one_stands c z (rows_if c (b && set) rows)
  stands_beside true true l z rows n p k own is stands taken = inl (none_left c.is_row rows)
  stands_beside true false l z rows n p k own is (inl nothing) taken = inl nothing
  stands_beside true false l z rows n p k own is (inr one) taken =
      inr (record { none = is; at = one.at; alone = one.alone })
  stands_beside false set l z rows n p k own is (inl nothing) taken = inl nothing
  stands_beside false set l z rows n p k own is (inr one) taken = inr (record {
    none = x.apart l z n p k own taken ∙ one.none;
    at = one.at;
    alone = one.alone;
  })

  stands_set : (i : ℕ) (q : Row L) (l : L) (rows : Rows L) → c.is_row i ≡ false
      → one_stands c l rows → one_stands c l (set_rows i q rows)
  stands_set i q l rows own (inl nothing) = inl (none_set c.is_row i q rows own nothing)
  stands_set i q l rows own (inr one) = inr (record {
    none = one.none;
    at = one.at;
    alone = none_set (other_row c one.at) i q rows (not_other c one.at i own) one.alone;
  })

  module _ (Is : L → Type 0) (is_without : (m : L) → Is m → Is (c.without m)) where
    abbrev Left : ℕ → Nest L → Nest L → Nest L → Type 0
    Left i after m k =
        Is (leaf_of k) × IsThinned (rows_of m) (rows_of k)
        × one_stands c (leaf_of k) (set_rows i (ahead after end) (rows_of k))

    left_if : (b : Bool) (i : ℕ) (m after : Nest L) → c.is_row i ≡ b → Is (leaf_of m)
        → one_stands c (leaf_of m) (rows_of m) → Left i after m (beside_if c b i m)
    left_if true i m after own is stands = (
      is_without (leaf_of m) is,
      rows_thin (other_row c i) (rows_of m),
      inr (record {
        none = x.gone (leaf_of m);
        at = i;
        alone = none_set (other_row c i) i (ahead after end)
            (rows_without (other_row c i) (rows_of m)) (not_itself c i)
            (none_left (other_row c i) (rows_of m));
      }),
    )
    left_if false i m after own is stands = (
      is,
      as_thin (rows_of m),
      stands_set i (ahead after end) (leaf_of m) (rows_of m) own stands,
    )

row_is_many : (b : Bool) (once : Bool) → (b ≡ true → once ≡ true) → once ≡ false → b ≡ false
row_is_many true once is many = absurd (both_not once (is refl) many)
row_is_many false once is many = refl

pub choice_stays : {L : Type 0} {r : Range L} {takes : Step L} {start : L} {records : L → Records}
    (t : Table L) (c : Choice L) → IsChoice takes c
    → (s : StepStays takes start records (GoesToLeaf t) r) → ((m : L) → s.Is m → s.Is (c.without m))
    → t.takes ≡ takes → t.default ≡ start → ((l : L) → all_runs t l ≡ records l)
    → ((n : ℕ) → IsThere t (t.place n)) → ((i : ℕ) → c.is_row i ≡ true → t.once i ≡ true)
    → ((i : ℕ) (m : Nest L) → t.beside i m ≡ beside_row c i m)
    → ((n : ℕ) (l : L) (rs : Rows L) → t.rows_beside n l rs ≡ rows_beside_field c n l rs)
    → LeafStays t r (one_stands c)
choice_stays {L} {r} {takes} {start} t c x s is_without takes_is start_is runs_are there once beside
    rows_beside = record {
      Is = s.Is;
      start = subst s.Is (sym start_is) s.begins;
      step = λ n p k l z sound here is taken. s.step n p k l z sound here is
          (subst (λ (f : Step L). f l n p k z) takes_is taken);
      holds = λ l is short. s.holds l is (subst AreShort (runs_are l) short);
      there = there;
      none = inl (λ j own. no_messages L j t.rows);
      beside_leaf = λ n p k l z rows here is stands taken. (
        subst (IsThinned rows) (sym (rows_beside n z rows))
            (thin_if takes c x (c.is_plain n && c.stands z) rows),
        subst (one_stands c z) (sym (rows_beside n z rows))
            (stands_beside takes c x (c.is_plain n) (c.stands z) l z rows n p k refl refl stands
            (subst (λ (f : Step L). f l n p k z) takes_is taken)),
      );
      beside_one = λ i m after one is stands.
          subst (Left takes c x s.Is is_without i after m) (sym (beside i m))
          (left_if takes c x s.Is is_without (c.is_row i) i m after refl is stands);
      beside_more = λ i l rows q many stands. stands_set takes c x i q l rows
          (row_is_many (c.is_row i) (t.once i) (once i) many) stands;
    }
