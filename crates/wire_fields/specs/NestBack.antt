-- What is written of messages that hold themselves or one another is read back, where what is
-- written of their leaves is.
use Rattle.std.proofs.Common.{◌≡◌, ℕ, suc, ◌+◌, ◌<◌, ◌≤◌, List, [], ◌∷◌, ◌++◌, append_assoc, refl, sym, ap, ◌∙◌, subst, arith}
use Rattle.std.proofs.lemmas.List.{append-nil}
use Rattle.std.specs.Prelude.{Bool, true, false}
use Rattle.wire_codec.specs.Field.{Payload, Fields, none, field, joined}
use Rattle.wire_codec.specs.Folds.{IsSingle, Folds}
use Rattle.wire_codec.specs.InRange.{AreFitting, AreNumbered}
use Rattle.wire_codec.specs.Limits.{Charge, both, nested, no_charge}
use Rattle.wire_codec.specs.Records.{Records, plain, plain_payload, joined_records, text_size}
use Rattle.wire_fields.specs.declared.recursive.Place.{Place}
use Rattle.wire_fields.specs.declared.recursive.Place.TheVariants.{Leaf, Once, Each, Grouped, EachGrouped}
use Rattle.wire_fields.specs.Back.{AllAre, FoldsBack, plain_joined, fitting_joined, numbered_joined}
use Rattle.wire_fields.specs.Back.{fold_on}
use Rattle.wire_fields.specs.Grounds.{Grounds}
use Rattle.wire_fields.specs.Least.{rolled}
use Rattle.wire_fields.specs.LeavingBack.{all_any}
use Rattle.wire_fields.specs.MessageBack.{EncodingBack, prefixed_back, delimited_back}
use Rattle.wire_fields.specs.Messages.{or_else}
use Rattle.wire_fields.specs.Nest.{Nest, nest, Rows, done, row, Row, end, ahead, listed, row_of}
use Rattle.wire_fields.specs.Nest.{listed_row, row_listed, rows_row, set_rows, count_rows}
use Rattle.wire_fields.specs.Nest.{empty_rows, with_row, first_in}
use Rattle.wire_fields.specs.NestParts.{fold_split, all_split, fitting_split, numbered_split}
use Rattle.wire_fields.specs.NestParts.{swapped, paired, IsFitBehind, fit_behind, IsKept, kept_behind}
use Rattle.wire_fields.specs.NestRange.{Beside, any_beside, FamilyHolds, nest_range, RowsHold}
use Rattle.wire_fields.specs.NestRange.{RowHolds, price, family_charge, beside_range, IsWithin}
use Rattle.wire_fields.specs.NestRange.{rows_charge, row_charge, family_range, runs_from, IsPlaceOf}
use Rattle.wire_fields.specs.NestRange.{LeafBeside, LeafBack, GoesToLeaf}
use Rattle.wire_fields.specs.NestRows.{set_same, set_again, row_set, row_behind, count_set}
use Rattle.wire_fields.specs.NestRows.{within_set, no_messages, count_empty, with_rows, with_all_rows}
use Rattle.wire_fields.specs.NestTable.{Family, is_grouped, encoding_of, encoding_at, empty_of}
use Rattle.wire_fields.specs.NestTable.{family_records, rows_records, row_records, placed, takes_at}
use Rattle.wire_fields.specs.NestTable.{level, family_takes, grows, owned, new_in, one_in, with_one}
use Rattle.wire_fields.specs.NestTable.{with_more, Table, alone, nest_records, nest_takes}
use Rattle.wire_fields.specs.Ranges.{Range}
use Rattle.wire_fields.specs.Returned.{Returned}
use Rattle.wire_fields.specs.Shape.{Shape}

-- ---- the proof

module _ {S L : Type 0} (g : Grounds) (family : Family S L) (r : S → Range L)
    (stands : S → Beside L) (single : (s : S) → IsSingle (family.table s).takes)
    (h : (s : S) → LeafBeside (family.table s) (r s) (stands s)) where
  encoding_back : (grouped : Bool) → EncodingBack (encoding_of grouped)
  encoding_back false = prefixed_back g.spells
  encoding_back true = delimited_back

  taken : (s : S) (n : ℕ) (place : Place) → (family.table s).place n ≡ place → (m z : Nest L)
      (rs : Records) (c : Charge)
      → takes_at family (family_takes family) s place m n
      (plain_payload ((encoding_of (is_grouped place)).payload rs)) c z
      → family_takes family s m n (plain_payload ((encoding_at (family.table s) n).payload rs)) c z
  taken s n place is m z rs c step =
      rolled (level family) (grows family g.reading single) s m z n
      (plain_payload ((encoding_at (family.table s) n).payload rs)) c
      (subst (λ x. takes_at family (family_takes family) s x m n
      (plain_payload ((encoding_of (is_grouped x)).payload rs)) c z) (sym is) step)

  -- before these records, too, the leaf is on its way
  came_from : (s : S) (l : L) (fs : Fields) (m z : L) (c : Charge)
      → Folds (family.table s).takes m fs c z → (h s).OnWay l z → (h s).OnWay l m
  came_from s l none m z c folded way = subst ((h s).OnWay l) folded.1 way
  came_from s l (field n p others) m z c (mid, first, rest, step, more, sum) way =
      (h s).comes_from l m mid n p first step (came_from s l others mid z rest more way)

  -- records of a leaf, on the way to it
  leaf_lifted : (s : S) (l : L) (all rows : Rows L) → (r s).Holds l → stands s l all
      → IsWithin all rows → (fs : Fields) (m z : L) (c : Charge)
      → AllAre (GoesToLeaf (family.table s)) fs → (h s).OnWay l z
      → Folds (family.table s).takes m fs c z
      → Folds (family_takes family s) (nest m rows) fs c (nest z rows)
  leaf_lifted s l all rows holds stand within none m z c here way folded =
      (folded.0, ap (λ x. nest x rows) folded.1)
  leaf_lifted s l all rows holds stand within (field n p others) m z c here way
      (mid, first, rest, step, more, sum) = (
        nest mid rows,
        first,
        rest,
        rolled (level family) (grows family g.reading single) s (nest m rows) (nest mid rows) n p
            first
            (subst (λ x. takes_at family (family_takes family) s x (nest m rows) n p first
            (nest mid rows)) (sym here.0) (
              step,
              sym ((h s).rows_beside l mid all rows n holds stand
                  (came_from s l others mid z rest more way) within),
            )),
        leaf_lifted s l all rows holds stand within others mid z rest here.1 way more,
        sum,
      )

  -- the leaf on the way stays beside the messages of a row
  row_kept : (s : S) (l m : L) (all rows : Rows L) → (r s).Holds l → stands s l all
      → (h s).OnWay l m → IsWithin all rows → (i : ℕ) (q : Row L) → rows_row i all ≡ listed q
      → IsKept (family.table s) i m rows q
  row_kept s l m all rows holds stand way within i end is = tt
  row_kept s l m all rows holds stand way within i (ahead k ks) is =
      λ once. (h s).beside l m all rows i k (listed ks) holds stand way within once is

  -- one message more in a row
  module _ (s : S) (i : ℕ) (l : L) (rows : Rows L) (before : List (Nest L))
      (row_is : rows_row i rows ≡ before) (m : Nest L) (c : Charge)
      (inner : FoldsBack (family_takes family (family.holds s i)) (new_in family s i)
      (plain (family_records family (family.holds s i) m)) c m)
      (short : text_size (family_records family (family.holds s i) m) ≤ 2147483647)
      (kept : (family.table s).once i ≡ true
      → (family.table s).beside i (nest l rows) ≡ nest l rows) where
    -- what is written of it
    abbrev written : Records
    written = family_records family (family.holds s i) m

    abbrev with_it : Nest L
    with_it = nest l (set_rows i (row_of (before ++ m ∷ [])) rows)

    once_taken : (grouped : Bool) → (family.table s).once i ≡ true → before ≡ []
        → owned (encoding_of grouped) (one_in family s i) (with_one (family.table s) i) (λ one. one)
        (family_takes family (family.holds s i)) (nest l rows) ((family.table s).number i)
        (plain_payload ((encoding_of grouped).payload written)) (nested c) with_it
    once_taken grouped once nothing = (
      m,
      nested c,
      (
        plain written,
        c,
        (encoding_back grouped).holds written inner.fitting inner.numbered short,
        subst (λ x. Folds (family_takes family (family.holds s i)) x (plain written) c m)
            (sym (ap (λ (ms : List (Nest L)). or_else (new_in family s i) (first_in ms))
            (row_is ∙ nothing))) inner.folded,
        refl,
      ),
      refl,
      ap (λ (ms : List (Nest L)). nest l (set_rows i (row_of (ms ++ m ∷ [])) rows)) nothing
          ∙ ap (with_row i (m ∷ [])) (sym (kept once)),
    )

    each_taken : (grouped : Bool) (bytes : ℕ)
        → owned (encoding_of grouped) (λ m. new_in family s i) (with_more i) (placed bytes)
        (family_takes family (family.holds s i)) (nest l rows) ((family.table s).number i)
        (plain_payload ((encoding_of grouped).payload written)) (placed bytes (nested c)) with_it
    each_taken grouped bytes = (
      m,
      nested c,
      (
        plain written,
        c,
        (encoding_back grouped).holds written inner.fitting inner.numbered short,
        inner.folded,
        refl,
      ),
      refl,
      ap (λ (ms : List (Nest L)). nest l (set_rows i (row_of (ms ++ m ∷ [])) rows)) (sym row_is),
    )

    message_taken : (place : Place) → (family.table s).place ((family.table s).number i) ≡ place
        → IsPlaceOf i ((family.table s).once i) place → ((family.table s).once i ≡ true → before
        ≡ [])
        → family_takes family s (nest l rows) ((family.table s).number i)
        (plain_payload ((encoding_at (family.table s) ((family.table s).number i)).payload written))
        (price place (nested c)) with_it
    message_taken Leaf is at nothing = absurd at
    message_taken (Once k) is at nothing =
        taken s ((family.table s).number i) (Once i) (is ∙ ap Once at.0)
        (nest l rows) with_it written
        (nested c) (once_taken false at.1 (nothing at.1))
    message_taken (Grouped k) is at nothing =
        taken s ((family.table s).number i) (Grouped i) (is ∙ ap Grouped at.0)
        (nest l rows) with_it written
        (nested c) (once_taken true at.1 (nothing at.1))
    message_taken (Each k bytes) is at nothing =
        taken s ((family.table s).number i) (Each i bytes) (is ∙ ap (λ x. Each x bytes) at.0)
        (nest l rows)
        with_it written (placed bytes (nested c)) (each_taken false bytes)
    message_taken (EachGrouped k bytes) is at nothing =
        taken s ((family.table s).number i) (EachGrouped i bytes)
        (is ∙ ap (λ x. EachGrouped x bytes) at.0) (nest l rows)
        with_it written (placed bytes (nested c)) (each_taken true bytes)

  mutual
    nest_folded : (s : S) (m : Nest L) → FamilyHolds family r stands s m
        → FoldsBack (family_takes family s) (empty_of (family.table s)) (plain
        (family_records family s m))
        (family_charge family r s m) m
    nest_folded s (nest l rows) holds =
        let t = family.table s in
        let start = empty_rows t.rows in
        let run = plain (t.run 0 l) in
        let runs = plain (runs_from t l 1 (count_rows rows)) in
        let behind_records = plain (rows_records family s l 0 rows) in
        let leaf = subst (λ k. FoldsBack t.takes t.default (plain (runs_from t l 0 (suc k)))
        ((r s).charge_of l) l) (sym holds.1) ((h s).back l holds.0).0 in
        let own = subst (λ k. AllAre (GoesToLeaf t) (plain (runs_from t l 0 (suc k))))
        (sym holds.1) ((h s).back l holds.0).1 in
        let is = plain_joined (t.run 0 l) (runs_from t l 1 (count_rows rows)) in
        let (u, first, last, front, behind, sum) = fold_split t.takes g.charges run runs t.default l
        ((r s).charge_of l) (subst (λ fs. Folds t.takes t.default fs
        ((r s).charge_of l) l) is leaf.folded)
        in
        let here = all_split (GoesToLeaf t) run runs (subst (AllAre (GoesToLeaf t)) is own) in
        let fitting = fitting_split run runs (subst AreFitting is leaf.fitting) in
        let numbered = numbered_split run runs (subst AreNumbered is leaf.numbered) in
        let within : IsWithin rows start = λ j nothing. no_messages L j t.rows in
        let lifted = leaf_lifted s l rows start holds.0 holds.3 within run t.default u first here.0
        (came_from s l runs u l last behind ((h s).ends l)) front in
        let more = rows_folded s 0 rows start rows u l last holds.0 holds.3
        (λ j k e. let same : j ≡ k = omega (arith, e) in ap (λ x. rows_row x rows) same)
        within holds.2
        (λ j low. no_messages L j t.rows)
        (omega (arith, holds.1)) (count_empty L t.rows) fitting.1 numbered.1 behind here.1 in
        subst (λ fs. FoldsBack (family_takes family s) (empty_of t) fs
        (both ((r s).charge_of l) (rows_charge family r s 0 rows)) (nest l rows))
        (sym (plain_joined (t.run 0 l) (rows_records family s l 0 rows)))
        (record {
          fitting = fitting_joined run behind_records fitting.0 more.fitting;
          numbered = numbered_joined run behind_records numbered.0 more.numbered;
          folded = subst (λ c. Folds (family_takes family s) (empty_of t)
              (joined run behind_records) c
              (nest l rows))
              (ap (both first) (swapped (rows_charge family r s 0 rows) last)
              ∙ sym (g.charges.assoc first last (rows_charge family r s 0 rows))
              ∙ ap (λ c. both c (rows_charge family r s 0 rows)) (sym sum))
              (fold_on (family_takes family s) g.charges run behind_records (empty_of t)
              (nest u start)
              (nest l rows) first (both (rows_charge family r s 0 rows) last)
              lifted
              (subst (λ x. Folds (family_takes family s) (nest u start) behind_records
              (both (rows_charge family r s 0 rows) last) (nest l x))
              (ap (λ k. with_rows 0 rows (empty_rows k)) (sym holds.1) ∙ with_all_rows rows)
              more.folded));
        })

    rows_folded : (s : S) (i : ℕ) (rs into all : Rows L) (l z : L) (c : Charge) → (r s).Holds z
        → stands s z all
        → ((j k : ℕ) → j ≡ i + k → rows_row j all ≡ rows_row k rs)
        → IsWithin all into → RowsHold family r stands s i rs
        → ((j : ℕ) → i ≤ j → rows_row j into ≡ [])
        → i + count_rows rs ≡ (family.table s).rows → count_rows into ≡ (family.table s).rows
        → AreFitting (plain (runs_from (family.table s) z (suc i) (count_rows rs)))
        → AreNumbered (plain (runs_from (family.table s) z (suc i) (count_rows rs)))
        → Folds (family.table s).takes l (plain (runs_from (family.table s) z (suc i)
        (count_rows rs))) c z
        → AllAre (GoesToLeaf (family.table s))
        (plain (runs_from (family.table s) z (suc i) (count_rows rs)))
        → FoldsBack (family_takes family s) (nest l into) (plain (rows_records family s z i rs))
        (both (rows_charge family r s i rs) c) (nest z (with_rows i rs into))
    rows_folded s i done into all l z c held stand rest within holds empty count size fitting
        numbered folded own = record {
          fitting = tt;
          numbered = tt;
          folded = (
            ap (both no_charge) folded.0 ∙ g.charges.nothing_first no_charge,
            ap (λ x. nest x into) folded.1,
          );
        }
    rows_folded s i (row q rs) into all l z c leaf stand rest within holds empty count size
        fitting numbered folded own =
        let t = family.table s in
        let held = family.holds s i in
        let n = t.number i in
        let low : i < t.rows = omega (arith, count) in
        let here = plain (row_records family held (encoding_at t n) n q) in
        let run = plain (t.run (suc i) z) in
        let runs = plain (runs_from t z (suc (suc i)) (count_rows rs)) in
        let others = plain (rows_records family s z (suc i) rs) in
        let next = set_rows i q into in
        let is = plain_joined (t.run (suc i) z) (runs_from t z (suc (suc i)) (count_rows rs)) in
        let (u, first, last, front, behind, sum) = fold_split t.takes g.charges run runs l z c
        (subst (λ fs. Folds t.takes l fs c z) is folded) in
        let goes = all_split (GoesToLeaf t) run runs (subst (AllAre (GoesToLeaf t)) is own) in
        let mid_way = came_from s z runs u z last behind ((h s).ends z) in
        let way = came_from s z run l u first front mid_way in
        let small = fitting_split run runs (subst AreFitting is fitting) in
        let num = numbered_split run runs (subst AreNumbered is numbered) in
        let one = row_folded s i (t.place n) refl ((h s).place i low) low l into [] (empty i
        (omega arith))
        (omega (arith, low, size)) q (fit_behind (t.once i) q holds.0) holds.1
        (row_kept s z l all into leaf stand way within i q (rest i 0 (omega arith))) in
        let inside = within_set (λ j. rows_row j all) i q into within (rest i 0 (omega arith)) in
        let lifted = leaf_lifted s z all next leaf stand inside run l u first goes.0 mid_way front
        in
        let more = rows_folded s (suc i) rs next all u z last leaf stand
        (λ j k e. rest j (suc k) (omega (arith, e))) inside holds.2
        (λ j above. row_behind i j q into (omega (arith, above)) ∙ empty j (omega (arith, above)))
        (omega (arith, count)) (count_set i q into ∙ size) small.1 num.1 behind goes.1 in
        let row_total = row_charge family r held (t.place n) q in
        let total = rows_charge family r s (suc i) rs in
        subst (λ fs. FoldsBack (family_takes family s) (nest l into) fs
        (both (both row_total total) c) (nest z (with_rows (suc i) rs next)))
        (sym (plain_joined (row_records family held (encoding_at t n) n q)
        (joined_records (t.run (suc i) z) (rows_records family s z (suc i) rs))
        ∙ ap (joined here) (plain_joined (t.run (suc i) z) (rows_records family s z (suc i) rs))))
        (record {
          fitting = fitting_joined here (joined run others) one.fitting
              (fitting_joined run others small.0 more.fitting);
          numbered = numbered_joined here (joined run others) one.numbered
              (numbered_joined run others num.0 more.numbered);
          folded = subst (λ d. Folds (family_takes family s) (nest l into) (joined here
              (joined run others)) d
              (nest z (with_rows (suc i) rs next)))
              (paired g.charges row_total first total last
              ∙ ap (both (both row_total total)) (sym sum))
              (fold_on (family_takes family s) g.charges here (joined run others) (nest l into)
              (nest l next)
              (nest z (with_rows (suc i) rs next)) row_total (both first (both total last))
              (subst (λ x. Folds (family_takes family s) (nest l into) here row_total
              (nest l (set_rows i x into))) (row_listed q) one.folded)
              (fold_on (family_takes family s) g.charges run others (nest l next) (nest u next)
              (nest z (with_rows (suc i) rs next)) first (both total last)
              lifted more.folded));
        })

    row_folded : (s : S) (i : ℕ) (place : Place) → (family.table s).place
        ((family.table s).number i) ≡ place
        → IsPlaceOf i ((family.table s).once i) place → i < (family.table s).rows → (l : L)
        (rows : Rows L)
        (before : List (Nest L)) → rows_row i rows ≡ before → i < count_rows rows
        → (q : Row L) → ((family.table s).once i ≡ true → IsFitBehind before q)
        → RowHolds family r stands (family.holds s i) q → IsKept (family.table s) i l rows q
        → FoldsBack (family_takes family s) (nest l rows) (plain (row_records family
        (family.holds s i)
        (encoding_at (family.table s) ((family.table s).number i)) ((family.table s).number i) q))
        (row_charge family r (family.holds s i) place q)
        (nest l (set_rows i (row_of (before ++ listed q)) rows))
    row_folded s i place is at low l rows before row_is there end fit holds kept = record {
      fitting = tt;
      numbered = tt;
      folded = (
        refl,
        ap (λ (ms : List (Nest L)). nest l (set_rows i (row_of ms) rows))
            (append-nil before ∙ sym row_is)
            ∙ ap (nest l) (set_same i rows),
      );
    }
    row_folded s i place is at low l rows before row_is there (ahead m ms) fit holds kept =
        let t = family.table s in
        let held = family.holds s i in
        let n = t.number i in
        let rs = family_records family held m in
        let inner = nest_folded held m holds.0 in
        let e = encoding_back (is_grouped (t.place n)) in
        let next = set_rows i (row_of (before ++ m ∷ [])) rows in
        let more = row_folded s i place is at low l next (before ++ m ∷ [])
        (row_set i (row_of (before ++ m ∷ [])) rows there ∙ listed_row (before ++ m ∷ []))
        (omega (arith, there, count_set i (row_of (before ++ m ∷ [])) rows)) ms
        (λ once. subst (IsFitBehind (before ++ m ∷ [])) (sym (fit once).1) tt) holds.2
        (kept_behind t i l next ms (λ once. (fit once).1)) in
        record {
          fitting = (e.fitting rs inner.fitting holds.1, more.fitting);
          numbered = ((h s).number i low, e.numbered rs inner.numbered, more.numbered);
          folded = (
            nest l next,
            price place (nested (family_charge family r held m)),
            row_charge family r held place ms,
            message_taken s i l rows before row_is m (family_charge family r held m) inner holds.1
                kept place is at (λ once. (fit once).0),
            subst (λ x. Folds (family_takes family s) (nest l next) (plain (row_records family held
                (encoding_at t n) n ms))
                (row_charge family r held place ms) (nest l x))
                (set_again i (row_of ((before ++ m ∷ []) ++ listed ms))
                (row_of (before ++ m ∷ [])) rows
                ∙ ap (λ (xs : List (Nest L)). set_rows i (row_of xs) rows)
                (append_assoc before (m ∷ []) (listed ms))) more.folded,
            refl,
          );
        }

  -- a message of such a table
  pub beside_returned : (s : S) (shape : Shape (Nest L)) → shape.default ≡ empty_of (family.table s)
      → shape.records ≡ family_records family s → shape.takes ≡ family_takes family s
      → ((n : ℕ) (p : Payload) → shape.owns n p ≡ true)
      → Returned shape (beside_range family r stands s)
  beside_returned s shape start records step owns = record {
    Has = λ n. Unit {0};
    back = record {
      back = λ m holds. subst (λ k. FoldsBack k shape.default (plain (shape.records m))
          (family_charge family r s m) m) (sym step)
          (subst (λ d. FoldsBack (family_takes family s) d (plain (shape.records m))
          (family_charge family r s m) m) (sym start)
          (subst (λ f. FoldsBack (family_takes family s) (empty_of (family.table s)) (plain (f m))
          (family_charge family r s m) m) (sym records) (nest_folded s m holds)));
      has = λ m holds. all_any (plain (shape.records m));
      own = λ n p has. owns n p;
    };
  }

-- where no row is one of a oneof
module _ {S L : Type 0} (g : Grounds) (family : Family S L) (r : S → Range L)
    (single : (s : S) → IsSingle (family.table s).takes)
    (h : (s : S) → LeafBack (family.table s) (r s)) where
  pub family_returned : (s : S) (shape : Shape (Nest L)) → shape.default ≡ empty_of (family.table s)
      → shape.records ≡ family_records family s → shape.takes ≡ family_takes family s
      → ((n : ℕ) (p : Payload) → shape.owns n p ≡ true) → Returned shape (family_range family r s)
  family_returned = beside_returned g family r (λ s. any_beside) single h

-- a message of a type that holds itself alone
module _ {L : Type 0} (g : Grounds) (t : Table L) (r : Range L) (single : IsSingle t.takes)
    (h : LeafBack t r) where
  pub nest_returned : (shape : Shape (Nest L)) → shape.default ≡ empty_of t
      → shape.records ≡ nest_records t → shape.takes ≡ nest_takes t
      → ((n : ℕ) (p : Payload) → shape.owns n p ≡ true) → Returned shape (nest_range t r)
  nest_returned = family_returned g (alone t) (λ s. r) (λ s. single) (λ s. h) tt
