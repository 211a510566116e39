-- That messages are read back of which some variants of a oneof are rows, and that what decoding
-- leaves of them is in range.
use Rattle.std.proofs.Common.{◌≡◌, ◌⊎◌, inl, inr, ℕ, zero, suc, List, [], ◌∷◌, refl, sym, ap, ◌∙◌, subst}
use Rattle.std.proofs.lemmas.Bool.Decides.{eqb_tells}
use Rattle.std.specs.Prelude.{Bool, true, false, ◌==◌, ◌&&◌, ◌<◌}
use Rattle.wire_codec.specs.Field.{Payload}
use Rattle.wire_codec.specs.FieldNumber.{IsFieldNumber}
use Rattle.wire_codec.specs.Folds.{Step}
use Rattle.wire_codec.specs.Limits.{Charge}
use Rattle.wire_codec.specs.Records.{Records, plain}
use Rattle.wire_fields.specs.Back.{AllAre, FoldsBack, same_owned}
use Rattle.wire_fields.specs.Nest.{Nest, nest, Rows, done, row, Row, end, ahead, listed}
use Rattle.wire_fields.specs.Nest.{rows_row, set_rows}
use Rattle.wire_fields.specs.NestChoice.{Choice, emptied, rows_without}
use Rattle.wire_fields.specs.NestChoice.{if_other, other_row, beside_if, beside_row, rows_if}
use Rattle.wire_fields.specs.NestChoice.{rows_beside_field, rows_alone, first_choice, second_choice}
use Rattle.wire_fields.specs.NestRange.{Beside, IsWithin, LeafBeside, GoesToLeaf, IsReadBack}
use Rattle.wire_fields.specs.NestRange.{IsPlaceOf, all_runs}
use Rattle.wire_fields.specs.NestTable.{Table}
use Rattle.wire_fields.specs.Ranges.{Range}
use Rattle.wire_fields.specs.StaysNest.{IsThinned}
use Rattle.wire_fields.specs.Sums.{first_takes, second_takes}

pub both_not : (b : Bool) → b ≡ true → b ≡ false → ⊥
both_not b is other = cc

no_items : {V : Type 0} (v : V) (vs : List V) → v ∷ vs ≡ [] → ⊥
no_items v vs is = absurd cc

-- ---- rows without messages

-- none of these rows has a message
abbrev pub NoneOf : {L : Type 0} → (ℕ → Bool) → Rows L → Type 0
NoneOf gone rows = (j : ℕ) → gone j ≡ true → rows_row j rows ≡ []

module _ {L : Type 0} where
  emptied_same : (b : Bool) (q : Row L) → (b ≡ true → listed q ≡ []) → emptied b q ≡ q
  emptied_same true end h = refl
  emptied_same true (ahead m ms) h = absurd (no_items m (listed ms) (h refl))
  emptied_same false q h = refl

  rows_same : (gone : ℕ → Bool) (rows : Rows L) → NoneOf gone rows → rows_without gone rows ≡ rows
  rows_same gone done h = refl
  rows_same gone (row q rs) h =
      ap (λ (x : Row L). row x (rows_without (λ j. gone (suc j)) rs))
      (emptied_same (gone zero) q (h zero))
      ∙ ap (λ (x : Rows L). row q x) (rows_same (λ j. gone (suc j)) rs (λ j. h (suc j)))

  emptied_none : (b : Bool) (q : Row L) → b ≡ true → listed (emptied b q) ≡ []
  emptied_none true q h = refl
  emptied_none false q h = absurd cc

  pub none_left : (gone : ℕ → Bool) (rows : Rows L) → NoneOf gone (rows_without gone rows)
  none_left gone done j h = refl
  none_left gone (row q rs) zero h = emptied_none (gone zero) q h
  none_left gone (row q rs) (suc j) h = none_left (λ k. gone (suc k)) rs j h

  emptied_thin : (b : Bool) (q : Row L) → (emptied b q ≡ q) ⊎ (emptied b q ≡ end)
  emptied_thin true q = inr refl
  emptied_thin false q = inl refl

  pub rows_thin : (gone : ℕ → Bool) (rows : Rows L) → IsThinned rows (rows_without gone rows)
  rows_thin gone done = tt
  rows_thin gone (row q rs) =
      (emptied_thin (gone zero) q, rows_thin (λ j. gone (suc j)) rs)

  pub none_set : (gone : ℕ → Bool) (i : ℕ) (q : Row L) (rows : Rows L) → gone i ≡ false
      → NoneOf gone rows → NoneOf gone (set_rows i q rows)
  none_set gone i q done stays h j is = refl
  none_set gone zero q (row p rs) stays h zero is = absurd (both_not (gone zero) is stays)
  none_set gone zero q (row p rs) stays h (suc j) is = h (suc j) is
  none_set gone (suc i) q (row p rs) stays h zero is = h zero is
  none_set gone (suc i) q (row p rs) stays h (suc j) is =
      none_set (λ k. gone (suc k)) i q rs stays (λ k. h (suc k)) j is

-- ---- what stands

-- of the oneof's rows this one alone may have messages, and the leaf has no variant of it
pub record OneRow {L : Type 0} (c : Choice L) (l : L) (rows : Rows L) : Type 0 where
  pub none : c.stands l ≡ false
  pub at : ℕ
  pub alone : NoneOf (other_row c at) rows

-- one variant at most: none that is a row, or one row
abbrev pub one_stands : {L : Type 0} → Choice L → Beside L
one_stands c l rows = NoneOf c.is_row rows ⊎ OneRow c l rows

-- What a step makes of the oneof: nothing by another number, and what stands is followed by what
-- stands.
pub record IsChoice {L : Type 0} (takes : Step L) (c : Choice L) : Type 0 where
  pub apart : (m z : L) (n : ℕ) (p : Payload) (k : Charge) → c.is_plain n ≡ false
      → takes m n p k z → c.stands z ≡ c.stands m
  pub lasts : (m z : L) (n : ℕ) (p : Payload) (k : Charge) → c.is_plain n ≡ true
      → takes m n p k z → c.stands m ≡ true → c.stands z ≡ true
  pub same : (m : L) → c.stands m ≡ false → c.without m ≡ m
  pub gone : (m : L) → c.stands (c.without m) ≡ false

if_other_false : (b : Bool) → if_other b false ≡ false
if_other_false true = refl
if_other_false false = refl

module _ {L : Type 0} (c : Choice L) where
  pub not_itself : (i : ℕ) → other_row c i i ≡ false
  not_itself i = ap (λ b. if_other b (c.is_row i)) (same_owned i i refl)

  pub not_other : (i j : ℕ) → c.is_row j ≡ false → other_row c i j ≡ false
  not_other i j is = ap (if_other (j == i)) is ∙ if_other_false (j == i)

  is_other : (i j : ℕ) → c.is_row j ≡ true → (j == i) ≡ false → other_row c i j ≡ true
  is_other i j is apart = ap (λ b. if_other b (c.is_row j)) apart ∙ is

  -- the one row is the one that has messages
  others_none : (i : ℕ) (l : L) (rows : Rows L) (k : Nest L) (ks : List (Nest L))
      → c.is_row i ≡ true → rows_row i rows ≡ k ∷ ks → OneRow c l rows
      → NoneOf (other_row c i) rows
  others_none i l rows k ks own is one = elim (eqb_tells i one.at) [
    | inl same ↦ subst (λ (a : ℕ). NoneOf (other_row c a) rows) (sym same.1) one.alone
    | inr other ↦ absurd
        (no_items k ks (sym is ∙ one.alone i (is_other one.at i own other.0)))
  ]

-- ---- read back

module _ {L : Type 0} (takes : Step L) (c : Choice L) (x : IsChoice takes c) where
  abbrev IsOnWay : L → L → Type 0
  IsOnWay l m = c.stands l ≡ false → c.stands m ≡ false

  -- what does not stand did not stand before
  stood_not : (b : Bool) (m z : L) (n : ℕ) (p : Payload) (k : Charge) → c.is_plain n ≡ b
      → takes m n p k z → (set : Bool) → c.stands m ≡ set → c.stands z ≡ false
      → c.stands m ≡ false
  stood_not b m z n p k own taken false is nothing = is
  stood_not true m z n p k own taken true is nothing =
      absurd (both_not (c.stands z) (x.lasts m z n p k own taken is) nothing)
  stood_not false m z n p k own taken true is nothing =
      sym (x.apart m z n p k own taken) ∙ nothing

  way_before : (l m z : L) (n : ℕ) (p : Payload) (k : Charge) → takes m n p k z → IsOnWay l z
      → IsOnWay l m
  way_before l m z n p k taken way nothing =
      stood_not (c.is_plain n) m z n p k refl taken (c.stands m) refl (way nothing)

  beside_same : (b : Bool) (l m : L) (rows into : Rows L) (i : ℕ) (k : Nest L) (ks : List (Nest L))
      → c.is_row i ≡ b → one_stands c l rows → IsOnWay l m → IsWithin rows into
      → rows_row i rows ≡ k ∷ ks → beside_if c b i (nest m into) ≡ nest m into
  beside_same false l m rows into i k ks own stands way within is = refl
  beside_same true l m rows into i k ks own (inl nothing) way within is =
      absurd (no_items k ks (sym is ∙ nothing i own))
  beside_same true l m rows into i k ks own (inr one) way within is =
      let others = others_none c i l rows k ks own is one in
      ap (λ (y : L). nest y (rows_without (other_row c i) into)) (x.same m (way one.none))
      ∙ ap (λ (y : Rows L). nest m y)
      (rows_same (other_row c i) into (λ j gone. within j (others j gone)))

  rows_stay : (b set : Bool) (l m : L) (rows into : Rows L) → c.stands m ≡ set
      → one_stands c l rows → IsOnWay l m → IsWithin rows into → rows_if c (b && set) into ≡ into
  rows_stay false set l m rows into is stands way within = refl
  rows_stay true false l m rows into is stands way within = refl
  rows_stay true true l m rows into is (inl nothing) way within =
      rows_same c.is_row into (λ j gone. within j (nothing j gone))
  rows_stay true true l m rows into is (inr one) way within =
      absurd (both_not (c.stands m) is (way one.none))

-- What a type shows of its rows, of which some are variants of a oneof.
pub choice_back : {L : Type 0} (t : Table L) (r : Range L) (c : Choice L) (takes : Step L) (start : L)
    (records : L → Records) → IsChoice takes c
    → IsReadBack takes start records (GoesToLeaf t) r
    → t.takes ≡ takes → t.default ≡ start → ((l : L) → all_runs t l ≡ records l)
    → ((i : ℕ) → i < t.rows → IsFieldNumber (t.number i))
    → ((i : ℕ) → i < t.rows → IsPlaceOf i (t.once i) (t.place (t.number i)))
    → ((i : ℕ) (m : Nest L) → t.beside i m ≡ beside_row c i m)
    → ((n : ℕ) (l : L) (rs : Rows L) → t.rows_beside n l rs ≡ rows_beside_field c n l rs)
    → LeafBeside t r (one_stands c)
choice_back {L} t r c takes start records x back takes_is start_is runs_are number place beside
    rows_beside = record {
      number = number;
      place = place;
      OnWay = IsOnWay takes c x;
      ends = λ l nothing. nothing;
      comes_from = λ l m z n p k step. way_before takes c x l m z n p k
          (subst (λ (s : Step L). s m n p k z) takes_is step);
      beside = λ l m rows into i k ks holds stands way within once is. beside i (nest m into)
          ∙ beside_same takes c x (c.is_row i) l m rows into i k ks refl stands way within is;
      rows_beside = λ l m rows into n holds stands way within. rows_beside n m into
          ∙ rows_stay takes c x (c.is_plain n) (c.stands m) l m rows into refl stands way within;
      back = λ l holds. (
        subst (λ rs. FoldsBack t.takes t.default (plain rs) (r.charge_of l) l) (sym (runs_are l))
            (subst (λ s. FoldsBack t.takes s (plain (records l)) (r.charge_of l) l) (sym start_is)
            (subst (λ s. FoldsBack s start (plain (records l)) (r.charge_of l) l) (sym takes_is)
            (back l holds).0)),
        subst (λ rs. AllAre (GoesToLeaf t) (plain rs)) (sym (runs_are l)) (back l holds).1,
      );
    }

-- where all variants are rows
pub alone_choice : {L : Type 0} (takes : Step L) (is_row : ℕ → Bool)
    → IsChoice takes (rows_alone is_row)
alone_choice takes is_row = record {
  apart = λ m z n p k other taken. refl;
  lasts = λ m z n p k own taken stands. stands;
  same = λ m is. refl;
  gone = λ m. refl;
}

-- ---- types that hold one another

module _ {A B : Type 0} (takes : Step A) (c : Choice A) (x : IsChoice takes c) where
  first_apart_in : (m z : A ⊎ B) (n : ℕ) (p : Payload) (k : Charge) → c.is_plain n ≡ false
      → first_takes takes m n p k z → (first_choice {B = B} c).stands z ≡ (first_choice {B = B} c).stands m
  first_apart_in (inr m) z n p k other taken = absurd taken
  first_apart_in (inl m) (inr z) n p k other taken = absurd taken
  first_apart_in (inl m) (inl z) n p k other taken = x.apart m z n p k other taken

  first_lasts_in : (m z : A ⊎ B) (n : ℕ) (p : Payload) (k : Charge) → c.is_plain n ≡ true
      → first_takes takes m n p k z → (first_choice {B = B} c).stands m ≡ true
      → (first_choice {B = B} c).stands z ≡ true
  first_lasts_in (inr m) z n p k own taken stands = absurd taken
  first_lasts_in (inl m) (inr z) n p k own taken stands = absurd taken
  first_lasts_in (inl m) (inl z) n p k own taken stands = x.lasts m z n p k own taken stands

  first_same_in : (m : A ⊎ B) → (first_choice {B = B} c).stands m ≡ false
      → (first_choice {B = B} c).without m ≡ m
  first_same_in (inl m) is = ap inl (x.same m is)
  first_same_in (inr m) is = refl

  first_gone_in : (m : A ⊎ B)
      → (first_choice {B = B} c).stands ((first_choice {B = B} c).without m) ≡ false
  first_gone_in (inl m) = x.gone m
  first_gone_in (inr m) = refl

  pub first_is_choice : IsChoice (first_takes {B = B} takes) (first_choice c)
  first_is_choice = record {
    apart = first_apart_in;
    lasts = first_lasts_in;
    same = first_same_in;
    gone = first_gone_in;
  }

module _ {A B : Type 0} (takes : Step B) (c : Choice B) (x : IsChoice takes c) where
  second_apart_in : (m z : A ⊎ B) (n : ℕ) (p : Payload) (k : Charge) → c.is_plain n ≡ false
      → second_takes takes m n p k z → (second_choice {A = A} c).stands z ≡ (second_choice {A = A} c).stands m
  second_apart_in (inl m) z n p k other taken = absurd taken
  second_apart_in (inr m) (inl z) n p k other taken = absurd taken
  second_apart_in (inr m) (inr z) n p k other taken = x.apart m z n p k other taken

  second_lasts_in : (m z : A ⊎ B) (n : ℕ) (p : Payload) (k : Charge) → c.is_plain n ≡ true
      → second_takes takes m n p k z → (second_choice {A = A} c).stands m ≡ true
      → (second_choice {A = A} c).stands z ≡ true
  second_lasts_in (inl m) z n p k own taken stands = absurd taken
  second_lasts_in (inr m) (inl z) n p k own taken stands = absurd taken
  second_lasts_in (inr m) (inr z) n p k own taken stands = x.lasts m z n p k own taken stands

  second_same_in : (m : A ⊎ B) → (second_choice {A = A} c).stands m ≡ false
      → (second_choice {A = A} c).without m ≡ m
  second_same_in (inl m) is = refl
  second_same_in (inr m) is = ap inr (x.same m is)

  second_gone_in : (m : A ⊎ B)
      → (second_choice {A = A} c).stands ((second_choice {A = A} c).without m) ≡ false
  second_gone_in (inl m) = refl
  second_gone_in (inr m) = x.gone m

  pub second_is_choice : IsChoice (second_takes {A = A} takes) (second_choice c)
  second_is_choice = record {
    apart = second_apart_in;
    lasts = second_lasts_in;
    same = second_same_in;
    gone = second_gone_in;
  }
