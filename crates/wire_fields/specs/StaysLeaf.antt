-- What decoding leaves of the leaves of messages that hold themselves or one another is in range.
use Rattle.std.proofs.Common.{◌≡◌, ◌⊎◌, inl, inr, ℕ, Bool, true, false, sym, ◌∙◌, subst}
use Rattle.wire_codec.specs.Field.{Payload}
use Rattle.wire_codec.specs.Folds.{Step}
use Rattle.wire_codec.specs.Limits.{Charge}
use Rattle.wire_codec.specs.Records.{Records}
use Rattle.wire_fields.specs.declared.recursive.Place.{Place}
use Rattle.wire_fields.specs.Nest.{Nest, Rows, leaf_of, rows_of}
use Rattle.wire_fields.specs.NestChoice.{Choice, first_choice, second_choice}
use Rattle.wire_fields.specs.NestRange.{GoesToLeaf, IsOther, leaf_range, any_beside, all_runs}
use Rattle.wire_fields.specs.NestTable.{Table, IsThere, if_number}
use Rattle.wire_fields.specs.Ranges.{Range}
use Rattle.wire_fields.specs.Shape.{Shape, two, unknown, keeps}
use Rattle.wire_fields.specs.Short.{AreShort, first_short}
use Rattle.wire_fields.specs.Sound.{IsSound}
use Rattle.wire_fields.specs.Stays.{FieldsStay, AreKept, part_stays, kept_more, none_kept}
use Rattle.wire_fields.specs.Stays.{kept_others}
use Rattle.wire_fields.specs.StaysNest.{LeafStays, IsThinned, as_thin}
use Rattle.wire_fields.specs.Sums.{first_takes, second_takes, of_first, of_second, first_range}
use Rattle.wire_fields.specs.Sums.{second_range}

-- what a leaf holds as the records leave it whose numbers are of this kind
pub record StepStays {L : Type 0} (takes : Step L) (start : L) (records : L → Records)
    (Here : ℕ → Type 0) (r : Range L) : Type 1 where
  pub Is : L → Type 0
  pub begins : Is start
  pub step : (n : ℕ) (p : Payload) (c : Charge) (m z : L) → IsSound n p → Here n → Is m
      → takes m n p c z → Is z
  pub holds : (m : L) → Is m → AreShort (records m) → r.Holds m

-- fields with the unknown ones
module _ {L V : Type 0} (t : Table L) {known : Shape V} {r : Range V} (x : FieldsStay known r) where
  abbrev IsLeft : ℕ → Payload → Type 0
  IsLeft n p = IsOther t known n

  abbrev pub known_stay : StepStays (two known unknown).takes (two known unknown).default
      (two known unknown).records (GoesToLeaf t) (leaf_range t known r)
  known_stay = record {
    Is = λ m. x.Is m.0 × AreKept IsLeft m.1;
    begins = (x.start, none_kept IsLeft);
    step = λ n p c m z sound here h taken. part_stays known.takes keeps x.Is (AreKept IsLeft)
        n p c m z (known.owns n p) taken h.0 h.1 (λ own. x.step n p c m.0 z.0 sound own h.0)
        (λ other step. subst (AreKept IsLeft) (sym step.1)
        (kept_more IsLeft m.1 n p sound h.1 (λ q. x.by_number n q p ∙ other, here)));
    holds = λ m h short. (
      x.holds m.0 h.0 (first_short (known.records m.0) (unknown.records m.1) short),
      kept_others (IsOther t known) m.1 h.1,
    );
  }

-- ---- one of two

module _ {A B : Type 0} where
  abbrev first_is : (A → Type 0) → A ⊎ B → Type 0
  first_is Is (inl m) = Is m
  first_is Is (inr m) = ⊥

  abbrev second_is : (B → Type 0) → A ⊎ B → Type 0
  second_is Is (inl m) = ⊥
  second_is Is (inr m) = Is m

  module _ {takes : Step A} {start : A} {records : A → Records} {Here : ℕ → Type 0} {r : Range A}
      (x : StepStays takes start records Here r) where
    first_step : (n : ℕ) (p : Payload) (c : Charge) (m z : A ⊎ B) → IsSound n p → Here n
        → first_is x.Is m → first_takes takes m n p c z → first_is x.Is z
    first_step n p c (inr m) z sound here is taken = absurd taken
    first_step n p c (inl m) (inr z) sound here is taken = absurd taken
    first_step n p c (inl m) (inl z) sound here is taken = x.step n p c m z sound here is taken

    first_holds : (m : A ⊎ B) → first_is x.Is m → AreShort (of_first records m)
        → (first_range r).Holds m
    first_holds (inr m) is short = absurd is
    first_holds (inl m) is short = x.holds m is short

    pub first_stay : StepStays (first_takes {B = B} takes) (inl start) (of_first records) Here
        (first_range r)
    first_stay = record {
      Is = first_is x.Is;
      begins = x.begins;
      step = first_step;
      holds = first_holds;
    }

    -- what the leaf without a oneof is in, so is the sum
    pub first_kept : (c : Choice A) → ((m : A) → x.Is m → x.Is (c.without m)) → (m : A ⊎ B)
        → first_stay.Is m → first_stay.Is ((first_choice {B = B} c).without m)
    unfolding first_stay
    first_kept c kept (inl m) is = kept m is
    first_kept c kept (inr m) is = is

  module _ {takes : Step B} {start : B} {records : B → Records} {Here : ℕ → Type 0} {r : Range B}
      (x : StepStays takes start records Here r) where
    second_step : (n : ℕ) (p : Payload) (c : Charge) (m z : A ⊎ B) → IsSound n p → Here n
        → second_is x.Is m → second_takes takes m n p c z → second_is x.Is z
    second_step n p c (inl m) z sound here is taken = absurd taken
    second_step n p c (inr m) (inl z) sound here is taken = absurd taken
    second_step n p c (inr m) (inr z) sound here is taken = x.step n p c m z sound here is taken

    second_holds : (m : A ⊎ B) → second_is x.Is m → AreShort (of_second records m)
        → (second_range r).Holds m
    second_holds (inl m) is short = absurd is
    second_holds (inr m) is short = x.holds m is short

    pub second_stay : StepStays (second_takes {A = A} takes) (inr start) (of_second records) Here
        (second_range r)
    second_stay = record {
      Is = second_is x.Is;
      begins = x.begins;
      step = second_step;
      holds = second_holds;
    }

    pub second_kept : (c : Choice B) → ((m : B) → x.Is m → x.Is (c.without m)) → (m : A ⊎ B)
        → second_stay.Is m → second_stay.Is ((second_choice {A = A} c).without m)
    unfolding second_stay
    second_kept c kept (inl m) is = is
    second_kept c kept (inr m) is = kept m is

-- ---- tables

-- a place by a number is one of the table where both places are
pub there_where : {L : Type 0} (t : Table L) (b : Bool) (here there : Place) → IsThere t here
    → IsThere t there → IsThere t (if_number b here there)
there_where t true here there h k = h
there_where t false here there h k = k

-- what a type shows where no row is one of a oneof
pub table_stays : {L : Type 0} {r : Range L} {takes : Step L} {start : L} {records : L → Records}
    (t : Table L) → (x : StepStays takes start records (GoesToLeaf t) r) → t.takes ≡ takes
    → t.default ≡ start → ((l : L) → all_runs t l ≡ records l)
    → ((n : ℕ) → IsThere t (t.place n)) → ((i : ℕ) (m : Nest L) → t.beside i m ≡ m)
    → ((n : ℕ) (l : L) (rs : Rows L) → t.rows_beside n l rs ≡ rs) → LeafStays t r any_beside
table_stays {L} {r} {takes} t x takes_is start_is runs_are there beside rows_beside = record {
  Is = x.Is;
  start = subst x.Is (sym start_is) x.begins;
  step = λ n p c l z sound here is taken. x.step n p c l z sound here is
      (subst (λ (f : Step L). f l n p c z) takes_is taken);
  holds = λ l is short. x.holds l is (subst AreShort (runs_are l) short);
  there = there;
  none = tt;
  beside_leaf = λ n p c l z rows here is stands taken.
      (subst (IsThinned rows) (sym (rows_beside n z rows)) (as_thin rows), tt);
  beside_one = λ i m after once is stands. (
    subst (λ k. x.Is (leaf_of k)) (sym (beside i m)) is,
    subst (λ k. IsThinned (rows_of m) (rows_of k)) (sym (beside i m)) (as_thin (rows_of m)),
    tt,
  );
  beside_more = λ i l rows q many stands. tt;
}
