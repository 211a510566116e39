-- What a value makes of the records that are left, and of all of them.
use Rattle.std.proofs.Common.{◌≡◌, ℕ, refl, sym, ap, ◌∙◌, subst}
use Rattle.wire_codec.specs.Field.{Payload, Fields, none, field, joined}
use Rattle.wire_codec.specs.Folds.{Step, Folds, IsSingle}
use Rattle.wire_codec.specs.InRange.{AreNumbered}
use Rattle.wire_codec.specs.Limits.{Limits, Charge, Fits, left_after, both, no_charge}
use Rattle.wire_codec.specs.LimitsLaws.{ChargesAddUp, LimitsAddUp}
use Rattle.wire_codec.specs.Taking.{IsCharged}
use Rattle.wire_fields.specs.Shape.{Owns, FieldKind}
use Rattle.wire_extensions.proofs.Records.{one_leaves_others_lemma}
use Rattle.wire_extensions.specs.Extension.{picked, IsValue, TakesOne, TakesNone}
use Rattle.wire_extensions.specs.Laws.{GetOfAdd}

-- what a charge before it and this one make, where the value is reached in one way
pub record Left {V : Type 0} (takes : Step V) (v : V) (rest : Fields) (before c : Charge) (z : V)
    : Type 0 where
  pub charge : Charge
  pub folded : Folds takes v rest charge z
  pub sum : c ≡ both before charge

-- what the value v makes of the rest is what m makes of all
pub record Follows {V : Type 0} (takes : Step V) (l : Limits) (m : V) (all : Fields) (k : Limits)
    (v : V) (rest : Fields) : Type 0 where
  pub charge : Charge
  pub fits : Fits charge l
  pub left : k ≡ left_after l charge
  pub numbered : AreNumbered rest
  pub on : (c : Charge) (z : V) → Folds takes v rest c z → Folds takes m all (both charge c) z
  pub back : IsSingle takes → (c : Charge) (z : V) → Folds takes m all c z
      → Left takes v rest charge c z

module _ (limits : LimitsAddUp) (charges : ChargesAddUp) {V : Type 0} (takes : Step V)
    (l : Limits) (m : V) (all : Fields) where
  pub at_start : AreNumbered all → Follows takes l m all l m all
  at_start numbered = record {
    charge = no_charge;
    fits = limits.nothing_fits l;
    left = sym (limits.left_after_nothing l);
    numbered = numbered;
    on = λ c z h. subst (λ x. Folds takes m all x z) (sym (charges.nothing_first c)) h;
    back = λ single c z h.
        record { charge = c; folded = h; sum = sym (charges.nothing_first c) };
  }

  -- the rest after the first record, where that is taken in one way
  after_one : IsSingle takes → (v u z : V) (n : ℕ) (p : Payload) (others : Fields)
      (before d c : Charge) → takes v n p d u → Left takes v (field n p others) before c z
      → Left takes u others (both before d) c z
  after_one single v u z n p others before d c step h =
      let (mid, first, more, taken, folded, sum) = h.folded in
      let one = single v v u mid n p d first step taken in
      record {
        charge = more;
        folded = subst (λ x. Folds takes x others more z) (sym (one.1 refl)) folded;
        sum = h.sum ∙ ap (both before) (sum ∙ ap (λ (x : Charge). both x more) (sym one.0))
            ∙ sym (charges.assoc before d more);
      }

  pub one_more : (k left : Limits) (v u : V) (n : ℕ) (p : Payload) (rest others : Fields)
      (d : Charge) → Follows takes l m all k v rest → rest ≡ field n p others
      → TakesOne takes k n p v d u → left ≡ left_after k d
      → Follows takes l m all left u others
  one_more k left v u n p rest others d given is one left_is =
      let h = subst (Follows takes l m all k v) is given in
      record {
        charge = both h.charge d;
        fits = (limits.both_fit l h.charge d).1
            (h.fits, subst (Fits d) h.left one.fits);
        left = left_is ∙ ap (λ (x : Limits). left_after x d) h.left
            ∙ limits.left_after_both l h.charge d;
        numbered = h.numbered.2;
        on = λ c z folded. subst (λ x. Folds takes m all x z) (sym (charges.assoc h.charge d c))
            (h.on (both d c) z (u, d, c, one.step, folded, refl));
        back = λ single c z folded.
            after_one single v u z n p others h.charge d c one.step (h.back single c z folded);
      }

  -- a record that is not taken
  pub no_more : (k : Limits) (v : V) (n : ℕ) (p : Payload) (rest others : Fields)
      → Follows takes l m all k v rest → rest ≡ field n p others → TakesNone takes k n p v
      → IsSingle takes → (c : Charge) (z : V) → Folds takes m all c z → Fits c l → ⊥
  no_more k v n p rest others given is untaken single c z folded fits =
      let h = subst (Follows takes l m all k v) is given in
      let left = h.back single c z folded in
      let (mid, first, more, step, folded_on, sum) = left.folded in
      let inside = (limits.both_fit l h.charge left.charge).0
      (subst (λ x. Fits x l) left.sum fits) in
      let here = (limits.both_fit k first more).0 (subst (λ x. Fits x k) sum
      (subst (Fits left.charge) (sym h.left) inside.1)) in
      untaken first mid (record { step = step; fits = here.0 })

  pub at_end : (k : Limits) (v : V) (rest : Fields) → Follows takes l m all k v rest → rest ≡ none
      → IsCharged l k (λ c. Folds takes m all c v × Fits c l)
  at_end k v rest given is =
      let h = subst (Follows takes l m all k v) is given in
      record {
        charge = h.charge;
        taken = (
          subst (λ x. Folds takes m all x v) (charges.nothing_last h.charge)
              (h.on no_charge v (refl, refl)),
          h.fits,
        );
        left = h.left;
      }

-- what is reached in the end is the value
pub as_value : {V : Type 0} (k : FieldKind V) (owns : Owns) (fs : Fields) (l after : Limits) (v : V)
    → IsCharged l after (λ c. Folds k.takes k.default (picked owns fs) c v × Fits c l)
    → IsCharged l after (λ c. IsValue k owns fs l c v)
as_value k owns fs l after v h = record {
  charge = h.charge;
  taken = record { folded = h.taken.0; fits = h.taken.1 };
  left = h.left;
}

-- ---- one list behind another

folds_joined : ChargesAddUp → {V : Type 0} (takes : Step V) (fs gs : Fields) (m v z : V)
    (c d : Charge) → Folds takes m fs c v → Folds takes v gs d z
    → Folds takes m (joined fs gs) (both c d) z
folds_joined charges takes none gs m v z c d h k =
    subst (λ x. Folds takes m gs x z)
    (sym (ap (λ (x : Charge). both x d) h.0 ∙ charges.nothing_first d))
    (subst (λ x. Folds takes x gs d z) h.1 k)
folds_joined charges takes (field n p fs) gs m v z c d (mid, first, rest, step, more, sum) k = (
  mid,
  first,
  both rest d,
  step,
  folds_joined charges takes fs gs mid v z rest d more k,
  ap (λ (x : Charge). both x d) sum ∙ charges.assoc first rest d,
)

pub get_of_add_lemma : ChargesAddUp → {V : Type 0} (k : FieldKind V) → GetOfAdd k
get_of_add_lemma charges k owns fs more v z c d own before behind =
    subst (λ x. Folds k.takes k.default x (both c d) z)
    (sym (one_leaves_others_lemma.added owns fs more own))
    (folds_joined charges k.takes (picked owns fs) more k.default v z c d before behind)
