-- Fields that leave records to the unknown fields are read back too: what is written of a value is
-- taken into it, and the unknown fields stay as they are.
use Rattle.std.proofs.Common.{◌≡◌, ◌⊎◌, ℕ, true, false, refl, sym, ap, ◌∙◌, subst}
use Rattle.wire_codec.specs.Charge.{charge, payload_charge, total}
use Rattle.wire_codec.specs.Field.{Payload, Fields, none, field, joined, push}
use Rattle.wire_codec.specs.Folds.{Step, IsSingle, Folds}
use Rattle.wire_codec.specs.InRange.{AreFitting, AreNumbered}
use Rattle.wire_codec.specs.Limits.{Charge, both}
use Rattle.wire_codec.specs.Records.{plain, joined_records, of_fields}
use Rattle.wire_codec.specs.TakingLaws.{OneReading}
use Rattle.wire_fields.specs.Back.{AllHave, AllAre, FoldsBack, Back, two_back, fold_on, fold_lifted}
use Rattle.wire_fields.specs.Back.{fitting_joined, numbered_joined, plain_joined, joined_none, push_joined}
use Rattle.wire_fields.specs.Back.{or_left, or_right}
use Rattle.wire_fields.specs.Grounds.{Grounds}
use Rattle.wire_fields.specs.Leaving.{Leaving, leaving_other, leaving_none, both_leaving}
use Rattle.wire_fields.specs.Leaving.{on_first, on_second, with_unknown, keeps_beside}
use Rattle.wire_fields.specs.Ranges.{Range, pair_range}
use Rattle.wire_fields.specs.Returned.{Returned}
use Rattle.wire_fields.specs.Shape.{Owns, on, Shape, keeps}

-- what a step makes of a value where the unknown fields stay as they are
abbrev pub beside_unknown : {V : Type 0} → Fields → Step (V × Fields) → Step V
beside_unknown u step m n p c z = step (m, u) n p c (z, u)

pub beside_unknown_single : {V : Type 0} (u : Fields) (step : Step (V × Fields)) → IsSingle step
    → IsSingle (beside_unknown u step)
beside_unknown_single {V} u step single m k z w n p c d h j =
    let same = single (m, u) (k, u) (z, u) (w, u) n p c d h j in
    (same.0, λ e. ap (λ (x : V × Fields). x.0) (same.1 (ap (λ (x : V). (x, u)) e)))

-- the fields beside these unknown ones
abbrev pub shape_beside : {V : Type 0} → Fields → Leaving V → Shape V
shape_beside u s = record {
  owns = s.owns;
  default = s.default;
  records = s.records;
  takes = beside_unknown u s.takes;
  single = λ reading. beside_unknown_single u s.takes (s.single reading);
}

-- values in range fold back from their records, whatever unknown fields there are
pub record ReturnedBeside {V : Type 0} (s : Leaving V) (r : Range V) : Type 1 where
  pub Has : ℕ → Type 0
  pub back : (u : Fields) → Back (shape_beside u s) r.Holds r.charge_of Has

pub all_true : (fs : Fields) → AllHave (λ n p. true ≡ true) fs
all_true none = tt
all_true (field n p rest) = (refl, all_true rest)

pub all_any : (fs : Fields) → AllAre (λ n. Unit {0}) fs
all_any none = tt
all_any (field n p rest) = (tt, all_any rest)

-- ---- fields that leave the records that are not their own; all that they write are

abbrev pub leaving_back : {V : Type 0} (own : Owns) (s : Shape V) (r : Range V) (x : Returned s r)
    → ((m : V) → r.Holds m → AllHave (λ n p. own n p ≡ true) (plain (s.records m)))
    → ReturnedBeside (leaving_other own s) r
leaving_back own s r x owned = record {
  Has = x.Has;
  back = λ u. record {
    back = λ m holds.
        let h = x.back.back m holds in
        record {
          fitting = h.fitting;
          numbered = h.numbered;
          folded = fold_lifted (λ n p. own n p ≡ true) s.takes
              (beside_unknown u (leaving_other own s).takes) (λ v. v)
              (λ v z n p c is step. subst
              (λ b. on b (s.takes v n p c z × (u ≡ u)) (keeps u n p c u × (z ≡ v))) (sym is)
              (step, refl))
              (plain (s.records m)) s.default m (r.charge_of m) (owned m holds) h.folded;
        };
    has = x.back.has;
    own = x.back.own;
  };
}

abbrev pub none_returned : {V : Type 0} {s : Shape V} {r : Range V} → Returned s r
    → ReturnedBeside (leaving_none s) r
none_returned {V} {s} {r} x =
    leaving_back (λ n p. true) s r x (λ m holds. all_true (plain (s.records m)))

-- ---- two parts

-- no number of the second is the first's own
abbrev pub both_returned : {A B : Type 0} {a : Leaving A} {b : Leaving B} {r : Range A} {q : Range B}
    → Grounds → (x : ReturnedBeside a r) (y : ReturnedBeside b q)
    → ((n : ℕ) (p : Payload) → y.Has n → a.owns n p ≡ false)
    → ReturnedBeside (both_leaving a b) (pair_range r q)
both_returned {A} {B} {a} {b} {r} {q} g x y apart = record {
  Has = λ n. x.Has n ⊎ y.Has n;
  back = λ u.
      let h = two_back (shape_beside u a) (shape_beside u b) r.Holds q.Holds r.charge_of q.charge_of x.Has
      y.Has g.charges (x.back u) (y.back u) apart in
      record { back = h.back; has = h.has; own = h.own };
}

-- ---- unknown fields

-- a record that stays among the unknown fields, whatever the fields hold, for this charge
abbrev pub IsLeftFor : {V : Type 0} → Leaving V → Charge → ℕ → Payload → Type 0
IsLeftFor {V} s c n p = (m : V) (u : Fields) → (with_unknown s).takes (m, u) n p c (m, push u n p)

-- for what any unknown field is charged
abbrev pub IsLeft : {V : Type 0} → Leaving V → ℕ → Payload → Type 0
IsLeft s n p = IsLeftFor s (payload_charge p) n p

-- records in range, each of which is left for its charge
pub record AreLeftFor {V : Type 0} (s : Leaving V) (charge_of : ℕ → Payload → Charge) (fs : Fields)
    : Type 0 where
  pub fitting : AreFitting fs
  pub numbered : AreNumbered fs
  pub left : AllHave (λ n p. IsLeftFor s (charge_of n p) n p) fs

abbrev pub AreLeft : {V : Type 0} → Leaving V → Fields → Type 0
AreLeft s = AreLeftFor s (λ n p. payload_charge p)

abbrev pub left_range : {V : Type 0} → Leaving V → Range Fields
left_range s = record { Holds = AreLeft s; charge_of = charge }

-- A field that reads a record before it leaves it charges for the reading too. So for a table with
-- such fields it is given what each record is charged.
abbrev pub charged_range : {V : Type 0} → Leaving V → (ℕ → Payload → Charge) → Range Fields
charged_range s charge_of = record { Holds = AreLeftFor s charge_of; charge_of = total charge_of }

-- the bytes of a record force what it is charged
pub one_charge : {V : Type 0} → OneReading → (s : Leaving V) (n : ℕ) (p : Payload) (c d : Charge)
    → IsLeftFor s c n p → IsLeftFor s d n p → c ≡ d
one_charge reading s n p c d h k =
    ((with_unknown s).single reading (s.default, none) (s.default, none)
    (s.default, push none n p) (s.default, push none n p) n p c d (h s.default none)
    (k s.default none)).0

-- a record with a number that the fields do not have is left
pub not_owned_left : {V : Type 0} (s : Leaving V) (n : ℕ) (p : Payload) → s.owns n p ≡ false
    → IsLeft s n p
not_owned_left s n p is m u =
    subst (λ b. on b (s.takes (m, u) n p (payload_charge p) (m, push u n p))
    (keeps_beside (m, u) n p (payload_charge p) (m, push u n p))) (sym is) ((refl, refl), refl)

-- a record that is the fields' own, and which they leave for this charge
pub record LeavesFor {V : Type 0} (s : Leaving V) (c : Charge) (n : ℕ) (p : Payload) : Type 0 where
  pub own : s.owns n p ≡ true
  pub left : (m : V) (u : Fields) → s.takes (m, u) n p c (m, push u n p)

abbrev pub Leaves : {V : Type 0} → Leaving V → ℕ → Payload → Type 0
Leaves s n p = LeavesFor s (payload_charge p) n p

pub leaves_left : {V : Type 0} {c : Charge} (s : Leaving V) (n : ℕ) (p : Payload)
    → LeavesFor s c n p → IsLeftFor s c n p
leaves_left {V} {c} s n p h m u =
    subst (λ b. on b (s.takes (m, u) n p c (m, push u n p))
    (keeps_beside (m, u) n p c (m, push u n p))) (sym h.own) (h.left m u)

-- one that has the number of fields, and is not their own
pub other_leaves : {V : Type 0} (own : Owns) (s : Shape V) (n : ℕ) (p : Payload)
    → s.owns n p ≡ true → own n p ≡ false → Leaves (leaving_other own s) n p
other_leaves own s n p owned other = record {
  own = owned;
  left = λ m u. subst (λ b. on b
      (s.takes m n p (payload_charge p) m × (push u n p ≡ u))
      (keeps u n p (payload_charge p) (push u n p) × (m ≡ m))) (sym other) ((refl, refl), refl);
}

-- in a tree
module _ {A B : Type 0} {c : Charge} (a : Leaving A) (b : Leaving B) (n : ℕ) (p : Payload) where
  pub leaves_first : LeavesFor a c n p → LeavesFor (both_leaving a b) c n p
  leaves_first h = record {
    own = or_left (a.owns n p) (b.owns n p) h.own;
    left = λ m u. subst
        (λ t. on t (on_first a.takes (m, u) n p c (m, push u n p))
        (on_second b.takes (m, u) n p c (m, push u n p))) (sym h.own)
        (h.left m.0 u, refl);
  }

  pub leaves_second : a.owns n p ≡ false → LeavesFor b c n p → LeavesFor (both_leaving a b) c n p
  leaves_second apart h = record {
    own = or_right (a.owns n p) (b.owns n p) h.own;
    left = λ m u. subst
        (λ t. on t (on_first a.takes (m, u) n p c (m, push u n p))
        (on_second b.takes (m, u) n p c (m, push u n p))) (sym apart)
        (h.left m.1 u, refl);
  }

-- ---- a message

module _ {V : Type 0} (g : Grounds) (s : Leaving V) (r : Range V) (x : ReturnedBeside s r) where
  -- each record that is left goes behind the others
  left_folded : (charge_of : ℕ → Payload → Charge) (m : V) (into fs : Fields)
      → AllHave (λ n p. IsLeftFor s (charge_of n p) n p) fs
      → Folds (with_unknown s).takes (m, into) fs (total charge_of fs) (m, joined into fs)
  left_folded charge_of m into none h = (refl, ap (λ u. (m, u)) (joined_none into))
  left_folded charge_of m into (field n p rest) h = (
    (m, push into n p),
    charge_of n p,
    total charge_of rest,
    h.0 m into,
    subst (λ u. Folds (with_unknown s).takes (m, push into n p) rest (total charge_of rest) (m, u))
        (push_joined into n p rest) (left_folded charge_of m (push into n p) rest h.1),
    refl,
  )

  whole_folded : (charge_of : ℕ → Payload → Charge) (m : V × Fields)
      → (pair_range r (charged_range s charge_of)).Holds m
      → Folds (with_unknown s).takes (with_unknown s).default (joined (plain (s.records m.0)) m.1)
      (both (r.charge_of m.0) (total charge_of m.1)) m
  whole_folded charge_of m h =
      let t = with_unknown s in
      let fs = plain (s.records m.0) in
      let known = fold_lifted (λ n p. x.Has n) (beside_unknown none s.takes) t.takes
      (λ v. (v, none))
      (λ v z n p c is step. subst
      (λ b. on b (s.takes (v, none) n p c (z, none)) (keeps_beside (v, none) n p c (z, none)))
      (sym ((x.back none).own n p is)) step)
      fs s.default m.0 (r.charge_of m.0) ((x.back none).has m.0 h.0)
      ((x.back none).back m.0 h.0).folded in
      fold_on t.takes g.charges fs m.1 t.default (m.0, none) m (r.charge_of m.0)
      (total charge_of m.1) known (left_folded charge_of m.0 none m.1 h.1.left)

  whole_back : (charge_of : ℕ → Payload → Charge) (m : V × Fields)
      → (pair_range r (charged_range s charge_of)).Holds m
      → FoldsBack (with_unknown s).takes (with_unknown s).default
      (plain ((with_unknown s).records m)) (both (r.charge_of m.0) (total charge_of m.1)) m
  whole_back charge_of m h =
      let t = with_unknown s in
      let fs = plain (s.records m.0) in
      let inner = (x.back none).back m.0 h.0 in
      subst (λ y. FoldsBack t.takes t.default y (both (r.charge_of m.0) (total charge_of m.1)) m)
      (sym (plain_joined (s.records m.0) (of_fields m.1) ∙ ap (joined fs) (g.plain.plain m.1)))
      (record {
        fitting = fitting_joined fs m.1 inner.fitting h.1.fitting;
        numbered = numbered_joined fs m.1 inner.numbered h.1.numbered;
        folded = whole_folded charge_of m h;
      })

  pub charged_returned : (charge_of : ℕ → Payload → Charge)
      → Returned (with_unknown s) (pair_range r (charged_range s charge_of))
  charged_returned charge_of = record {
    Has = λ n. Unit {0};
    back = record {
      back = whole_back charge_of;
      has = λ m h. all_any (plain (joined_records (s.records m.0) (of_fields m.1)));
      own = λ n p h. refl;
    };
  }

  pub with_unknown_returned : Returned (with_unknown s) (pair_range r (left_range s))
  with_unknown_returned = record {
    Has = λ n. Unit {0};
    back = record {
      back = λ m h. subst (λ c. FoldsBack (with_unknown s).takes (with_unknown s).default
          (plain ((with_unknown s).records m)) (both (r.charge_of m.0) c) m)
          (sym (g.charges.kept_records m.1))
          (whole_back (λ n p. payload_charge p) m h);
      has = λ m h. all_any (plain (joined_records (s.records m.0) (of_fields m.1)));
      own = λ n p h. refl;
    };
  }
