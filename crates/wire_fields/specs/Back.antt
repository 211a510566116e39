-- What is written of a value is read back. The records of a shape have numbers and lengths in range
-- and fold back to the value; that of a message follows from those of its fields.
use Rattle.std.proofs.Common.{◌≡◌, ◌⊎◌, inl, inr, ℕ, Bool, true, false, refl, sym, ap, ◌∙◌, subst}
use Rattle.std.proofs.lemmas.Bool.Decides.{eqb_tells}
use Rattle.std.specs.Prelude.{◌==◌, ◌||◌}
use Rattle.wire_codec.specs.Charge.{payload_charge, charge}
use Rattle.wire_codec.specs.Field.{Payload, Fields, none, field, joined, push}
use Rattle.wire_codec.specs.FieldNumber.{IsFieldNumber}
use Rattle.wire_codec.specs.Folds.{Step, Folds}
use Rattle.wire_codec.specs.InRange.{AreFitting, AreNumbered}
use Rattle.wire_codec.specs.Laws.{FieldsArePlain}
use Rattle.wire_codec.specs.Limits.{Charge, both}
use Rattle.wire_codec.specs.LimitsLaws.{ChargesAddUp}
use Rattle.wire_codec.specs.Records as values
use Rattle.wire_codec.specs.Records.{Records, plain, plain_payload, of_fields}
use Rattle.wire_fields.specs.Shape.{Owns, on, either, Shape, FieldKind, Lawful, two, known, unknown, keeps}

-- each record is of this kind
abbrev pub AllHave : (ℕ → Payload → Type 0) → Fields → Type 0
AllHave Is none = Unit {0}
AllHave Is (field n p rest) = Is n p × AllHave Is rest

-- each has a number of this kind
abbrev pub AllAre : (ℕ → Type 0) → Fields → Type 0
AllAre Is = AllHave (λ n p. Is n)

-- some records are in range, and the value is what the default becomes by them for this charge
pub record FoldsBack {V : Type 0} (takes : Step V) (start : V) (fs : Fields) (c : Charge) (m : V)
    : Type 0 where
  pub fitting : AreFitting fs
  pub numbered : AreNumbered fs
  pub folded : Folds takes start fs c m

-- The values of which this holds fold back for their charge, and their records have these numbers,
-- which are the shape's own.
pub record Back {V : Type 0} (s : Shape V) (Holds : V → Type 0) (charge_of : V → Charge)
    (Has : ℕ → Type 0) : Type 0 where
  pub back : (m : V) → Holds m
      → FoldsBack s.takes s.default (plain (s.records m)) (charge_of m) m
  pub has : (m : V) → Holds m → AllAre Has (plain (s.records m))
  pub own : (n : ℕ) (p : Payload) → Has n → s.owns n p ≡ true

-- the same of a kind of field, under whatever number
pub record KindBack {V : Type 0} (k : FieldKind V) (Holds : V → Type 0) (charge_of : V → Charge)
    : Type 0 where
  pub back : (n : ℕ) → IsFieldNumber n → (m : V) → Holds m
      → FoldsBack k.takes k.default (plain (k.records n m)) (charge_of m) m
  pub has : (n : ℕ) (m : V) → Holds m → AllAre (λ j. j ≡ n) (plain (k.records n m))

-- ---- lists of records

pub all_joined : (Is : ℕ → Payload → Type 0) (fs gs : Fields) → AllHave Is fs → AllHave Is gs
    → AllHave Is (joined fs gs)
all_joined Is none gs h k = k
all_joined Is (field n p rest) gs h k = (h.0, all_joined Is rest gs h.1 k)

pub all_weaker : (Is Other : ℕ → Type 0) → ((n : ℕ) → Is n → Other n) → (fs : Fields) → AllAre Is fs
    → AllAre Other fs
all_weaker Is Other on none h = tt
all_weaker Is Other on (field n p rest) h = (on n h.0, all_weaker Is Other on rest h.1)

pub fitting_joined : (fs gs : Fields) → AreFitting fs → AreFitting gs → AreFitting (joined fs gs)
fitting_joined none gs h k = k
fitting_joined (field n p rest) gs h k = (h.0, fitting_joined rest gs h.1 k)

pub numbered_joined : (fs gs : Fields) → AreNumbered fs → AreNumbered gs → AreNumbered (joined fs gs)
numbered_joined none gs h k = k
numbered_joined (field n p rest) gs h k = (h.0, h.1, numbered_joined rest gs h.2 k)

pub plain_joined : (rs qs : Records)
    → plain (values.joined_records rs qs) ≡ joined (plain rs) (plain qs)
plain_joined values.none qs = refl
plain_joined (values.field n p rest) qs = ap (field n (plain_payload p)) (plain_joined rest qs)

-- one list after another
pub fold_on : {V : Type 0} (takes : Step V) → ChargesAddUp → (fs gs : Fields) (m u z : V)
    (c d : Charge) → Folds takes m fs c u → Folds takes u gs d z
    → Folds takes m (joined fs gs) (both c d) z
fold_on takes charges none gs m u z c d h k =
    subst (λ x. Folds takes m gs x z) (sym (ap (λ x. both x d) h.0 ∙ charges.nothing_first d))
    (subst (λ x. Folds takes x gs d z) h.1 k)
fold_on takes charges (field n p others) gs m u z c d (mid, first, rest, step, more, sum) k = (
  mid,
  first,
  both rest d,
  step,
  fold_on takes charges others gs mid u z rest d more k,
  ap (λ x. both x d) sum ∙ charges.assoc first rest d,
)

-- a step that takes, of such records, what another takes of a part of its value
module _ {V W : Type 0} (Is : ℕ → Payload → Type 0) (one : Step V) (other : Step W) (put : V → W)
    (on : (m z : V) (n : ℕ) (p : Payload) (c : Charge) → Is n p → one m n p c z
    → other (put m) n p c (put z)) where
  pub fold_lifted : (fs : Fields) (m z : V) (c : Charge) → AllHave Is fs → Folds one m fs c z
      → Folds other (put m) fs c (put z)
  fold_lifted none m z c has h = (h.0, ap put h.1)
  fold_lifted (field n p others) m z c has (mid, first, rest, step, more, sum) = (
    put mid,
    first,
    rest,
    on m mid n p first has.0 step,
    fold_lifted others mid z rest has.1 more,
    sum,
  )

-- ---- two parts

module _ {A B : Type 0} (owns : Owns) (one : Step A) (other : Step B) (Has : ℕ → Type 0) where
  fold_first : ((n : ℕ) (p : Payload) → Has n → owns n p ≡ true) → (fs : Fields) (b : B) (m z : A)
      (c : Charge) → AllAre Has fs → Folds one m fs c z
      → Folds (either owns one other) (m, b) fs c (z, b)
  fold_first own fs b m z c has folded =
      fold_lifted (λ n p. Has n) one (either owns one other) (λ a. (a, b))
      (λ u v n p d is step. subst
      (λ t. on t (one u n p d v × (b ≡ b)) (other b n p d b × (v ≡ u))) (sym (own n p is))
      (step, refl))
      fs m z c has folded

  fold_second : ((n : ℕ) (p : Payload) → Has n → owns n p ≡ false) → (fs : Fields) (a : A) (m z : B)
      (c : Charge) → AllAre Has fs → Folds other m fs c z
      → Folds (either owns one other) (a, m) fs c (a, z)
  fold_second apart fs a m z c has folded =
      fold_lifted (λ n p. Has n) other (either owns one other) (λ b. (a, b))
      (λ u v n p d is step. subst
      (λ t. on t (one a n p d a × (v ≡ u)) (other u n p d v × (a ≡ a))) (sym (apart n p is))
      (step, refl))
      fs m z c has folded

pub or_left : (a b : Bool) → a ≡ true → (a || b) ≡ true
or_left true b h = refl
or_left false b h = absurd cc

pub or_right : (a b : Bool) → b ≡ true → (a || b) ≡ true
or_right true b h = refl
or_right false b h = h

-- two shapes, where no number of the second is the first's own
module _ {A B : Type 0} (a : Shape A) (b : Shape B) (HoldsA : A → Type 0) (HoldsB : B → Type 0)
    (charge_a : A → Charge) (charge_b : B → Charge) (HasA HasB : ℕ → Type 0)
    (charges : ChargesAddUp) (ha : Back a HoldsA charge_a HasA) (hb : Back b HoldsB charge_b HasB)
    (apart : (n : ℕ) (p : Payload) → HasB n → a.owns n p ≡ false) where
  two_folded : (m : A × B) → HoldsA m.0 → HoldsB m.1
      → Folds (two a b).takes (two a b).default (joined (plain (a.records m.0)) (plain (b.records m.1)))
      (both (charge_a m.0) (charge_b m.1)) m
  two_folded m h k =
      let fs = plain (a.records m.0) in
      let gs = plain (b.records m.1) in
      let first = fold_first a.owns a.takes b.takes HasA ha.own fs b.default a.default m.0
      (charge_a m.0) (ha.has m.0 h) (ha.back m.0 h).folded in
      let second = fold_second a.owns a.takes b.takes HasB apart gs m.0 b.default m.1
      (charge_b m.1) (hb.has m.1 k) (hb.back m.1 k).folded in
      fold_on (either a.owns a.takes b.takes) charges fs gs (a.default, b.default)
      (m.0, b.default) (m.0, m.1) (charge_a m.0) (charge_b m.1) first second

  pub two_back : Back (two a b) (λ m. HoldsA m.0 × HoldsB m.1)
      (λ m. both (charge_a m.0) (charge_b m.1)) (λ n. HasA n ⊎ HasB n)
  two_back = record {
    back = λ m h.
        let fs = plain (a.records m.0) in
        let gs = plain (b.records m.1) in
        let one = ha.back m.0 h.0 in
        let other = hb.back m.1 h.1 in
        subst (λ x. FoldsBack (two a b).takes (two a b).default x
        (both (charge_a m.0) (charge_b m.1)) m)
        (sym (plain_joined (a.records m.0) (b.records m.1)))
        (record {
          fitting = fitting_joined fs gs one.fitting other.fitting;
          numbered = numbered_joined fs gs one.numbered other.numbered;
          folded = two_folded m h.0 h.1;
        });
    has = λ m h. subst (AllAre (λ n. HasA n ⊎ HasB n))
        (sym (plain_joined (a.records m.0) (b.records m.1)))
        (all_joined (λ n p. HasA n ⊎ HasB n) (plain (a.records m.0)) (plain (b.records m.1))
        (all_weaker HasA (λ n. HasA n ⊎ HasB n) (λ n x. inl x) (plain (a.records m.0))
        (ha.has m.0 h.0))
        (all_weaker HasB (λ n. HasA n ⊎ HasB n) (λ n x. inr x) (plain (b.records m.1))
        (hb.has m.1 h.1)));
    own = λ n p. elim [
      | inl h ↦ or_left (a.owns n p) (b.owns n p) (ha.own n p h)
      | inr h ↦ or_right (a.owns n p) (b.owns n p) (hb.own n p h)
    ];
  }

-- ---- one field

pub same_owned : (n j : ℕ) → j ≡ n → (j == n) ≡ true
same_owned n j e = elim (eqb_tells j n) [ inl h ↦ h.0 | inr h ↦ absurd (h.1 e) ]

pub known_back : {V : Type 0} (n : ℕ) (f : Lawful V) (Holds : V → Type 0) (charge_of : V → Charge)
    → IsFieldNumber n → KindBack f.kind Holds charge_of
    → Back (known n f) Holds charge_of (λ j. j ≡ n)
known_back n f Holds charge_of is h = record {
  back = h.back n is;
  has = h.has n;
  own = λ j p. same_owned n j;
}

-- ---- unknown fields

pub joined_none : (fs : Fields) → joined fs none ≡ fs
joined_none none = refl
joined_none (field n p rest) = ap (field n p) (joined_none rest)

pub push_joined : (fs : Fields) (n : ℕ) (p : Payload) (gs : Fields)
    → joined (push fs n p) gs ≡ joined fs (field n p gs)
push_joined none n p gs = refl
push_joined (field k q rest) n p gs = ap (field k q) (push_joined rest n p gs)

pub kept_fold : (m fs : Fields) → Folds keeps m fs (charge fs) (joined m fs)
kept_fold m none = (refl, joined_none m)
kept_fold m (field n p rest) = (
  push m n p,
  payload_charge p,
  charge rest,
  (refl, refl),
  subst (λ x. Folds keeps (push m n p) rest (charge rest) x) (push_joined m n p rest)
      (kept_fold (push m n p) rest),
  refl,
)

-- unknown fields that are in range, and none of which has a number that the type knows
pub record AreOthers (Other : ℕ → Type 0) (fs : Fields) : Type 0 where
  pub fitting : AreFitting fs
  pub numbered : AreNumbered fs
  pub others : AllAre Other fs

pub unknown_back : FieldsArePlain → (Other : ℕ → Type 0)
    → Back unknown (AreOthers Other) charge Other
unknown_back same Other = record {
  back = λ m h. subst (λ x. FoldsBack keeps none x (charge m) m) (sym (same.plain m)) (record {
    fitting = h.fitting;
    numbered = h.numbered;
    folded = kept_fold none m;
  });
  has = λ m h. subst (AllAre Other) (sym (same.plain m)) h.others;
  own = λ n p h. refl;
}
