-- What decoding leaves is in range, put together as the table of a message is: numbers of their
-- type's width, strings of UTF-8, keys that ascend.
use Rattle.std.proofs.Common.{◌≡◌, ℕ, Bool, true, false, refl, sym, ap, ◌∙◌, subst, List}
use Rattle.std.specs.Prelude.{All, ◌<◌, ◌||◌}
use Rattle.wire_codec.specs.Field.{Payload, Fields, none, field, push}
use Rattle.wire_codec.specs.Folds.{Step, Folds}
use Rattle.wire_codec.specs.InRange.{AreFitting, AreNumbered}
use Rattle.wire_codec.specs.Limits.{Limits, Charge}
use Rattle.wire_codec.specs.Taking.{Decodes}
use Rattle.wire_codec.proofs.Fitting.{read_bytes}
use Rattle.wire_fields.specs.Back.{AllHave, AreOthers}
use Rattle.wire_fields.specs.Dropped.{dropped, drops}
use Rattle.wire_fields.specs.Grounds.{Grounds}
use Rattle.wire_fields.specs.Ranges.{Range, pair_range, others_range, NotOwned, unknown_range, dropped_range}
use Rattle.wire_fields.specs.Shape.{Owns, on, FieldKind, Lawful, Shape, known, two, unknown, keeps}
use Rattle.wire_fields.specs.Short.{AreShort, first_short, second_short}
use Rattle.wire_fields.specs.Sound.{IsSound, AreSound, first_is_sound, others_are_sound}
use Rattle.wire_fields.specs.Sound.{spelled_are_sound, fitting_more, numbered_more}

-- A value that some bytes decode to is in range, where each message and group within it takes no more
-- bytes than a message may, and any other payload has a length that can be written.
abbrev pub DecodesInRange : {V : Type 0} → Shape V → Range V → Type 0
DecodesInRange {V} s r =
    (l : Limits) (bytes : List ℕ) (m : V) → All (λ b. b < 256) bytes
    → Decodes s.takes l s.default bytes m → AreShort (s.records m) → r.Holds m

-- what a kind holds as records leave it, from its default on; such a value is in range where nothing
-- within it takes more bytes than a message may
pub record KindStays {V : Type 0} (k : FieldKind V) (r : Range V) : Type 1 where
  pub Is : V → Type 0
  pub start : Is k.default
  pub step : (n : ℕ) (p : Payload) (c : Charge) (m z : V) → IsSound n p → Is m
      → k.takes m n p c z → Is z
  pub holds : (n : ℕ) (m : V) → Is m → AreShort (k.records n m) → r.Holds m

-- the same of a message
pub record Stays {V : Type 0} (s : Shape V) (r : Range V) : Type 1 where
  pub Is : V → Type 0
  pub start : Is s.default
  pub step : (n : ℕ) (p : Payload) (c : Charge) (m z : V) → IsSound n p → Is m
      → s.takes m n p c z → Is z
  pub holds : (m : V) → Is m → AreShort (s.records m) → r.Holds m

-- the same of some fields of a message, for the records that are theirs, which are known by number
pub record FieldsStay {V : Type 0} (s : Shape V) (r : Range V) : Type 1 where
  pub Is : V → Type 0
  pub start : Is s.default
  pub step : (n : ℕ) (p : Payload) (c : Charge) (m z : V) → IsSound n p → s.owns n p ≡ true → Is m
      → s.takes m n p c z → Is z
  pub holds : (m : V) → Is m → AreShort (s.records m) → r.Holds m
  pub by_number : (n : ℕ) (p q : Payload) → s.owns n p ≡ s.owns n q

-- ---- lists of records

module _ {V : Type 0} (takes : Step V) (Is : V → Type 0)
    (step : (n : ℕ) (p : Payload) (c : Charge) (m z : V) → IsSound n p → Is m → takes m n p c z
    → Is z) where
  pub folds_stay : (fs : Fields) (m z : V) (c : Charge) → AreSound fs → Is m → Folds takes m fs c z
      → Is z
  folds_stay none m z c sound h (charged, is) = subst Is (sym is) h
  folds_stay (field n p rest) m z c sound h (mid, first, others, one, more, sum) =
      folds_stay rest mid z others (others_are_sound n p sound)
      (step n p first m mid (first_is_sound rest sound) h one) more

-- what a message decodes to is in range
pub decodes_in_range : {V : Type 0} {s : Shape V} {r : Range V} → Grounds → Stays s r
    → DecodesInRange s r
decodes_in_range {V} {s} g h l bytes m all (c, taken) short =
    let read = taken.read.fields.read in
    let parts = read_bytes _ bytes _ read all in
    h.holds m
    (folds_stay s.takes h.Is h.step taken.fields s.default m c
    (spelled_are_sound g.fitting g.numbered taken.fields read.text parts.0 read.spelled)
    h.start taken.folded)
    short

-- ---- the tree

abbrev pub known_stays : {V : Type 0} {r : Range V} (n : ℕ) (f : Lawful V)
    → KindStays f.kind r → FieldsStay (known n f) r
known_stays n f h = record {
  Is = h.Is;
  start = h.start;
  step = λ k p c m z sound own. h.step k p c m z sound;
  holds = h.holds n;
  by_number = λ k p q. refl;
}

-- one of two parts takes the record, and the other stays as it is
module _ {A B : Type 0} (one : Step A) (other : Step B) (IsA : A → Type 0) (IsB : B → Type 0)
    (n : ℕ) (p : Payload) (c : Charge) (m z : A × B) where
  pub part_stays : (b : Bool)
      → on b (one m.0 n p c z.0 × (z.1 ≡ m.1)) (other m.1 n p c z.1 × (z.0 ≡ m.0))
      → IsA m.0 → IsB m.1 → (b ≡ true → one m.0 n p c z.0 → IsA z.0)
      → (b ≡ false → other m.1 n p c z.1 → IsB z.1) → IsA z.0 × IsB z.1
  part_stays true h a b first second = (first refl h.0, subst IsB (sym h.1) b)
  part_stays false h a b first second = (subst IsA (sym h.1) a, second refl h.0)

-- where one of two holds, and not the first
pub second_is : (a b : Bool) → (a || b) ≡ true → a ≡ false → b ≡ true
second_is true b own other = absurd cc
second_is false b own other = own

abbrev pub two_stays : {A B : Type 0} {a : Shape A} {b : Shape B} {r : Range A} {q : Range B}
    → FieldsStay a r → FieldsStay b q → FieldsStay (two a b) (pair_range r q)
two_stays {A} {B} {a} {b} x y = record {
  Is = λ m. x.Is m.0 × y.Is m.1;
  start = (x.start, y.start);
  step = λ n p c m z sound own h taken. part_stays a.takes b.takes x.Is y.Is n p c m z (a.owns n p)
      taken h.0 h.1 (λ first. x.step n p c m.0 z.0 sound first h.0)
      (λ other. y.step n p c m.1 z.1 sound (second_is (a.owns n p) (b.owns n p) own other) h.1);
  holds = λ m h short. (
    x.holds m.0 h.0 (first_short (a.records m.0) (b.records m.1) short),
    y.holds m.1 h.1 (second_short (a.records m.0) (b.records m.1) short),
  );
  by_number = λ n p q. ap (λ o. o || b.owns n p) (x.by_number n p q)
      ∙ ap (λ o. a.owns n q || o) (y.by_number n p q);
}

-- ---- unknown fields

others_more : (Other : ℕ → Payload → Type 0) (fs : Fields) (n : ℕ) (p : Payload)
    → AllHave Other fs → Other n p → AllHave Other (push fs n p)
others_more Other none n p h k = (k, tt)
others_more Other (field m q fs) n p h k = (h.0, others_more Other fs n p h.1 k)

-- unknown fields in range, of each of which this holds
pub record AreKept (Other : ℕ → Payload → Type 0) (fs : Fields) : Type 0 where
  pub fitting : AreFitting fs
  pub numbered : AreNumbered fs
  pub others : AllHave Other fs

pub kept_more : (Other : ℕ → Payload → Type 0) (fs : Fields) (n : ℕ) (p : Payload) → IsSound n p
    → AreKept Other fs → Other n p → AreKept Other (push fs n p)
kept_more Other fs n p sound h other = record {
  fitting = fitting_more fs n p h.fitting sound.fits;
  numbered = numbered_more fs n p h.numbered sound.number sound.numbered;
  others = others_more Other fs n p h.others other;
}

pub none_kept : (Other : ℕ → Payload → Type 0) → AreKept Other none
none_kept Other = record { fitting = tt; numbered = tt; others = tt }

-- as the range of unknown fields says it
pub kept_others : (Other : ℕ → Type 0) (fs : Fields) → AreKept (λ n p. Other n) fs
    → AreOthers Other fs
kept_others Other fs h =
    record { fitting = h.fitting; numbered = h.numbered; others = h.others }

-- none of its records has a number that these own
abbrev IsOther : Owns → ℕ → Payload → Type 0
IsOther owns n p = NotOwned owns n

-- the fields, and the unknown ones
abbrev pub whole_stays : {V : Type 0} {s : Shape V} {r : Range V} → FieldsStay s r
    → Stays (two s unknown) (pair_range r (others_range s.owns))
whole_stays {V} {s} x = record {
  Is = λ m. x.Is m.0 × AreKept (IsOther s.owns) m.1;
  start = (x.start, none_kept (IsOther s.owns));
  step = λ n p c m z sound h taken. part_stays s.takes keeps x.Is (AreKept (IsOther s.owns))
      n p c m z (s.owns n p) taken h.0 h.1 (λ own. x.step n p c m.0 z.0 sound own h.0)
      (λ other step. subst (AreKept (IsOther s.owns)) (sym step.1)
      (kept_more (IsOther s.owns) m.1 n p sound h.1 (λ q. x.by_number n q p ∙ other)));
  holds = λ m h short. (
    x.holds m.0 h.0 (first_short (s.records m.0) (unknown.records m.1) short),
    kept_others (NotOwned s.owns) m.1 h.1,
  );
}

-- a message that knows no field
abbrev pub unknown_stays : Stays unknown unknown_range
unknown_stays = record {
  Is = AreKept (IsOther (λ n p. false));
  start = none_kept (IsOther (λ n p. false));
  step = λ n p c m z sound h step. subst (AreKept (IsOther (λ n p. false))) (sym step.1)
      (kept_more (IsOther (λ n p. false)) m n p sound h (λ q. refl));
  holds = λ m h short. kept_others (NotOwned (λ n p. false)) m h;
}

abbrev pub nothing_stays : Stays dropped dropped_range
nothing_stays = record {
  Is = λ m. Unit {0};
  start = tt;
  step = λ n p c m z sound h step. tt;
  holds = λ m h short. tt;
}

-- the fields, and no unknown ones
abbrev pub dropping_stays : {V : Type 0} {s : Shape V} {r : Range V} → FieldsStay s r
    → Stays (two s dropped) (pair_range r dropped_range)
dropping_stays {V} {s} x = record {
  Is = λ m. x.Is m.0 × Unit {0};
  start = (x.start, tt);
  step = λ n p c m z sound h taken. part_stays s.takes drops x.Is (λ k. Unit {0}) n p c m z
      (s.owns n p) taken h.0 h.1 (λ own. x.step n p c m.0 z.0 sound own h.0) (λ other step. tt);
  holds = λ m h short.
      (x.holds m.0 h.0 (first_short (s.records m.0) (dropped.records m.1) short), tt);
}
