-- What decoding leaves of fields that leave records to the unknown fields is in range: these leave
-- each such record again.
use Rattle.std.proofs.Common.{◌≡◌, ℕ, Bool, true, false, refl, sym, ap, ◌∙◌, subst}
use Rattle.std.specs.Prelude.{◌||◌}
use Rattle.wire_codec.specs.Charge.{payload_charge}
use Rattle.wire_codec.specs.Field.{Payload, Fields}
use Rattle.wire_codec.specs.Limits.{Charge}
use Rattle.wire_codec.specs.Records.{of_fields}
use Rattle.wire_fields.specs.Leaving.{Leaving, leaving_other, leaving_none, leaving_types}
use Rattle.wire_fields.specs.Leaving.{of_types, both_leaving, with_unknown, keeps_beside}
use Rattle.wire_fields.specs.Leaving.{on_first, on_second}
use Rattle.wire_fields.specs.declared.leaving.OwnTypes.{OwnTypes}
use Rattle.wire_fields.specs.LeavingBack.{IsLeftFor, AreLeftFor, LeavesFor, leaves_left}
use Rattle.wire_fields.specs.LeavingBack.{leaves_first, leaves_second, left_range, charged_range}
use Rattle.wire_fields.specs.LeavingBack.{not_owned_left, other_leaves}
use Rattle.wire_fields.specs.Ranges.{Range, pair_range}
use Rattle.wire_fields.specs.Shape.{Owns, on, Lawful, Shape, keeps}
use Rattle.wire_fields.specs.Short.{AreShort, first_short, second_short}
use Rattle.wire_fields.specs.Sound.{IsSound}
use Rattle.wire_fields.specs.Stays.{KindStays, Stays, FieldsStay, AreKept, kept_more, none_kept}
use Rattle.wire_fields.specs.Stays.{known_stays}
use Rattle.wire_fields.specs.StaysMessages.{anywhere}

-- where a step leads: the fields as this says, beside unknown fields of each of which this holds
abbrev pub StandsBeside : {V : Type 0} → (V → Type 0) → (ℕ → Payload → Type 0) → V × Fields → Type 0
StandsBeside Is Left m = Is m.0 × AreKept Left m.1

-- What some fields hold as the records leave it that are theirs and have a number of this kind. Of
-- what they leave to the unknown fields, each is left again, for what it is charged here.
pub record LeavingStays {V : Type 0} (s : Leaving V) (r : Range V) (charge_of : ℕ → Payload → Charge)
    (Here : ℕ → Type 0) : Type 1 where
  pub Is : V → Type 0
  pub start : Is s.default
  pub step : (Left : ℕ → Payload → Type 0) (n : ℕ) (p : Payload)
      → ((q : Payload) → LeavesFor s (charge_of n q) n q → Left n q)
      → (c : Charge) (m z : V × Fields) → IsSound n p → Here n → s.owns n p ≡ true
      → StandsBeside Is Left m → s.takes m n p c z → StandsBeside Is Left z
  pub holds : (m : V) → Is m → AreShort (s.records m) → r.Holds m
  pub by_number : (n : ℕ) (p q : Payload) → s.owns n p ≡ s.owns n q

-- ---- fields that leave the records that are not their own

module _ {V : Type 0} {s : Shape V} {r : Range V} (own : Owns) (x : FieldsStay s r)
    (Left : ℕ → Payload → Type 0) (n : ℕ) (p : Payload) (c : Charge) (m z : V × Fields)
    (sound : IsSound n p) (owned : s.owns n p ≡ true) where
  pub own_or_left : (b : Bool) → (b ≡ false → Left n p) → StandsBeside x.Is Left m
      → on b (s.takes m.0 n p c z.0 × (z.1 ≡ m.1)) (keeps m.1 n p c z.1 × (z.0 ≡ m.0))
      → StandsBeside x.Is Left z
  own_or_left true left h taken = (
    x.step n p c m.0 z.0 sound owned h.0 taken.0,
    subst (AreKept Left) (sym taken.1) h.1,
  )
  own_or_left false left h taken = (
    subst x.Is (sym taken.1) h.0,
    subst (AreKept Left) (sym taken.0.1) (kept_more Left m.1 n p sound h.1 (left refl)),
  )

abbrev pub other_stays : {V : Type 0} {s : Shape V} {r : Range V} {Here : ℕ → Type 0} (own : Owns)
    → FieldsStay s r → LeavingStays (leaving_other own s) r (λ n p. payload_charge p) Here
other_stays {V} {s} own x = record {
  Is = x.Is;
  start = x.start;
  step = λ Left n p on_left c m z sound here owned.
      own_or_left own x Left n p c m z sound owned (own n p)
      (λ other. on_left p (other_leaves own s n p owned other));
  holds = x.holds;
  by_number = x.by_number;
}

-- one field that leaves the records of other wire types
abbrev pub types_stay : {V : Type 0} {r : Range V} {Here : ℕ → Type 0} (types : OwnTypes) (n : ℕ)
    (f : Lawful V) → KindStays f.kind r
    → LeavingStays (leaving_types types n f) r (λ n p. payload_charge p) Here
types_stay types n f h = other_stays (of_types types) (known_stays n f h)

-- fields that leave nothing
abbrev pub none_stays : {V : Type 0} {s : Shape V} {r : Range V} {charge_of : ℕ → Payload → Charge}
    {Here : ℕ → Type 0} → FieldsStay s r → LeavingStays (leaving_none s) r charge_of Here
none_stays {V} {s} {r} {charge_of} x = record {
  Is = x.Is;
  start = x.start;
  step = λ Left n p on_left c m z sound here owned h taken. (
    x.step n p c m.0 z.0 sound owned h.0 taken.0,
    subst (AreKept Left) (sym taken.1) h.1,
  );
  holds = x.holds;
  by_number = x.by_number;
}

-- ---- two parts

module _ {A B : Type 0} {a : Leaving A} {b : Leaving B} {r : Range A} {q : Range B}
    {charge_of : ℕ → Payload → Charge} {Here : ℕ → Type 0} (x : LeavingStays a r charge_of Here)
    (y : LeavingStays b q charge_of Here) where
  abbrev BothAre : A × B → Type 0
  BothAre m = x.Is m.0 × y.Is m.1

  module _ (Left : ℕ → Payload → Type 0) (n : ℕ) (p : Payload)
      (on_left : (q : Payload) → LeavesFor (both_leaving a b) (charge_of n q) n q → Left n q)
      (c : Charge) (m z : (A × B) × Fields) (sound : IsSound n p) (here : Here n)
      (h : StandsBeside BothAre Left m) where
    pub part_takes : (t u : Bool) → a.owns n p ≡ t → b.owns n p ≡ u → (t || u) ≡ true
        → on t (on_first a.takes m n p c z) (on_second b.takes m n p c z)
        → StandsBeside BothAre Left z
    part_takes true u first second own taken =
        let after = x.step Left n p (λ k leaves. on_left k (leaves_first a b n k leaves)) c
        (m.0.0, m.1) (z.0.0, z.1) sound here first (h.0.0, h.1) taken.0 in
        ((after.0, subst y.Is (sym taken.1) h.0.1), after.1)
    part_takes false u first second own taken =
        let after = y.step Left n p
        (λ k leaves. on_left k (leaves_second a b n k (x.by_number n k p ∙ first) leaves)) c
        (m.0.1, m.1) (z.0.1, z.1) sound here (second ∙ own) (h.0.1, h.1) taken.0 in
        ((subst x.Is (sym taken.1) h.0.0, after.0), after.1)

  abbrev pub both_stay : LeavingStays (both_leaving a b) (pair_range r q) charge_of Here
  both_stay = record {
    Is = BothAre;
    start = (x.start, y.start);
    step = λ Left n p on_left c m z sound here own h.
        part_takes Left n p on_left c m z sound here h (a.owns n p) (b.owns n p) refl refl own;
    holds = λ m h short. (
      x.holds m.0 h.0 (first_short (a.records m.0) (b.records m.1) short),
      y.holds m.1 h.1 (second_short (a.records m.0) (b.records m.1) short),
    );
    by_number = λ n p q. ap (λ o. o || b.owns n p) (x.by_number n p q)
        ∙ ap (λ o. a.owns n q || o) (y.by_number n p q);
  }

-- ---- a message

-- a record that no field owns is charged as an unknown field
abbrev pub ChargesOthers : {V : Type 0} → Leaving V → (ℕ → Payload → Charge) → Type 0
ChargesOthers s charge_of =
    (n : ℕ) (p : Payload) → s.owns n p ≡ false → charge_of n p ≡ payload_charge p

module _ {V : Type 0} {s : Leaving V} {r : Range V} {charge_of : ℕ → Payload → Charge}
    (others : ChargesOthers s charge_of) (x : LeavingStays s r charge_of anywhere) where
  abbrev IsLeftHere : ℕ → Payload → Type 0
  IsLeftHere n p = IsLeftFor s (charge_of n p) n p

  own_or_kept : (n : ℕ) (p : Payload) (c : Charge) (m z : V × Fields) → IsSound n p → (b : Bool)
      → s.owns n p ≡ b → StandsBeside x.Is IsLeftHere m
      → on b (s.takes m n p c z) (keeps_beside m n p c z) → StandsBeside x.Is IsLeftHere z
  own_or_kept n p c m z sound true own h taken =
      x.step IsLeftHere n p (λ q leaves. leaves_left s n q leaves) c m z sound tt own h taken
  own_or_kept n p c m z sound false other h taken = (
    subst x.Is (sym taken.1) h.0,
    subst (AreKept IsLeftHere) (sym taken.0.1)
        (kept_more IsLeftHere m.1 n p sound h.1
        (subst (λ d. IsLeftFor s d n p) (sym (others n p other)) (not_owned_left s n p other))),
  )

  kept_left : (fs : Fields) → AreKept IsLeftHere fs → AreLeftFor s charge_of fs
  kept_left fs h = record { fitting = h.fitting; numbered = h.numbered; left = h.others }

  pub charged_stays : Stays (with_unknown s) (pair_range r (charged_range s charge_of))
  charged_stays = record {
    Is = StandsBeside x.Is IsLeftHere;
    start = (x.start, none_kept IsLeftHere);
    step = λ n p c m z sound. own_or_kept n p c m z sound (s.owns n p) refl;
    holds = λ m h short.
        (x.holds m.0 h.0 (first_short (s.records m.0) (of_fields m.1) short), kept_left m.1 h.1);
  }

-- where each record that is left is charged as any unknown field
abbrev pub with_unknown_stays : {V : Type 0} {s : Leaving V} {r : Range V}
    → LeavingStays s r (λ n p. payload_charge p) anywhere
    → Stays (with_unknown s) (pair_range r (left_range s))
with_unknown_stays x =
    let h = charged_stays (λ n p other. refl) x in
    record { Is = h.Is; start = h.start; step = h.step; holds = h.holds }
