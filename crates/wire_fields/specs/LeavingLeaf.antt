-- Leaves of messages that hold themselves or one another which leave records to the unknown fields,
-- or keep no unknown fields.
use Rattle.std.proofs.Common.{◌≡◌, ◌⊎◌, inl, inr, ℕ, Bool, true, false, refl, sym, ap, ◌∙◌, subst}
use Rattle.std.specs.Prelude.{⊤}
use Rattle.wire_codec.specs.Charge.{payload_charge}
use Rattle.wire_codec.specs.Field.{Payload, Fields, none, field, joined}
use Rattle.wire_codec.specs.Limits.{Charge}
use Rattle.wire_codec.specs.Records.{plain, of_fields}
use Rattle.wire_fields.specs.Back.{AllHave, AllAre, all_joined, all_weaker, plain_joined, two_back}
use Rattle.wire_fields.specs.Dropped.{dropped, drops}
use Rattle.wire_fields.specs.Grounds.{Grounds}
use Rattle.wire_fields.specs.Leaving.{Leaving, with_unknown, keeps_beside}
use Rattle.wire_fields.specs.LeavingBack.{ReturnedBeside, AreLeft, AreLeftFor, IsLeftFor}
use Rattle.wire_fields.specs.LeavingBack.{left_range, charged_range, charged_returned}
use Rattle.wire_fields.specs.LeavingBack.{with_unknown_returned, leaves_left, not_owned_left}
use Rattle.wire_fields.specs.NestRange.{GoesToLeaf, IsReadBack}
use Rattle.wire_fields.specs.NestTable.{Table}
use Rattle.wire_fields.specs.Ranges.{Range, pair_range, dropped_range}
use Rattle.wire_fields.specs.Returned.{Returned, nothing_returned}
use Rattle.wire_fields.specs.Shape.{Shape, on, two}
use Rattle.wire_fields.specs.Short.{first_short}
use Rattle.wire_fields.specs.Sound.{IsSound}
use Rattle.wire_fields.specs.Stays.{FieldsStay, AreKept, part_stays, kept_more, none_kept}
use Rattle.wire_fields.specs.StaysLeaf.{StepStays}
use Rattle.wire_fields.specs.StaysLeaving.{LeavingStays, StandsBeside, ChargesOthers}
use Rattle.wire_fields.specs.StaysMessages.{anywhere}

-- ---- fields that leave records

-- the fields have numbers that go to the leaf
leaving_numbers : {L V : Type 0} → Grounds → (t : Table L) (s : Leaving V) (r : Range V)
    (x : ReturnedBeside s r) → ((n : ℕ) → x.Has n → GoesToLeaf t n) → (l : V × Fields)
    → r.Holds l.0 → AllAre (GoesToLeaf t) l.1
    → AllAre (GoesToLeaf t) (plain ((with_unknown s).records l))
leaving_numbers g t s r x here l holds others =
    subst (AllAre (GoesToLeaf t))
    (sym (plain_joined (s.records l.0) (of_fields l.1)
    ∙ ap (joined (plain (s.records l.0))) (g.plain.plain l.1)))
    (all_joined (λ n p. GoesToLeaf t n) (plain (s.records l.0)) l.1
    (all_weaker x.Has (GoesToLeaf t) here (plain (s.records l.0))
    ((x.back none).has l.0 holds)) others)

-- unknown fields that are left, with numbers that go to no row
abbrev pub left_here : {L V : Type 0} → Table L → Leaving V → Range Fields
left_here t s = record {
  Holds = λ fs. AreLeft s fs × AllAre (GoesToLeaf t) fs;
  charge_of = (left_range s).charge_of;
}

abbrev pub leaving_leaf_range : {L V : Type 0} → Table L → Leaving V → Range V → Range (V × Fields)
leaving_leaf_range t s r = pair_range r (left_here t s)

pub leaving_leaf_back : {L V : Type 0} → Grounds → (t : Table L) (s : Leaving V) (r : Range V)
    (x : ReturnedBeside s r) → ((n : ℕ) → x.Has n → GoesToLeaf t n)
    → IsReadBack (with_unknown s).takes (with_unknown s).default (with_unknown s).records
    (GoesToLeaf t) (leaving_leaf_range t s r)
leaving_leaf_back g t s r x here l holds = (
  (with_unknown_returned g s r x).back.back l (holds.0, holds.1.0),
  leaving_numbers g t s r x here l holds.0 holds.1.1,
)

-- the same for what each record is charged
abbrev pub charged_here : {L V : Type 0} → Table L → Leaving V → (ℕ → Payload → Charge)
    → Range Fields
charged_here t s charge_of = record {
  Holds = λ fs. AreLeftFor s charge_of fs × AllAre (GoesToLeaf t) fs;
  charge_of = (charged_range s charge_of).charge_of;
}

abbrev pub charged_leaf_range : {L V : Type 0} → Table L → Leaving V → (ℕ → Payload → Charge)
    → Range V → Range (V × Fields)
charged_leaf_range t s charge_of r = pair_range r (charged_here t s charge_of)

pub charged_leaf_back : {L V : Type 0} → Grounds → (t : Table L) (s : Leaving V)
    (charge_of : ℕ → Payload → Charge) (r : Range V) (x : ReturnedBeside s r)
    → ((n : ℕ) → x.Has n → GoesToLeaf t n)
    → IsReadBack (with_unknown s).takes (with_unknown s).default (with_unknown s).records
    (GoesToLeaf t) (charged_leaf_range t s charge_of r)
charged_leaf_back g t s charge_of r x here l holds = (
  (charged_returned g s r x charge_of).back.back l (holds.0, holds.1.0),
  leaving_numbers g t s r x here l holds.0 holds.1.1,
)

module _ {L V : Type 0} (t : Table L) {s : Leaving V} {r : Range V}
    {charge_of : ℕ → Payload → Charge} (others : ChargesOthers s charge_of)
    (x : LeavingStays s r charge_of anywhere) where
  abbrev IsLeftHere : ℕ → Payload → Type 0
  IsLeftHere n p = IsLeftFor s (charge_of n p) n p × GoesToLeaf t n

  pub own_or_kept : (n : ℕ) (p : Payload) (c : Charge) (m z : V × Fields) → IsSound n p
      → GoesToLeaf t n → (b : Bool) → s.owns n p ≡ b → StandsBeside x.Is IsLeftHere m
      → on b (s.takes m n p c z) (keeps_beside m n p c z) → StandsBeside x.Is IsLeftHere z
  own_or_kept n p c m z sound here true own h taken =
      x.step IsLeftHere n p (λ q leaves. (leaves_left s n q leaves, here)) c m z sound tt own h
      taken
  own_or_kept n p c m z sound here false other h taken = (
    subst x.Is (sym taken.1) h.0,
    subst (AreKept IsLeftHere) (sym taken.0.1)
        (kept_more IsLeftHere m.1 n p sound h.1 (
          subst (λ d. IsLeftFor s d n p) (sym (others n p other)) (not_owned_left s n p other),
          here,
        )),
  )

  all_left : (fs : Fields) → AllHave IsLeftHere fs
      → AllHave (λ n p. IsLeftFor s (charge_of n p) n p) fs
  all_left none h = tt
  all_left (field n p rest) h = (h.0.0, all_left rest h.1)

  all_here : (fs : Fields) → AllHave IsLeftHere fs → AllAre (GoesToLeaf t) fs
  all_here none h = tt
  all_here (field n p rest) h = (h.0.1, all_here rest h.1)

  pub kept_left : (fs : Fields) → AreKept IsLeftHere fs → (charged_here t s charge_of).Holds fs
  kept_left fs h = (
    record { fitting = h.fitting; numbered = h.numbered; left = all_left fs h.others },
    all_here fs h.others,
  )

  abbrev pub charged_leaf_stay : StepStays (with_unknown s).takes (with_unknown s).default
      (with_unknown s).records (GoesToLeaf t) (charged_leaf_range t s charge_of r)
  charged_leaf_stay = record {
    Is = StandsBeside x.Is IsLeftHere;
    begins = (x.start, none_kept IsLeftHere);
    step = λ n p c m z sound here. own_or_kept n p c m z sound here (s.owns n p) refl;
    holds = λ m h short. (
      x.holds m.0 h.0 (first_short (s.records m.0) (of_fields m.1) short),
      kept_left m.1 h.1,
    );
  }

-- where each record that is left is charged as any unknown field
abbrev pub leaving_leaf_stay : {L V : Type 0} (t : Table L) {s : Leaving V} {r : Range V}
    → LeavingStays s r (λ n p. payload_charge p) anywhere
    → StepStays (with_unknown s).takes (with_unknown s).default (with_unknown s).records
    (GoesToLeaf t) (leaving_leaf_range t s r)
leaving_leaf_stay t x =
    let h = charged_leaf_stay t (λ n p other. refl) x in
    record { Is = h.Is; begins = h.begins; step = h.step; holds = h.holds }

-- ---- fields without the unknown ones

abbrev pub dropping_leaf_range : {V : Type 0} → Range V → Range (V × ⊤)
dropping_leaf_range r = pair_range r dropped_range

pub dropping_leaf_back : {L V : Type 0} → Grounds → (t : Table L) (known : Shape V) (r : Range V)
    (x : Returned known r) → ((n : ℕ) → x.Has n → GoesToLeaf t n)
    → IsReadBack (two known dropped).takes (two known dropped).default (two known dropped).records
    (GoesToLeaf t) (dropping_leaf_range r)
dropping_leaf_back g t known r x here l holds =
    let none_of = nothing_returned in
    let both_back = two_back known dropped r.Holds dropped_range.Holds r.charge_of
    dropped_range.charge_of x.Has none_of.Has g.charges x.back none_of.back
    (λ n p h. absurd h) in (
      both_back.back l holds,
      all_weaker (λ n. x.Has n ⊎ none_of.Has n) (GoesToLeaf t)
          (λ n. elim [ inl h ↦ here n h | inr h ↦ absurd h ])
          (plain ((two known dropped).records l)) (both_back.has l holds),
    )

abbrev pub dropping_leaf_stay : {L V : Type 0} (t : Table L) {known : Shape V} {r : Range V}
    → (x : FieldsStay known r)
    → StepStays (two known dropped).takes (two known dropped).default (two known dropped).records
    (GoesToLeaf t) (dropping_leaf_range r)
dropping_leaf_stay {L} {V} t {known} {r} x = record {
  Is = λ m. x.Is m.0 × Unit {0};
  begins = (x.start, tt);
  step = λ n p c m z sound here h taken. part_stays known.takes drops x.Is (λ u. Unit {0})
      n p c m z (known.owns n p) taken h.0 h.1 (λ own. x.step n p c m.0 z.0 sound own h.0)
      (λ other step. tt);
  holds = λ m h short.
      (x.holds m.0 h.0 (first_short (known.records m.0) (dropped.records m.1) short), tt);
}
