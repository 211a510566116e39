-- Lists of records up to their end, record by record from the front.
use Rattle.std.proofs.Common.{◌≡◌, ℕ, inl, inr, List, refl, sym, ap, subst}
use Rattle.wire_base.specs.declared.tag.WireType.{WireType}
use Rattle.wire_base.specs.Ending.{Ending, GoesOn, Ends}
use Rattle.wire_base.specs.Field.{Payload, Fields, none, field, type_of}
use Rattle.wire_base.specs.Limits.{Limits, Charge, left_after, both, no_charge}
use Rattle.wire_base.specs.Read.{Reads}
use Rattle.wire_base.specs.RecordLaws.{RecordsFromTheFront}
use Rattle.wire_base.specs.Spells.{Spells, IsPayload}
use Rattle.wire_base.specs.Tag.{IsTagSpelling}
use Rattle.wire_base.specs.Taken.{TakesPayload, TakesUntil, LastGoesOn}
use Rattle.wire_base.proofs.FieldLaws.{head_of, none_takes_nothing, one_payload_lemma}
use Rattle.wire_base.proofs.JoinedLaws.{Reads-none, Reads-one, Reads-joined, payload_as}
use Rattle.wire_base.proofs.LimitsLaws.{Fits-both, Fits-first, Fits-second}
use Rattle.wire_base.proofs.TagLaws.{same_tag}
use Rattle.wire_base.proofs.Takes.{takes_none, goes_on_at}

ended_lemma : (l : Limits) (ending : Ending) (old new : List ℕ) → Ends ending old new
    → TakesUntil no_charge l ending none old new
ended_lemma l ending old new h =
    record { end = old; fields = takes_none l old; ended = h; last = inl refl }

-- the last of some records is the last of one more in front of them
last_behind : (ending : Ending) (n : ℕ) (p : Payload) (others : Fields) (old next : List ℕ)
    → GoesOn ending old → Reads old (Spells (field n p none)) next → LastGoesOn ending others next
    → LastGoesOn ending (field n p others) old
last_behind ending n p others old next goes one (inl none_is) =
    inr (none, n, p, old, ap (field n p) none_is, Reads-none old, goes)
last_behind ending n p others old next goes one (inr (before, m, q, rest, last, h, goes_at)) =
    inr (
      field n p before,
      m,
      q,
      rest,
      ap (field n p) last,
      Reads-joined (field n p none) before old next rest one h,
      goes_at,
    )

more_lemma : (c d : Charge) (l : Limits) (ending : Ending) (n : ℕ) (w : WireType) (p : Payload)
    (others : Fields) (old behind next new : List ℕ)
    → GoesOn ending old → Reads old (IsTagSpelling n w) behind → TakesPayload d l n w p behind next
    → TakesUntil c (left_after l d) ending others next new
    → TakesUntil (both d c) l ending (field n p others) old new
more_lemma c d l ending n w p others old behind next new goes tag h k =
    let one = Reads-one n w p old behind next tag h.read in
    record {
      end = k.end;
      fields = record {
        read = Reads-joined (field n p none) others old next k.end one k.fields.read;
        fits = Fits-both l d c h.fits k.fields.fits;
      };
      ended = k.ended;
      last = last_behind ending n p others old next goes one k.last;
    }

none_lemma : (c : Charge) (l : Limits) (ending : Ending) (old new : List ℕ)
    → TakesUntil c l ending none old new → Ends ending old new
none_lemma c l ending old new h =
    subst (λ t. Ends ending t new) (sym (none_takes_nothing old h.end h.fields.read)) h.ended

-- the last of some records, where the first of them is left out
last_without : (ending : Ending) (n : ℕ) (p : Payload) (others : Fields)
    (old behind next : List ℕ) → Reads old (IsTagSpelling n (type_of p)) behind
    → Reads behind (IsPayload n (type_of p) p) next
    → LastGoesOn ending (field n p others) old → LastGoesOn ending others next
last_without ending n p others old behind next tag payload (inl none_is) = absurd cc
last_without ending n p others old behind next tag payload
    (inr (none, m, q, rest, last, h, goes)) = inl cc
last_without ending n p others old behind next tag payload
    (inr (field k x before, m, q, rest, last, h, goes)) =
    let same_n : n ≡ k = cc in
    let same_p : p ≡ x = cc in
    let head = head_of n p before old rest (rw (same_n, same_p) h) in
    let same = same_tag old behind head.behind n n (type_of p) (type_of p) tag head.tag in
    let here = one_payload_lemma n (type_of p) p p behind next head.rest payload
    (subst (λ t. Reads t (IsPayload n (type_of p) p) head.rest) (sym same.rest)
    (payload_as n p head.behind head.rest head.payload)) in
    inr (
      before,
      m,
      q,
      rest,
      cc,
      subst (λ t. Reads t (Spells before) rest) (sym here.1) head.others,
      goes,
    )

first_lemma : (c d : Charge) (l : Limits) (ending : Ending) (n : ℕ) (p : Payload)
    (others : Fields) (old new : List ℕ) → TakesUntil (both d c) l ending (field n p others) old new
    → (behind : List ℕ) × (next : List ℕ) × GoesOn ending old
    × Reads old (IsTagSpelling n (type_of p)) behind
    × TakesPayload d l n (type_of p) p behind next
    × TakesUntil c (left_after l d) ending others next new
first_lemma c d l ending n p others old new h =
    let head = head_of n p others old h.end h.fields.read in
    let payload = payload_as n p head.behind head.rest head.payload in (
      head.behind,
      head.rest,
      goes_on_at ending (field n p others) none others n p old old h.last refl (Reads-none old),
      head.tag,
      record { read = payload; fits = Fits-first l d c h.fields.fits },
      record {
        end = h.end;
        fields = record { read = head.others; fits = Fits-second l d c h.fields.fits };
        ended = h.ended;
        last = last_without ending n p others old head.behind head.rest head.tag payload h.last;
      },
    )

pub records_from_the_front_lemma : RecordsFromTheFront
records_from_the_front_lemma =
    record { ended = ended_lemma; more = more_lemma; none = none_lemma; first = first_lemma }
