-- Records that stay where they were read.
use Rattle.std.proofs.Common.{◌≡◌, ℕ, ◌+◌, ◌-◌, ◌^◌, ◌<◌, List, [], ◌∷◌, ◌++◌, length, get_or, take}
use Rattle.std.proofs.Common.{refl, sym, ap, ◌∙◌, subst, arith, length-append, inl, inr, ⊎_elim}
use Rattle.std.proofs.lemmas.List.{append-nil, take_more}
use Rattle.std.proofs.Math.Seq.{take-append_seam}
use Rattle.std.specs.Coded.{Coded-set, coded_list, coded_ℕ}
use Rattle.std.specs.Prelude.{Some}
use mathlib.Core.Logic.{∥∥₁_elim}
use Rattle.wire_base.specs.Charge.{payload_charge}
use Rattle.wire_base.specs.FaultLaws.{NoPayloadBesideFault, PayloadOrFaultStands}
use Rattle.wire_base.specs.Field.{Payload, Fields, field, push}
use Rattle.wire_base.specs.Limits.{Limits, Fits, counted}
use Rattle.wire_base.specs.Read.{Reads}
use Rattle.wire_base.specs.RecordLaws.{OnePayload}
use Rattle.wire_base.specs.Refusal.{PayloadRefusal}
use Rattle.wire_base.specs.Spells.{IsPayload}
use Rattle.wire_base.specs.TagView.{tag_number, tag_type}
use Rattle.wire_base.specs.declared.error.DecodeError.{DecodeError}
use Rattle.wire_base.specs.declared.error.DecodeError.TheVariants.{OutOfMemory}
use Rattle.wire_base.specs.declared.tag.WireType.{WireType}
use Rattle.wire_views.specs.SpelledOnce.{SpelledOnce, IsCountable, payload_code}
use Rattle.wire_views.specs.Spans.{span_fields}
use Rattle.wire_views.specs.declared.span.UnknownSpan.{UnknownSpan}

fields_push : (spans : List UnknownSpan) (s : UnknownSpan)
    → span_fields (spans ++ s ∷ []) ≡ push (span_fields spans) (tag_number s.tag) s.spelled.0
fields_push [] s = refl
fields_push (x ∷ spans) s = ap (field (tag_number x.tag) x.spelled.0) (fields_push spans s)

-- ---- a span that is made

pub front_is : (text start rest : List ℕ) → start ≡ text ++ rest
    → take (length start - length rest) start ≡ text
front_is text start rest parts =
    let few : length start - length rest ≡ length text =
    omega (arith, ap length parts, length-append text rest) in
    ap (λ k. take k start) few ∙ ap (take (length text)) parts ∙ take-append_seam text rest

pub whole_payload : (n : ℕ) (w : WireType) (p : Payload) (start rest payload : List ℕ)
    → Reads start (IsPayload n w p) rest → payload ≡ take (length start - length rest) start
    → IsPayload n w p payload
whole_payload n w p start rest payload read is =
    subst (IsPayload n w p) (sym (is ∙ front_is read.text start rest read.parts)) read.spelled

reads_all : (n : ℕ) (w : WireType) (p : Payload) (text : List ℕ) → IsPayload n w p text
    → Reads text (IsPayload n w p) []
reads_all n w p text h = record { text = text; parts = sym (append-nil text); spelled = h }

-- what fits the limits of a context, whose levels are a u32 and whose slots are a usize
pub countable : (p : Payload) (l : Limits) (levels slots : ℕ) → Fits (payload_charge p) l
    → levels ≡ l.depth → levels < 2 ^ 32 → l.counts.unknown_fields ≡ Some slots → slots < 2 ^ 64
    → IsCountable p
countable p l levels slots fits depth few left some = (
  omega (arith, fits.depth, depth, few),
  omega (
    arith,
    rw left at fits.counts.unknown_fields,
    some,
  ),
)

pub spelled_once : OnePayload → (n : ℕ) (w : WireType) (p : Payload) (payload : List ℕ)
    → IsPayload n w p payload → IsCountable p → SpelledOnce n w payload
spelled_once one n w p payload whole within = (
  p,
  (
    ∣ (whole, within) ∣₁,
    λ q h. (one n w q p payload [] [] (reads_all n w q payload h) (reads_all n w p payload
        whole)).0,
  ),
)

pub span_kept : (spans next : List UnknownSpan) (s : UnknownSpan) (p : Payload)
    → IsPayload (tag_number s.tag) (tag_type s.tag) p s.payload.now → next ≡ spans ++ s ∷ []
    → span_fields next ≡ push (span_fields spans) (tag_number s.tag) p
span_kept spans next s p whole is =
    ap span_fields is ∙ fields_push spans s
    ∙ ap (push (span_fields spans) (tag_number s.tag)) (sym (s.spelled.1.1 p whole))

-- ---- a span that is read again

span_owned : OnePayload → (s : UnknownSpan) (p : Payload) (rest : List ℕ)
    → Reads s.payload.now (IsPayload (tag_number s.tag) (tag_type s.tag) p) rest → p ≡ s.spelled.0
span_owned one s p rest read =
    let n = tag_number s.tag in
    let w = tag_type s.tag in
    let q = s.spelled.0 in
    ∥∥₁_elim s.spelled.1.0 (Coded-set payload_code p q)
    (λ h. (one n w p q s.payload.now rest [] read (reads_all n w q s.payload.now h.0)).0)

pub owned_span_more : OnePayload → (spans : List UnknownSpan) (i : ℕ) (s : UnknownSpan)
    → s ≡ get_or spans i s → (old new : Fields) (n : ℕ) (p : Payload) (rest : List ℕ)
    → old ≡ span_fields (take i spans) → i < length spans → n ≡ tag_number s.tag
    → Reads s.payload.now (IsPayload (tag_number s.tag) (tag_type s.tag) p) rest
    → new ≡ push old n p → new ≡ span_fields (take (i + 1) spans)
owned_span_more one spans i s at old new n p rest so within number read is =
    is ∙ ap (λ (fs : Fields). push fs n p) so
    ∙ ap (λ k. push (span_fields (take i spans)) k p) number
    ∙ ap (push (span_fields (take i spans)) (tag_number s.tag)) (span_owned one s p rest read)
    ∙ sym (fields_push (take i spans) s)
    ∙ ap span_fields (sym (take_more spans i s within
    ∙ ap (λ (x : UnknownSpan). take i spans ++ x ∷ []) (sym at)))

fits_widest : (p : Payload) → IsCountable p → Fits (payload_charge p) (counted 4294967295
    18446744073709551615)
fits_widest p h = record {
  depth = omega (arith, h.0);
  counts = record { unknown_fields = omega (arith, h.1); element_memory = tt; unknown_bytes = tt };
}

-- within the widest limits a span is refused for want of memory alone
pub span_refused : NoPayloadBesideFault → (s : UnknownSpan) (l : Limits)
    → l ≡ counted 4294967295 18446744073709551615 → (e : DecodeError)
    → PayloadRefusal l (tag_number s.tag) (tag_type s.tag) s.payload.now e → e ≡ OutOfMemory
span_refused beside s l is e (inl fault) =
    let n = tag_number s.tag in
    let w = tag_type s.tag in
    let p = s.spelled.0 in
    absurd (∥∥₁_elim s.spelled.1.0 (λ (x y : ⊥). absurd x)
    (λ h. beside l n w s.payload.now [] e p fault (record {
      read = reads_all n w p s.payload.now h.0;
      fits = rw is (fits_widest p h.1);
    })))
span_refused beside s l is e (inr memory) = memory.0

-- ---- a span that is written

read_whole : OnePayload → (s : UnknownSpan) (p : Payload) (rest : List ℕ)
    → Reads s.payload.now (IsPayload (tag_number s.tag) (tag_type s.tag) p) rest → rest ≡ []
read_whole one s p rest read =
    let n = tag_number s.tag in
    let w = tag_type s.tag in
    let q = s.spelled.0 in
    ∥∥₁_elim s.spelled.1.0 (Coded-set (coded_list coded_ℕ) rest [])
    (λ h. (one n w p q s.payload.now rest [] read (reads_all n w q s.payload.now h.0)).1)

whole_of : (n : ℕ) (w : WireType) (p : Payload) (old rest : List ℕ)
    → Reads old (IsPayload n w p) rest → rest ≡ [] → IsPayload n w p old
whole_of n w p old rest h empty =
    subst (IsPayload n w p)
    (sym (append-nil h.text) ∙ ap (λ t. h.text ++ t) (sym empty) ∙ sym h.parts) h.spelled

-- the payload that a span was made of stands there
pub payload_there : PayloadOrFaultStands → OnePayload → NoPayloadBesideFault → (s : UnknownSpan)
    → IsPayload (tag_number s.tag) (tag_type s.tag) s.spelled.0 s.payload.now
payload_there stands one beside s =
    let n = tag_number s.tag in
    let w = tag_type s.tag in
    let l = counted 4294967295 18446744073709551615 in
    ⊎_elim
    (λ (p, new, h).
    let same = span_owned one s p new h.read in
    let all = read_whole one s p new h.read in
    subst (λ q. IsPayload n w q s.payload.now) same (whole_of n w p s.payload.now new h.read all))
    (λ (e, fault). absurd (∥∥₁_elim s.spelled.1.0 (λ (x y : ⊥). absurd x)
    (λ h. beside l n w s.payload.now [] e s.spelled.0 fault (record {
      read = reads_all n w s.spelled.0 s.payload.now h.0;
      fits = fits_widest s.spelled.0 h.1;
    }))))
    (stands l n w s.payload.now)
