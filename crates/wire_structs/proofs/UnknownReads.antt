-- Records that are met one by one where they stand, and whose shortest form is written.
use Rattle.std.proofs.Common.{◌≡◌, ◌≢◌, ℕ, List, ◌++◌, refl, sym, ap, ◌∙◌, subst, append_assoc, arith}
use Rattle.wire_base.proofs.FaultLaws.{no_payload_beside_fault_lemma}
use Rattle.wire_base.proofs.FieldLaws.{Body, body_of, head_of, none_takes_nothing}
use Rattle.wire_base.proofs.FieldLaws.{not_end_group}
use Rattle.wire_base.proofs.JoinedLaws.{payload_as}
use Rattle.wire_base.proofs.LimitsLaws.{Fits-nothing}
use Rattle.wire_base.proofs.Payloads.{group_is_list_lemma}
use Rattle.wire_base.proofs.Takes.{last_before}
use Rattle.wire_base.proofs.TagLaws.{no_tag_beside_fault_lemma, one_tag_lemma}
use Rattle.std.specs.Prelude.{Option, Some, None, IfNone}
use Rattle.wire_base.specs.Ending.{by_tag, Ends}
use Rattle.wire_base.specs.Charge.{payload_charge}
use Rattle.wire_base.specs.Fault.{NextTagFault, PayloadFault, bad_tag, other_end}
use Rattle.wire_base.specs.Field.{Payload, varint, fixed64, fixed32, bytes, group, type_of}
use Rattle.wire_base.specs.Field.{Fields, none, field}
use Rattle.wire_base.specs.Limits.{no_charge, uncounted}
use Rattle.wire_base.specs.Read.{Reads}
use Rattle.wire_base.specs.Spells.{IsPayload}
use Rattle.wire_base.specs.Tag.{IsTagSpelling, tag_text}
use Rattle.wire_base.specs.Taken.{TakesPayload, TakesUntil}
use Rattle.wire_base.specs.Text.{payload_text, record_text, text_of}
use Rattle.wire_base.specs.declared.tag.Tag.{Tag}
use Rattle.wire_base.specs.declared.error.DecodeError.{DecodeError}
use Rattle.wire_base.specs.declared.tag.WireType.{WireType}
use Rattle.wire_base.specs.declared.tag.WireType.TheVariants.{Varint, Fixed64, Fixed32}
use Rattle.wire_base.specs.declared.tag.WireType.TheVariants.{LengthDelimited, StartGroup, EndGroup}

-- ---- the body of a group

-- a payload that is a group is its records and its end tag
pub opened : (n : ℕ) (w : WireType) (fs : Fields) (old rest : List ℕ)
    → Reads old (IsPayload n w (group fs)) rest → Body n fs old rest
opened n w fs old rest h =
    body_of n fs old rest
    (record { text = h.text; parts = h.parts; spelled = h.spelled.spelled })

-- and the other way round
pub closed : (n : ℕ) (fs : Fields) (old rest : List ℕ) → Body n fs old rest
    → Reads old (IsPayload n StartGroup (group fs)) rest
closed n fs old rest h =
    let taken : TakesUntil no_charge (uncounted 0) (by_tag n) fs old rest = record {
      end = h.end;
      fields = record { read = h.fields; fits = Fits-nothing (uncounted 0) };
      ended = h.tag;
      last = last_before (by_tag n) fs old h.end h.fields (λ longer less. tt);
    } in
    ((group_is_list_lemma no_charge (uncounted 0) n fs old rest).0 taken).0

-- the next record of a body, behind its tag, and the body behind it
pub record NextRecord (n k : ℕ) (w : WireType) (left : Fields) (behind rest : List ℕ) : Type 0 where
  pub payload : Payload
  pub others : Fields
  pub next : List ℕ
  pub is : left ≡ field k payload others
  pub read : Reads behind (IsPayload k w payload) next
  pub body : Body n others next rest

pub next_record : (n k : ℕ) (w : WireType) (left : Fields) (now behind rest : List ℕ)
    → Body n left now rest → Reads now (IsTagSpelling k w) behind → w ≢ EndGroup
    → NextRecord n k w left behind rest
next_record n k w none now behind rest body tag inside =
    let end = subst (λ t. Reads t (IsTagSpelling n EndGroup) rest)
    (sym (none_takes_nothing now body.end body.fields)) body.tag in
    absurd (inside (one_tag_lemma now behind rest k n w EndGroup tag end).1)
next_record n k w (field m p others) now behind rest body tag inside =
    let head = head_of m p others now body.end body.fields in
    let same = one_tag_lemma now behind head.behind k m w (type_of p) tag head.tag in
    record {
      payload = p;
      others = others;
      next = head.rest;
      is = ap (λ j. field j p others) (sym same.0);
      read = rw (same.0, same.1, same.2) (payload_as m p head.behind head.rest head.payload);
      body = record { end = body.end; fields = head.others; tag = body.tag };
    }

-- a body ends where its end tag stands
pub ended_body : (n : ℕ) (left : Fields) (now behind rest : List ℕ) → Body n left now rest
    → Reads now (IsTagSpelling n EndGroup) behind → (left ≡ none) × (behind ≡ rest)
ended_body n none now behind rest body tag =
    let end = subst (λ t. Reads t (IsTagSpelling n EndGroup) rest)
    (sym (none_takes_nothing now body.end body.fields)) body.tag in
    (refl, (one_tag_lemma now behind rest n n EndGroup EndGroup tag end).2)
ended_body n (field m p others) now behind rest body tag =
    let head = head_of m p others now body.end body.fields in
    absurd (not_end_group p
    (sym (one_tag_lemma now behind head.behind n m EndGroup (type_of p) tag head.tag).1))

-- some tag stands in a body, and no end tag of another number
pub no_next_fault : (n : ℕ) (left : Fields) (now rest : List ℕ) (e : DecodeError)
    → Body n left now rest → NextTagFault (by_tag n) now e → ⊥
no_next_fault n none now rest e body (bad_tag fault) =
    let end = subst (λ t. Reads t (IsTagSpelling n EndGroup) rest)
    (sym (none_takes_nothing now body.end body.fields)) body.tag in
    no_tag_beside_fault_lemma now rest n EndGroup e end fault
no_next_fault n (field m p others) now rest e body (bad_tag fault) =
    let head = head_of m p others now body.end body.fields in
    no_tag_beside_fault_lemma now head.behind m (type_of p) e head.tag fault
no_next_fault n none now rest e body (other_end k behind tag other) =
    let end = subst (λ t. Reads t (IsTagSpelling n EndGroup) rest)
    (sym (none_takes_nothing now body.end body.fields)) body.tag in
    other (one_tag_lemma now behind rest k n EndGroup EndGroup tag end).0
no_next_fault n (field m p others) now rest e body (other_end k behind tag other) =
    let head = head_of m p others now body.end body.fields in
    not_end_group p
    (sym (one_tag_lemma now behind head.behind k m EndGroup (type_of p) tag head.tag).1)

-- ---- any payload

-- a payload stands within some levels, so that not every number of levels has a fault
pub stands_beside : (n : ℕ) (w : WireType) (p : Payload) (old rest : List ℕ) (e : DecodeError)
    → Reads old (IsPayload n w p) rest
    → ((levels : ℕ) → PayloadFault (uncounted levels) n w old e) → ⊥
stands_beside n w p old rest e h fault =
    let levels = (payload_charge p).depth in
    let taken : TakesPayload (payload_charge p) (uncounted levels) n w p old rest = record {
      read = h;
      fits = record {
        depth = omega arith;
        counts = record { unknown_fields = tt; element_memory = tt; unknown_bytes = tt };
      };
    } in
    no_payload_beside_fault_lemma (uncounted levels) n w old rest e p (fault levels) taken

-- ---- what is written of it

-- the next record of a body, and the body behind it
pub body_parts : (n k : ℕ) (p : Payload) (others : Fields)
    → payload_text n (group (field k p others))
    ≡ record_text k p ++ payload_text n (group others)
body_parts n k p others =
    ap (λ t. t ++ tag_text n EndGroup)
    (sym (append_assoc (tag_text k (type_of p)) (payload_text k p) (text_of others)))
    ∙ append_assoc (record_text k p) (text_of others) (tag_text n EndGroup)

-- a payload behind the tag of a group is one
pub group_payload : (n : ℕ) (p : Payload) (old rest : List ℕ)
    → Reads old (IsPayload n StartGroup p) rest → (fs : Fields) × (p ≡ group fs)
group_payload n (varint v) old rest h = absurd (no_group h.spelled.kind)
  where
    no_group : Varint ≡ StartGroup → ⊥
    no_group e = cc
group_payload n (fixed64 v) old rest h = absurd (no_group h.spelled.kind)
  where
    no_group : Fixed64 ≡ StartGroup → ⊥
    no_group e = cc
group_payload n (fixed32 v) old rest h = absurd (no_group h.spelled.kind)
  where
    no_group : Fixed32 ≡ StartGroup → ⊥
    no_group e = cc
group_payload n (bytes b) old rest h = absurd (no_group h.spelled.kind)
  where
    no_group : LengthDelimited ≡ StartGroup → ⊥
    no_group e = cc
group_payload n (group fs) old rest h = (fs, refl)

-- what is read of a body at its end
pub ended_next : (next : Option Tag) (n : ℕ) (now behind : List ℕ)
    → IfNone next (Ends (by_tag n) now behind)
    → IfNone next ((fs : Fields) (rest : List ℕ) → Reads now (IsPayload n StartGroup (group fs)) rest
    → (fs ≡ none) × (behind ≡ rest))
ended_next None n now behind end = λ fs rest h.
    ended_body n fs now behind rest (opened n StartGroup fs now rest h) end
ended_next (Some tag) n now behind end = tt
