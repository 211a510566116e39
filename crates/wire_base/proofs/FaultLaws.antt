-- Laws of faults of records: none beside a reading within the limits, and one at most.
use Rattle.std.proofs.Common.{◌≡◌, ℕ, List, sym, ap, ◌∙◌, subst, arith, ⊎_elim}
use Rattle.wire_base.specs.declared.error.DecodeError.{DecodeError}
use Rattle.wire_base.specs.declared.error.DecodeError.TheVariants.{InvalidEndGroup}
use Rattle.wire_base.specs.declared.tag.WireType.{WireType}
use Rattle.wire_base.specs.declared.tag.WireType.TheVariants as types
use Rattle.wire_base.specs.Charge.{payload_charge, charge}
use Rattle.wire_base.specs.Ending.{Ending, by_limit, by_tag, GoesOn, Ends, IsRecordTag}
use Rattle.wire_base.specs.Fault.{NextTagFault, bad_tag, other_end, PayloadFault, RecordFault, ListFault}
use Rattle.wire_base.specs.FaultLaws.{NoPayloadBesideFault, NoListBesideFault, OnePayloadFault, OneListFault}
use Rattle.wire_base.specs.Field.{Payload, Fields, none, field, type_of, joined}
use Rattle.wire_base.specs.Limits.{Limits, Fits, one_field, left_after, inner}
use Rattle.wire_base.specs.Read.{Reads}
use Rattle.wire_base.specs.Spells.{SpellsPayload, Spells, IsPayload}
use Rattle.wire_base.specs.Tag.{IsTagSpelling, TagFault}
use Rattle.wire_base.specs.Taken.{TakesFields}
use Rattle.wire_base.proofs.FieldLaws.{either_front, not_end_group, record_not_end, head_of, none_takes_nothing, body_of, joined-none}
use Rattle.wire_base.proofs.LimitsLaws.{Fits-first, Fits-second, Fits-one_field, level_of_group, Fits-inside, charge-joined}
use Rattle.wire_base.proofs.PayloadFaults.{group_of, varint_beside_fault, fixed64_not_short, fixed32_not_short, bytes_beside_fault, room_beside_fault, no_slot_only, varint_only, fixed64_only, fixed32_only, bytes_only, room_only, end_only, no_level_once, in_group_once}
use Rattle.wire_base.proofs.ReadLaws.{Reads-shorter}
use Rattle.wire_base.proofs.TagLaws.{same_tag, no_tag_beside_fault_lemma, one_tag_fault_lemma}
use Rattle.wire_base.proofs.Takes.{not_both, goes_on_before}
use Rattle.wire_base.proofs.VarintLaws.{one_varint_fault_lemma}

-- ---- one place in a list

-- a payload behind another spelling of its tag
payload_at : (n m : ℕ) (w : WireType) (p : Payload) (behind other new : List ℕ) → m ≡ n
    → type_of p ≡ w → behind ≡ other → Reads behind (SpellsPayload m p) new
    → Reads other (IsPayload n w p) new
payload_at n m w p behind other new number kind same h = record {
  text = h.text;
  parts = sym same ∙ h.parts;
  spelled = record {
    kind = kind;
    spelled = subst
        (λ k. SpellsPayload k p h.text) number h.spelled;
  };
}

-- no list ends where a record's fault stands and the list goes on
end_beside_fault : (l : Limits) (ending : Ending) (old new : List ℕ) (e : DecodeError)
    → RecordFault l ending old e → GoesOn ending old → Ends ending old new → ⊥
end_beside_fault l (by_limit most) old new e fault goes ends = omega (arith, ends.0)
end_beside_fault l (by_tag n) old new e (RecordFault.no_tag (bad_tag fault)) goes ends =
    no_tag_beside_fault_lemma old new n types.EndGroup e ends fault
end_beside_fault l (by_tag n) old new e
    (RecordFault.no_tag (other_end k behind tag other)) goes ends = other
    (same_tag old behind new k n types.EndGroup types.EndGroup tag ends).number
end_beside_fault l (by_tag n) old new e
    (RecordFault.bad_payload m w behind tag is fault) goes ends =
    is (same_tag old behind new m n w types.EndGroup tag ends).kind

-- of a list that fits, the record behind some fits what these leave
Fits-next : (l : Limits) (gs fs more : Fields) (n : ℕ) (p : Payload)
    → fs ≡ joined gs (field n p more) → Fits (charge fs) l
    → Fits (payload_charge p) (left_after l (charge gs))
Fits-next l gs fs more n p parts h =
    Fits-first (left_after l (charge gs)) (payload_charge p) (charge more)
    (Fits-second l (charge gs) (charge (field n p more)) (subst (λ c. Fits c l) (ap charge parts
    ∙ charge-joined gs (field n p more)) h))

-- records that were read first, and then a fault, are no front of a list that ends, where no record
-- stands at the fault
fault_in_list : (l : Limits) (ending : Ending) (gs fs more : Fields) (rest end new : List ℕ)
    (e : DecodeError) → RecordFault (left_after l (charge gs)) ending rest e → GoesOn ending rest
    → Ends ending end new → Fits (charge fs) l
    → ((n : ℕ) (p : Payload) (others : Fields) → Reads rest (Spells (field n p others)) end
    → Fits (payload_charge p) (left_after l (charge gs)) → ⊥)
    → fs ≡ joined gs more → Reads rest (Spells more) end → ⊥
fault_in_list l ending gs fs none rest end new e fault goes ends fits beside parts h =
    end_beside_fault (left_after l (charge gs)) ending rest new e fault goes
    (subst (λ t. Ends ending t new) (sym (none_takes_nothing rest end h)) ends)
fault_in_list l ending gs fs (field n p others) rest end new e fault goes ends fits beside parts h =
    beside n p others h (Fits-next l gs fs others n p parts fits)

-- nor are they a list that ends with records behind it
fault_past_list : (l : Limits) (ending : Ending) (gs more : Fields) (rest end new : List ℕ)
    (e : DecodeError) → RecordFault (left_after l (charge gs)) ending rest e → GoesOn ending rest
    → Ends ending end new → Reads end (Spells more) rest → ⊥
fault_past_list l ending gs none rest end new e fault goes ends h =
    end_beside_fault (left_after l (charge gs)) ending rest new e fault goes
    (subst (λ t. Ends ending t new) (none_takes_nothing end rest h) ends)
fault_past_list l ending gs (field n p others) rest end new e fault goes ends h =
    not_both ending n p others end rest new
    (goes_on_before ending end rest
    (Reads-shorter (Spells (field n p others)) end rest h) goes) ends h

-- a record, and no tag in its place
record_beside_tag_fault : (ending : Ending) (old : List ℕ) (e : DecodeError)
    → NextTagFault ending old e
    → (n : ℕ) (p : Payload) (more : Fields) (new : List ℕ) → Reads old (Spells (field n p more)) new
    → ⊥
record_beside_tag_fault ending old e (bad_tag fault) n p more new h =
    let head = head_of n p more old new h in no_tag_beside_fault_lemma old head.behind n
    (type_of p) e head.tag fault
record_beside_tag_fault ending old e
    (other_end k behind tag other) n p more new h = record_not_end n k p more old new behind h tag

mutual
  -- a payload within the limits, and a fault in its place
  payload_beside_fault : (l : Limits) (n : ℕ) (w : WireType) (old : List ℕ) (e : DecodeError)
      → PayloadFault l n w old e
      → (p : Payload) (new : List ℕ) → Reads old (IsPayload n w p) new → Fits (payload_charge p) l
      → ⊥
  payload_beside_fault l n w old e (PayloadFault.no_slot full) p new h fits =
      full (Fits-one_field l p fits)
  payload_beside_fault l n w old e (PayloadFault.no_varint slot fault) p new h fits =
      varint_beside_fault p n old new e h fault
  payload_beside_fault l n w old e (PayloadFault.short_fixed64 slot short) p new h fits =
      fixed64_not_short p n old new h short
  payload_beside_fault l n w old e (PayloadFault.short_fixed32 slot short) p new h fits =
      fixed32_not_short p n old new h short
  payload_beside_fault l n w old e (PayloadFault.no_bytes slot fault) p new h fits =
      bytes_beside_fault p n old new e h fault
  payload_beside_fault l n w old e (PayloadFault.no_room b rest slot there full) p new h fits =
      room_beside_fault l p n b rest old new h fits there full
  payload_beside_fault l n w old e (PayloadFault.end_outside slot) p new h fits =
      not_end_group p h.spelled.kind
  payload_beside_fault l n w old e (PayloadFault.no_level slot flat) p new h fits =
      let inside = group_of p n old new h in
      let level = level_of_group l inside.0
      (subst (λ q. Fits (payload_charge q) l) inside.1 fits) in
      omega arith
  payload_beside_fault l n w old e (PayloadFault.in_group slot level fault) p new h fits =
      let inside = group_of p n old new h in
      let body = body_of n inside.0 old new inside.2 in
      list_beside_fault (inner (left_after l one_field))
      (by_tag n) old e fault inside.0 body.end new body.fields body.tag
      (Fits-inside l inside.0 (subst (λ q. Fits (payload_charge q) l) inside.1 fits))

  -- a record within the limits, and a fault in its place
  record_beside_fault : (l : Limits) (ending : Ending) (old : List ℕ) (e : DecodeError)
      → RecordFault l ending old e
      → (n : ℕ) (p : Payload) (more : Fields) (new : List ℕ)
      → Reads old (Spells (field n p more)) new → Fits (payload_charge p) l → ⊥
  record_beside_fault l ending old e (RecordFault.no_tag fault) n p more new h fits =
      record_beside_tag_fault ending old e fault n p more new h
  record_beside_fault l ending old e
      (RecordFault.bad_payload m w behind tag is fault) n p more new h fits =
      let head = head_of n p more old new h in
      let same = same_tag old head.behind behind n m (type_of p) w head.tag tag in
      payload_beside_fault l m w behind e fault p head.rest
      (payload_at m n w p head.behind behind head.rest same.number same.kind same.rest head.payload)
      fits

  -- a list within the limits that ends, and a fault in its place
  list_beside_fault : (l : Limits) (ending : Ending) (old : List ℕ) (e : DecodeError)
      → ListFault l ending old e
      → (fs : Fields) (end new : List ℕ) → Reads old (Spells fs) end → Ends ending end new
      → Fits (charge fs) l → ⊥
  list_beside_fault l ending old e
      (ListFault.past gs rest taken goes fault) fs end new h ends fits =
      ⊎_elim
      (λ front. fault_in_list l ending gs fs front.more rest end new e fault goes ends fits
      (λ n p others k room. record_beside_fault
      (left_after l
      (charge gs)) ending rest e fault n p others end k room) front.parts front.others)
      (λ front. fault_past_list l ending gs front.more rest end new e fault goes ends front.others)
      (either_front gs fs old rest end taken.read h)

-- ---- one fault of a record

tag_once : (ending : Ending) (old : List ℕ) (e f : DecodeError) → TagFault old e
    → NextTagFault ending old f → e ≡ f
tag_once ending old e f fault (bad_tag other) = one_tag_fault_lemma old e f fault other
tag_once ending old e f fault (other_end k behind tag other) =
    absurd (no_tag_beside_fault_lemma old behind k types.EndGroup e tag fault)

end_once : (n k : ℕ) (old behind : List ℕ) (f : DecodeError)
    → Reads old (IsTagSpelling k types.EndGroup) behind → NextTagFault (by_tag n) old f
    → InvalidEndGroup k ≡ f
end_once n k old behind f end (bad_tag fault) =
    absurd (no_tag_beside_fault_lemma old behind k types.EndGroup f end fault)
end_once n k old behind f end (other_end j rest tag other) =
    ap InvalidEndGroup (same_tag old behind rest k j types.EndGroup types.EndGroup end tag).number

next_tag_once : (ending : Ending) (old : List ℕ) (e f : DecodeError) → NextTagFault ending old e
    → NextTagFault ending old f → e ≡ f
next_tag_once ending old e f (bad_tag fault) other = tag_once ending old e f fault other
next_tag_once ending old e f
    (other_end {n = n} k behind tag differs) other = end_once n k old behind f tag other

-- no tag is at fault where that of a record stands
record_tag_beside_fault : (ending : Ending) (old behind : List ℕ) (f : DecodeError) (n : ℕ)
    (w : WireType) → Reads old (IsTagSpelling n w) behind → IsRecordTag ending w
    → NextTagFault ending old f → ⊥
record_tag_beside_fault ending old behind f n w tag is
    (bad_tag fault) = no_tag_beside_fault_lemma old behind n w f tag fault
record_tag_beside_fault ending old behind f n w tag is (other_end k rest end other) = is
    (same_tag old behind rest n k w types.EndGroup tag end).kind

no_tag_once : (l : Limits) (ending : Ending) (old : List ℕ) (e f : DecodeError)
    → NextTagFault ending old e → RecordFault l ending old f → e ≡ f
no_tag_once l ending old e f fault (RecordFault.no_tag other) =
    next_tag_once ending old e f fault other
no_tag_once l ending old e f fault (RecordFault.bad_payload n w behind tag is other) =
    absurd (record_tag_beside_fault ending old behind e n w tag is fault)

payload_once : (l : Limits) (ending : Ending) (old : List ℕ) (e f : DecodeError) (n : ℕ)
    (w : WireType) (behind : List ℕ) → Reads old (IsTagSpelling n w) behind → IsRecordTag ending w
    → ((g : DecodeError) → PayloadFault l n w behind g → e ≡ g) → RecordFault l ending old f → e ≡ f
payload_once l ending old e f n w behind tag is again (RecordFault.no_tag fault) =
    absurd (record_tag_beside_fault ending old behind f n w tag is fault)
payload_once l ending old e f n w behind tag is again
    (RecordFault.bad_payload m x rest tag2 is2 fault) =
    let same = same_tag old behind rest n m w x tag tag2 in
    again f (subst (λ r. PayloadFault l n w r f) (sym same.rest)
    (subst (λ v. PayloadFault l n v rest f) (sym same.kind)
    (subst (λ j. PayloadFault l j x rest f) (sym same.number) fault)))

-- ---- one fault of a list

-- behind records that were read, the second fault of a list that has the first there
same_place : (l : Limits) (ending : Ending) (gs fs more : Fields) (rest end : List ℕ)
    (e : DecodeError) → RecordFault (left_after l (charge gs)) ending rest e
    → fs ≡ joined gs more → Reads rest (Spells more) end → Fits (charge fs) l → (gs ≡ fs)
    × (rest ≡ end)
same_place l ending gs fs none rest end e fault parts h fits =
    (sym (parts ∙ joined-none gs), none_takes_nothing rest end h)
same_place l ending gs fs (field n p more) rest end e fault parts h fits =
    absurd (record_beside_fault (left_after l (charge gs)) ending rest e fault n p more end h
    (Fits-next l gs fs more n p parts fits))

-- two faults of one list have one place
one_place : (l : Limits) (ending : Ending) (gs fs : Fields) (old rest end : List ℕ)
    (e f : DecodeError) → TakesFields (charge gs) l gs old rest
    → TakesFields (charge fs) l fs old end
    → RecordFault (left_after l (charge gs)) ending rest e
    → RecordFault (left_after l (charge fs)) ending end f → (gs ≡ fs) × (rest ≡ end)
one_place l ending gs fs old rest end e f h k fault other =
    ⊎_elim
    (λ front. same_place l ending gs fs front.more rest end e fault front.parts front.others k.fits)
    (λ front. let same = same_place l ending fs gs front.more end rest f other front.parts
    front.others h.fits in (sym same.0, sym same.1))
    (either_front gs fs old rest end h.read k.read)

-- the second fault, at the place of the first
at_place : (l : Limits) (ending : Ending) (gs : Fields) (old rest : List ℕ) (e f : DecodeError)
    → TakesFields (charge gs) l gs old rest
    → RecordFault (left_after l (charge gs)) ending rest e → ListFault l ending old f
    → RecordFault (left_after l (charge gs)) ending rest f
at_place l ending gs old rest e f h fault (ListFault.past fs end taken goes other) =
    let same = one_place l ending gs fs old rest end e f h taken fault other in
    subst (λ hs. RecordFault (left_after l (charge hs)) ending rest f) (sym same.0)
    (subst (λ t. RecordFault (left_after l (charge fs)) ending t f) (sym same.1) other)

mutual
  one_payload_fault : (l : Limits) (n : ℕ) (w : WireType) (old : List ℕ) (e : DecodeError)
      → PayloadFault l n w old e → (f : DecodeError) → PayloadFault l n w old f → e ≡ f
  one_payload_fault l n w old e (PayloadFault.no_slot full) f other =
      no_slot_only l n w old f full other
  one_payload_fault l n w old e (PayloadFault.no_varint slot fault) f other =
      one_varint_fault_lemma old e f fault (varint_only l n old f slot other)
  one_payload_fault l n w old e (PayloadFault.short_fixed64 slot short) f other =
      fixed64_only l n old f slot other
  one_payload_fault l n w old e (PayloadFault.short_fixed32 slot short) f other =
      fixed32_only l n old f slot other
  one_payload_fault l n w old e (PayloadFault.no_bytes slot fault) f other =
      bytes_only l n old e f slot fault other
  one_payload_fault l n w old e (PayloadFault.no_room b rest slot h full) f other =
      room_only l n old b rest f slot h other
  one_payload_fault l n w old e (PayloadFault.end_outside slot) f other =
      end_only l n old f slot other
  one_payload_fault l n w old e (PayloadFault.no_level slot flat) f other =
      no_level_once l n old f slot flat other
  one_payload_fault l n w old e (PayloadFault.in_group slot level fault) f other =
      in_group_once l n old e f slot level
      (one_list_fault (inner (left_after l one_field)) (by_tag n) old e fault) other

  one_record_fault : (l : Limits) (ending : Ending) (old : List ℕ) (e : DecodeError)
      → RecordFault l ending old e → (f : DecodeError) → RecordFault l ending old f → e ≡ f
  one_record_fault l ending old e
      (RecordFault.no_tag fault) f other = no_tag_once l ending old e f fault other
  one_record_fault l ending old e (RecordFault.bad_payload n w behind tag is fault) f other =
      payload_once l ending old e f n w behind tag is (one_payload_fault l n w behind e fault) other

  one_list_fault : (l : Limits) (ending : Ending) (old : List ℕ) (e : DecodeError)
      → ListFault l ending old e → (f : DecodeError) → ListFault l ending old f → e ≡ f
  one_list_fault l ending old e (ListFault.past gs rest taken goes fault) f other =
      one_record_fault (left_after l (charge gs)) ending rest e fault f
      (at_place l ending gs old rest e f taken fault other)

-- ---- the laws

pub no_payload_beside_fault_lemma : NoPayloadBesideFault
no_payload_beside_fault_lemma l n w old new e p fault h =
    payload_beside_fault l n w old e fault p new h.read h.fits

pub no_list_beside_fault_lemma : NoListBesideFault
no_list_beside_fault_lemma l ending old new e fs fault h =
    list_beside_fault l ending old e fault fs h.end new h.fields.read h.ended h.fields.fits

pub one_payload_fault_lemma : OnePayloadFault
one_payload_fault_lemma l n w old e f fault other = one_payload_fault l n w old e fault f other

pub one_list_fault_lemma : OneListFault
one_list_fault_lemma l ending old e f fault other = one_list_fault l ending old e fault f other
