-- A reading within the limits or a fault always stands: a reader over lists finds the one or the
-- other.
use Rattle.std.proofs.Common.{◌≡◌, ◌≢◌, ℕ, zero, suc, ◌<◌, ◌≤◌, ◌⊎◌, inl, inr, List, length, drop, None, refl, sym, ap, subst, arith, ⊎_elim}
use Rattle.std.proofs.lemmas.Bool.{cases_lt, cases_eq}
use Rattle.wire_base.specs.declared.error.DecodeError.{DecodeError}
use Rattle.wire_base.specs.declared.error.DecodeError.TheVariants.{UnexpectedEof, InvalidWireType, RecursionLimitExceeded, InvalidEndGroup, UnknownFieldLimitExceeded}
use Rattle.wire_base.specs.declared.tag.WireType.{WireType}
use Rattle.wire_base.specs.declared.tag.WireType.TheVariants as types
use Rattle.wire_base.specs.Charge.{payload_charge, charge}
use Rattle.wire_base.specs.Ending.{Ending, by_limit, by_tag, GoesOn, Ends, IsRecordTag}
use Rattle.wire_base.specs.Fault.{bad_tag, other_end, PayloadFault, RecordFault, ListFault}
use Rattle.wire_base.specs.FaultLaws.{PayloadOrFault, PayloadOrFaultStands, ListOrFault, ListOrFaultStands}
use Rattle.wire_base.specs.Field.{Payload, varint, bytes, group, Fields, none, field}
use Rattle.wire_base.specs.Limits.{Limits, Fits, one_field, bytes_charge, left_after, inner}
use Rattle.wire_base.specs.Read.{Reads}
use Rattle.wire_base.specs.Spells.{Spells, IsPayload}
use Rattle.wire_base.specs.Tag.{IsTagSpelling}
use Rattle.wire_base.specs.TagLaws.{TagOrFault}
use Rattle.wire_base.specs.Taken.{TakesPayload, LastGoesOn}
use Rattle.wire_base.specs.VarintLaws.{VarintOrFault, DelimitedOrFault}
use Rattle.wire_base.proofs.DelimitedLaws.{delimited_or_fault_lemma}
use Rattle.wire_base.proofs.FieldLaws.{rest_below}
use Rattle.wire_base.proofs.JoinedLaws.{Reads-none, Reads-one, Reads-joined}
use Rattle.wire_base.proofs.LimitsLaws.{Fits-both, left_after-nothing, left_after-both, fits_or_not}
use Rattle.wire_base.proofs.Payloads.{takes_varint, takes_fixed64, takes_fixed32, takes_delimited, takes_group}
use Rattle.wire_base.proofs.ReadLaws.{Reads-shorter}
use Rattle.wire_base.proofs.Takes.{takes_none}
use Rattle.wire_base.proofs.TagLaws.{tag_or_fault_lemma}
use Rattle.wire_base.proofs.VarintLaws.{varint_or_fault_lemma}

-- ---- payloads

varint_outcome : (l : Limits) (n : ℕ) (old : List ℕ) → Fits one_field l → VarintOrFault old
    → PayloadOrFault l n types.Varint old
varint_outcome l n old slot (inl (v, rest, h)) =
    inl (varint v, rest, takes_varint l n slot v old rest h)
varint_outcome l n old slot (inr (e, fault)) = inr (e, PayloadFault.no_varint slot fault)

fixed64_outcome : (l : Limits) (n : ℕ) (old : List ℕ) → Fits one_field l → (length old < 8)
    ⊎ (8 ≤ length old) → PayloadOrFault l n types.Fixed64 old
fixed64_outcome l n old slot (inl short) =
    inr (UnexpectedEof, PayloadFault.short_fixed64 slot short)
fixed64_outcome l n old slot (inr enough) =
    inl (_, _, takes_fixed64 l n slot old (drop 8 old) enough refl)

fixed32_outcome : (l : Limits) (n : ℕ) (old : List ℕ) → Fits one_field l → (length old < 4)
    ⊎ (4 ≤ length old) → PayloadOrFault l n types.Fixed32 old
fixed32_outcome l n old slot (inl short) =
    inr (UnexpectedEof, PayloadFault.short_fixed32 slot short)
fixed32_outcome l n old slot (inr enough) =
    inl (_, _, takes_fixed32 l n slot old (drop 4 old) enough refl)

bytes_outcome : (l : Limits) (n : ℕ) (old : List ℕ) → Fits one_field l → DelimitedOrFault None old
    → PayloadOrFault l n types.LengthDelimited old
bytes_outcome l n old slot (inl (b, rest, h, within)) =
    ⊎_elim
    (λ room. inl (bytes b, rest, takes_delimited l n slot b old rest h room))
    (λ full. inr (UnknownFieldLimitExceeded, PayloadFault.no_room b rest slot h full))
    (fits_or_not (left_after l one_field) (bytes_charge (length b)))
bytes_outcome l n old slot (inr (e, fault)) = inr (e, PayloadFault.no_bytes slot fault)

-- the inside of a group
group_outcome : (l : Limits) (n : ℕ) (old : List ℕ) → Fits one_field l → 0 < l.depth
    → ListOrFault (inner (left_after l one_field)) (by_tag n) old
    → PayloadOrFault l n types.StartGroup old
group_outcome l n old slot level (inl (fs, new, h)) =
    inl (group fs, new, takes_group l n slot fs old new level h)
group_outcome l n old slot level (inr (e, fault)) = inr (e, PayloadFault.in_group slot level fault)

-- a payload or a fault, where lists of these bytes have an outcome
payload_with_slot : (l : Limits) (n : ℕ) (w : WireType) (old : List ℕ)
    → ((m : Limits) → ListOrFault m (by_tag n) old) → Fits one_field l → PayloadOrFault l n w old
payload_with_slot l n types.Varint old lists slot =
    varint_outcome l n old slot (varint_or_fault_lemma old)
payload_with_slot l n types.Fixed64 old lists slot =
    fixed64_outcome l n old slot (cases_lt (length old) 8)
payload_with_slot l n types.LengthDelimited old lists slot =
    bytes_outcome l n old slot (delimited_or_fault_lemma None old)
payload_with_slot l n types.StartGroup old lists slot =
    ⊎_elim
    (λ flat. inr (RecursionLimitExceeded, PayloadFault.no_level slot (omega arith)))
    (λ level. group_outcome l n old slot level (lists (inner (left_after l one_field))))
    (cases_lt l.depth 1)
payload_with_slot l n types.EndGroup old lists slot =
    inr (InvalidWireType 4, PayloadFault.end_outside slot)
payload_with_slot l n types.Fixed32 old lists slot =
    fixed32_outcome l n old slot (cases_lt (length old) 4)

-- a slot first, and then the payload
payload_outcome : (l : Limits) (n : ℕ) (w : WireType) (old : List ℕ)
    → ((m : Limits) → ListOrFault m (by_tag n) old) → PayloadOrFault l n w old
payload_outcome l n w old lists =
    ⊎_elim (payload_with_slot l n w old lists)
    (λ full. inr (UnknownFieldLimitExceeded, PayloadFault.no_slot full)) (fits_or_not l one_field)

-- ---- lists

-- a fault of a record is one of the list that goes on there
fault_here : (l : Limits) (ending : Ending) (old : List ℕ) (e : DecodeError) → GoesOn ending old
    → RecordFault l ending old e → ListOrFault l ending old
fault_here l ending old e goes fault =
    inr (
      e,
      ListFault.past none old (takes_none l old) goes
          (subst (λ m. RecordFault m ending old e) (sym (left_after-nothing l)) fault),
    )

-- the last record, where one more stands before the list
last_of_more : (ending : Ending) (n : ℕ) (p : Payload) (fs : Fields) (old mid : List ℕ)
    → GoesOn ending old → Reads old (Spells (field n p none)) mid → LastGoesOn ending fs mid
    → LastGoesOn ending (field n p fs) old
last_of_more ending n p fs old mid goes one (inl none_is) =
    inr (none, n, p, old, ap (field n p) none_is, Reads-none old, goes)
last_of_more ending n p fs old mid goes one (inr (before, m, q, rest, parts, h, later)) =
    inr (
      field n p before,
      m,
      q,
      rest,
      ap (field n p) parts,
      Reads-joined
          (field n p none) before old mid rest one h,
      later,
    )

-- one record before a list, or before its fault
one_record_more : (l : Limits) (ending : Ending) (n : ℕ) (w : WireType) (p : Payload)
    (old behind mid : List ℕ) → GoesOn ending old → Reads old (IsTagSpelling n w) behind
    → TakesPayload (payload_charge p) l n w p behind mid
    → ListOrFault (left_after l (payload_charge p)) ending mid → ListOrFault l ending old
one_record_more l ending n w p old behind mid goes tag h (inl (fs, new, k)) =
    let one = Reads-one n w p old behind mid tag h.read in
    inl (
      field n p fs,
      new,
      record {
        end = k.end;
        fields = record {
          read = Reads-joined (field n p none) fs old mid k.end one k.fields.read;
          fits = Fits-both l (payload_charge p) (charge fs) h.fits k.fields.fits;
        };
        ended = k.ended;
        last = last_of_more ending n p fs old mid goes one k.last;
      },
    )
one_record_more l ending n w p old behind mid goes tag h
    (inr (e, ListFault.past fs rest k later fault)) =
    inr (
      e,
      ListFault.past (field n p fs) rest
          (record {
            read = Reads-joined (field n p none) fs old mid rest
                (Reads-one n w p old behind mid tag h.read) k.read;
            fits = Fits-both l (payload_charge p) (charge fs) h.fits k.fits;
          })
          later
          (subst (λ m. RecordFault m ending rest e)
          (left_after-both l (payload_charge p) (charge fs)) fault),
    )

-- a payload, and then the list goes on
after_payload : (l : Limits) (ending : Ending) (n : ℕ) (w : WireType) (old behind : List ℕ)
    → GoesOn ending old → Reads old (IsTagSpelling n w) behind → IsRecordTag ending w
    → ((m : Limits) (mid : List ℕ) → length mid ≤ length behind → ListOrFault m ending mid)
    → PayloadOrFault l n w behind → ListOrFault l ending old
after_payload l ending n w old behind goes tag is lists (inl (p, mid, h)) =
    one_record_more l ending n w p old behind mid goes tag h
    (lists (left_after l (payload_charge p)) mid
    (Reads-shorter (IsPayload n w p) behind mid h.read))
after_payload l ending n w old behind goes tag is lists (inr (e, fault)) =
    fault_here l ending old e goes (RecordFault.bad_payload n w behind tag is fault)

-- a tag is that of a record, or the end tag of a group
record_or_end : (ending : Ending) (w : WireType) → IsRecordTag ending w
    ⊎ ((n : ℕ) × (ending ≡ by_tag n) × (w ≡ types.EndGroup))
record_or_end (by_limit most) w = inl tt
record_or_end (by_tag n) types.Varint = inl (λ e. cc)
record_or_end (by_tag n) types.Fixed64 = inl (λ e. cc)
record_or_end (by_tag n) types.LengthDelimited = inl (λ e. cc)
record_or_end (by_tag n) types.StartGroup = inl (λ e. cc)
record_or_end (by_tag n) types.EndGroup = inr (n, refl, refl)
record_or_end (by_tag n) types.Fixed32 = inl (λ e. cc)

-- the empty list, which ends here
none_outcome : (l : Limits) (ending : Ending) (old new : List ℕ) → Ends ending old new
    → ListOrFault l ending old
none_outcome l ending old new ends =
    inl (none, new, record { end = old; fields = takes_none l old; ended = ends; last = inl refl })

-- an end tag ends the group of its own field number
end_outcome : (l : Limits) (n k : ℕ) (old behind : List ℕ)
    → Reads old (IsTagSpelling k types.EndGroup) behind → (k ≡ n) ⊎ (k ≢ n)
    → ListOrFault l (by_tag n) old
end_outcome l n k old behind tag (inl same) =
    none_outcome l (by_tag n) old behind
    (subst (λ j. Reads old (IsTagSpelling j types.EndGroup) behind) same tag)
end_outcome l n k old behind tag (inr other) =
    fault_here l (by_tag n) old (InvalidEndGroup k) tt
    (RecordFault.no_tag (other_end k behind tag other))

-- where a list goes on, a tag of a record, an end tag or a fault stands
tag_outcome : (l : Limits) (ending : Ending) (old : List ℕ) → GoesOn ending old
    → ((m : Limits) (new : Ending) (mid : List ℕ) → length mid < length old → ListOrFault m new mid)
    → TagOrFault old → ListOrFault l ending old
tag_outcome l ending old goes lists (inl (n, w, behind, tag)) =
    let shorter = rest_below n w old behind tag in
    ⊎_elim
    (λ is. after_payload l ending n w old behind goes tag is
    (λ m mid le. lists m ending mid (omega arith))
    (payload_outcome l n w behind (λ m. lists m (by_tag n) behind shorter)))
    (λ end. subst (λ g. ListOrFault l g old) (sym end.1)
    (end_outcome l end.0 n old behind
    (subst (λ v. Reads old (IsTagSpelling n v) behind) end.2 tag) (cases_eq n end.0)))
    (record_or_end ending w)
tag_outcome l ending old goes lists (inr (e, fault)) =
    fault_here l ending old e goes (RecordFault.no_tag (bad_tag fault))

-- a list ends or goes on
end_or_more : (ending : Ending) (old : List ℕ) → Ends ending old old ⊎ GoesOn ending old
end_or_more (by_limit most) old = ⊎_elim inr (λ few. inl (few, refl)) (cases_lt most (length old))
end_or_more (by_tag n) old = inr tt

-- a list of fewer bytes than the fuel
list_within : (fuel : ℕ) (l : Limits) (ending : Ending) (old : List ℕ) → length old < fuel
    → ListOrFault l ending old
list_within zero l ending old short = absurd (omega arith)
list_within (suc fuel) l ending old short =
    ⊎_elim
    (none_outcome l ending old old)
    (λ goes. tag_outcome l ending old goes
    (λ m new mid below. list_within fuel m new mid (omega arith)) (tag_or_fault_lemma old))
    (end_or_more ending old)

-- ---- the laws

pub list_or_fault_lemma : ListOrFaultStands
list_or_fault_lemma l ending old = list_within (suc (length old)) l ending old (omega arith)

pub payload_or_fault_lemma : PayloadOrFaultStands
payload_or_fault_lemma l n w old =
    payload_outcome l n w old (λ m. list_or_fault_lemma m (by_tag n) old)
