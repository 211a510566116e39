-- Faults of one payload: none beside a reading within the limits, and one at most.
use Rattle.std.proofs.Common.{◌≡◌, ℕ, ◌<◌, List, ◌++◌, length, None, refl, ap, ◌∙◌, subst, arith, length-append}
use Rattle.wire_base.specs.declared.error.DecodeError.{DecodeError}
use Rattle.wire_base.specs.declared.error.DecodeError.TheVariants.{UnexpectedEof, InvalidWireType, RecursionLimitExceeded, UnknownFieldLimitExceeded}
use Rattle.wire_base.specs.declared.tag.WireType.{WireType}
use Rattle.wire_base.specs.declared.tag.WireType.TheVariants as types
use Rattle.wire_base.specs.Charge.{payload_charge}
use Rattle.wire_base.specs.Delimited.{IsDelimited, DelimitedFault}
use Rattle.wire_base.specs.Ending.{by_tag}
use Rattle.wire_base.specs.Fault.{PayloadFault, ListFault}
use Rattle.wire_base.specs.Field.{Payload, varint, fixed64, fixed32, bytes, group, Fields}
use Rattle.wire_base.specs.Limits.{Limits, Fits, one_field, bytes_charge, left_after, inner}
use Rattle.wire_base.specs.Read.{Reads}
use Rattle.wire_base.specs.Spells.{SpellsPayload, IsPayload}
use Rattle.wire_base.specs.Varint.{VarintFault}
use Rattle.wire_base.proofs.DelimitedLaws.{beside_fault, one_fault, same_delimited}
use Rattle.wire_base.proofs.LimitsLaws.{Fits-second}
use Rattle.wire_base.proofs.ReadLaws.{Reads-as}
use Rattle.wire_base.proofs.VarintLaws.{no_varint_beside_fault_lemma}

-- ---- one payload

-- the text of a payload with this value
pub payload_text_of : (n : ℕ) (w : WireType) (p : Payload) (old new : List ℕ)
    → Reads old (IsPayload n w p) new → Reads old (SpellsPayload n p) new
payload_text_of n w p old new h =
    Reads-as (IsPayload n w p) (SpellsPayload n p) old new h h.spelled.spelled

-- the payload behind the tag of a group is a group
pub group_of : (p : Payload) (n : ℕ) (old new : List ℕ) → Reads old (IsPayload n types.StartGroup p) new
    → (fs : Fields) × (p ≡ group fs) × Reads old (SpellsPayload n (group fs)) new
group_of (group fs) n old new h =
    (fs, refl, payload_text_of n types.StartGroup (group fs) old new h)
group_of p n old new h = let kind = h.spelled.kind in absurd (cc)

-- a varint's payload, and a fault in its place
pub varint_beside_fault : (p : Payload) (n : ℕ) (old new : List ℕ) (e : DecodeError)
    → Reads old (IsPayload n types.Varint p) new → VarintFault old e → ⊥
varint_beside_fault (varint v) n old new e h fault =
    no_varint_beside_fault_lemma old new v e
    (payload_text_of n types.Varint (varint v) old new h) fault
varint_beside_fault p n old new e h fault = let kind = h.spelled.kind in absurd (cc)

-- a text of k bytes stands in k bytes at least
pub long_enough : (old text new : List ℕ) (k : ℕ) → old ≡ text ++ new → length text ≡ k → length old < k
    → ⊥
long_enough old text new k e same short = omega (arith, ap length e ∙ length-append text new)

pub fixed64_not_short : (p : Payload) (n : ℕ) (old new : List ℕ)
    → Reads old (IsPayload n types.Fixed64 p) new → length old < 8 → ⊥
fixed64_not_short (fixed64 v) n old new h short =
    long_enough old h.text new 8 h.parts h.spelled.spelled.0 short
fixed64_not_short p n old new h short = let kind = h.spelled.kind in absurd (cc)

pub fixed32_not_short : (p : Payload) (n : ℕ) (old new : List ℕ)
    → Reads old (IsPayload n types.Fixed32 p) new → length old < 4 → ⊥
fixed32_not_short (fixed32 v) n old new h short =
    long_enough old h.text new 4 h.parts h.spelled.spelled.0 short
fixed32_not_short p n old new h short = let kind = h.spelled.kind in absurd (cc)

-- a length-delimited payload, and a fault in its place
pub bytes_beside_fault : (p : Payload) (n : ℕ) (old new : List ℕ) (e : DecodeError)
    → Reads old (IsPayload n types.LengthDelimited p) new → DelimitedFault None old e → ⊥
bytes_beside_fault (bytes b) n old new e h fault =
    beside_fault None b old new e
    (payload_text_of n types.LengthDelimited (bytes b) old new h) tt fault
bytes_beside_fault p n old new e h fault = let kind = h.spelled.kind in absurd (cc)

-- a length-delimited payload, and one in its place for which there is no room
pub room_beside_fault : (l : Limits) (p : Payload) (n : ℕ) (b rest old new : List ℕ)
    → Reads old (IsPayload n types.LengthDelimited p) new → Fits (payload_charge p) l
    → Reads old (IsDelimited b) rest → ¬ Fits (bytes_charge (length b)) (left_after l one_field) → ⊥
room_beside_fault l (bytes a) n b rest old new h fits other full =
    let same = same_delimited a b old new rest
    (payload_text_of n types.LengthDelimited (bytes a) old new h) other in
    full (subst (λ t. Fits (bytes_charge (length t)) (left_after l one_field)) same.0
    (Fits-second l one_field (bytes_charge (length a)) fits))
room_beside_fault l p n b rest old new h fits other full =
    let kind = h.spelled.kind in absurd (cc)

-- ---- one fault of a payload

-- with no slot left there is this fault alone
pub no_slot_only : (l : Limits) (n : ℕ) (w : WireType) (old : List ℕ) (f : DecodeError)
    → ¬ Fits one_field l → PayloadFault l n w old f → UnknownFieldLimitExceeded ≡ f
no_slot_only l n w old f full (PayloadFault.no_slot also) = refl
no_slot_only l n w old f full (PayloadFault.no_varint slot fault) = absurd (full slot)
no_slot_only l n w old f full (PayloadFault.short_fixed64 slot short) = absurd (full slot)
no_slot_only l n w old f full (PayloadFault.short_fixed32 slot short) = absurd (full slot)
no_slot_only l n w old f full (PayloadFault.no_bytes slot fault) = absurd (full slot)
no_slot_only l n w old f full (PayloadFault.no_room b rest slot h over) = absurd (full slot)
no_slot_only l n w old f full (PayloadFault.end_outside slot) = absurd (full slot)
no_slot_only l n w old f full (PayloadFault.no_level slot flat) = absurd (full slot)
no_slot_only l n w old f full (PayloadFault.in_group slot level fault) = absurd (full slot)

pub varint_only : (l : Limits) (n : ℕ) (old : List ℕ) (f : DecodeError) → Fits one_field l
    → PayloadFault l n types.Varint old f → VarintFault old f
varint_only l n old f slot (PayloadFault.no_slot full) = absurd (full slot)
varint_only l n old f slot (PayloadFault.no_varint also fault) = fault

pub fixed64_only : (l : Limits) (n : ℕ) (old : List ℕ) (f : DecodeError) → Fits one_field l
    → PayloadFault l n types.Fixed64 old f → UnexpectedEof ≡ f
fixed64_only l n old f slot (PayloadFault.no_slot full) = absurd (full slot)
fixed64_only l n old f slot (PayloadFault.short_fixed64 also short) = refl

pub fixed32_only : (l : Limits) (n : ℕ) (old : List ℕ) (f : DecodeError) → Fits one_field l
    → PayloadFault l n types.Fixed32 old f → UnexpectedEof ≡ f
fixed32_only l n old f slot (PayloadFault.no_slot full) = absurd (full slot)
fixed32_only l n old f slot (PayloadFault.short_fixed32 also short) = refl

-- with a fault of its length a length-delimited payload has this fault alone
pub bytes_only : (l : Limits) (n : ℕ) (old : List ℕ) (e f : DecodeError) → Fits one_field l
    → DelimitedFault None old e → PayloadFault l n types.LengthDelimited old f → e ≡ f
bytes_only l n old e f slot fault (PayloadFault.no_slot full) = absurd (full slot)
bytes_only l n old e f slot fault (PayloadFault.no_bytes also other) =
    one_fault None old e f fault other
bytes_only l n old e f slot fault (PayloadFault.no_room b rest also h over) =
    absurd (beside_fault None b old rest e h tt fault)

-- and this one alone where it stands
pub room_only : (l : Limits) (n : ℕ) (old b rest : List ℕ) (f : DecodeError) → Fits one_field l
    → Reads old (IsDelimited b) rest → PayloadFault l n types.LengthDelimited old f
    → UnknownFieldLimitExceeded ≡ f
room_only l n old b rest f slot h (PayloadFault.no_slot full) = absurd (full slot)
room_only l n old b rest f slot h (PayloadFault.no_bytes also fault) =
    absurd (beside_fault None b old rest f h tt fault)
room_only l n old b rest f slot h (PayloadFault.no_room c end also other over) = refl

pub end_only : (l : Limits) (n : ℕ) (old : List ℕ) (f : DecodeError) → Fits one_field l
    → PayloadFault l n types.EndGroup old f → InvalidWireType 4 ≡ f
end_only l n old f slot (PayloadFault.no_slot full) = absurd (full slot)
end_only l n old f slot (PayloadFault.end_outside also) = refl

-- with no level left a group has this fault alone
pub no_level_once : (l : Limits) (n : ℕ) (old : List ℕ) (f : DecodeError) → Fits one_field l
    → l.depth ≡ 0 → PayloadFault l n types.StartGroup old f → RecursionLimitExceeded ≡ f
no_level_once l n old f slot flat (PayloadFault.no_slot full) = absurd (full slot)
no_level_once l n old f slot flat (PayloadFault.no_level also flat2) = refl
no_level_once l n old f slot flat (PayloadFault.in_group also level fault) = absurd (omega arith)

-- a fault inside a group is its one fault, where the inside has one
pub in_group_once : (l : Limits) (n : ℕ) (old : List ℕ) (e f : DecodeError) → Fits one_field l
    → 0 < l.depth
    → ((g : DecodeError) → ListFault (inner (left_after l one_field)) (by_tag n) old g → e ≡ g)
    → PayloadFault l n types.StartGroup old f → e ≡ f
in_group_once l n old e f slot level again (PayloadFault.no_slot full) = absurd (full slot)
in_group_once l n old e f slot level again (PayloadFault.no_level also flat) = absurd (omega arith)
in_group_once l n old e f slot level again (PayloadFault.in_group also level2 fault) = again f fault
