-- One part is at fault.
use Rattle.std.proofs.Common.{◌≡◌, ℕ, ◌<◌, ◌≤◌, List, length, refl, sym, ap, subst, arith}
use Rattle.wire_base.specs.declared.error.DecodeError.{DecodeError}
use Rattle.wire_base.specs.declared.error.DecodeError.TheVariants.{UnexpectedEof, InvalidWireType, RecursionLimitExceeded, InvalidEndGroup, UnknownFieldLimitExceeded}
use Rattle.wire_base.specs.declared.tag.WireType.{WireType}
use Rattle.wire_base.specs.declared.tag.WireType.TheVariants as types
use Rattle.wire_base.specs.Ending.{Ending, by_limit, by_tag, IsRecordTag}
use Rattle.wire_base.specs.Limits.{Limits, Fits, one_field}
use Rattle.wire_base.specs.Read.{Reads}
use Rattle.wire_base.specs.Tag.{IsTagSpelling, TagFault}
use Rattle.wire_base.specs.TagLaws.{OneTag, NoTagBesideFault, OneTagFault}
use Rattle.wire_base.specs.Varint.{IsSpelling, VarintFault}
use Rattle.wire_base.specs.VarintLaws.{OneVarint, NoVarintBesideFault, OneVarintFault}
use Rattle.wire_read.specs.declared.event.Part.{Part}
use Rattle.wire_read.specs.declared.event.Part.TheVariants as parts
use Rattle.wire_read.specs.Laws.{OnePartFault}
use Rattle.wire_read.specs.Opened.{ending_of}
use Rattle.wire_read.specs.PartFault.{PartFault, PayloadPart}
use Rattle.wire_read.proofs.Places.{end_is_no_payload}

abbrev Same : Part → List ℕ → DecodeError → Part → List ℕ → DecodeError → Type 0
Same part place e other end f = (part ≡ other) × (place ≡ end) × (e ≡ f)

module _ (varints : OneVarint) (beside : NoVarintBesideFault) (once : OneVarintFault) where
  varint_only : (l : Limits) (old : List ℕ) (e : DecodeError) → VarintFault old e
      → (other : Part) (end : List ℕ) (f : DecodeError)
      → PayloadPart l types.Varint old other end f → Same parts.Value old e other end f
  varint_only l old e a other end f (PayloadPart.bad_varint b) = (refl, refl, once old e f a b)

  fixed64_only : (l : Limits) (old : List ℕ) (other : Part) (end : List ℕ) (f : DecodeError)
      → PayloadPart l types.Fixed64 old other end f → Same parts.Value old UnexpectedEof other end f
  fixed64_only l old other end f (PayloadPart.short_fixed64 short) = (refl, refl, refl)

  fixed32_only : (l : Limits) (old : List ℕ) (other : Part) (end : List ℕ) (f : DecodeError)
      → PayloadPart l types.Fixed32 old other end f → Same parts.Value old UnexpectedEof other end f
  fixed32_only l old other end f (PayloadPart.short_fixed32 short) = (refl, refl, refl)

  length_only : (l : Limits) (old : List ℕ) (e : DecodeError) → VarintFault old e
      → (other : Part) (end : List ℕ) (f : DecodeError)
      → PayloadPart l types.LengthDelimited old other end f → Same parts.Length old e other end f
  length_only l old e a other end f (PayloadPart.bad_length b) = (refl, refl, once old e f a b)
  length_only l old e a other end f (PayloadPart.short_payload len mid h short) =
      absurd (beside old end len e h a)
  length_only l old e a other end f (PayloadPart.no_room len mid h there over) =
      absurd (beside old end len e h a)

  short_only : (l : Limits) (old place : List ℕ) (len : ℕ) → Reads old (IsSpelling len) place
      → length place < len → (other : Part) (end : List ℕ) (f : DecodeError)
      → PayloadPart l types.LengthDelimited old other end f
      → Same parts.Payload place UnexpectedEof other end f
  short_only l old place len h few other end f (PayloadPart.bad_length b) =
      absurd (beside old place len f h b)
  short_only l old place len h few other end f (PayloadPart.short_payload k mid g short) =
      (refl, (varints old place end len k h g).1, refl)
  short_only l old place len h few other end f (PayloadPart.no_room k mid g there over) =
      let same = varints old place end len k h g in
      absurd (omega (arith, few, there, same.0, ap length same.1))

  room_only : (l : Limits) (old place : List ℕ) (len : ℕ) → Reads old (IsSpelling len) place
      → len ≤ length place → (other : Part) (end : List ℕ) (f : DecodeError)
      → PayloadPart l types.LengthDelimited old other end f
      → Same parts.Payload place UnknownFieldLimitExceeded other end f
  room_only l old place len h enough other end f (PayloadPart.bad_length b) =
      absurd (beside old place len f h b)
  room_only l old place len h enough other end f (PayloadPart.short_payload k mid g short) =
      let same = varints old place end len k h g in
      absurd (omega (arith, enough, short, same.0, ap length same.1))
  room_only l old place len h enough other end f (PayloadPart.no_room k mid g there over) =
      (refl, (varints old place end len k h g).1, refl)

  payload_part_once : (l : Limits) (w : WireType) (old place : List ℕ) (part : Part)
      (e : DecodeError) → PayloadPart l w old part place e
      → (other : Part) (end : List ℕ) (f : DecodeError) → PayloadPart l w old other end f
      → Same part place e other end f
  payload_part_once l w old place part e (PayloadPart.bad_varint a) other end f b =
      varint_only l old e a other end f b
  payload_part_once l w old place part e (PayloadPart.short_fixed64 a) other end f b =
      fixed64_only l old other end f b
  payload_part_once l w old place part e (PayloadPart.short_fixed32 a) other end f b =
      fixed32_only l old other end f b
  payload_part_once l w old place part e (PayloadPart.bad_length a) other end f b =
      length_only l old e a other end f b
  payload_part_once l w old place part e (PayloadPart.short_payload len mid h few) other end f b =
      short_only l old place len h few other end f b
  payload_part_once l w old place part e (PayloadPart.no_room len mid h there over) other end f b =
      room_only l old place len h there other end f b

  module _ (tags : OneTag) (no_tag : NoTagBesideFault) (one_fault : OneTagFault) where
    tag_only : (l : Limits) (ending : Ending) (rest : List ℕ) (other : Part) (end : List ℕ)
        (f : DecodeError) → PartFault l ending rest other end f
        → (e : DecodeError) → TagFault rest e → Same parts.Tag rest e other end f
    tag_only l ending rest other end f (PartFault.bad_tag b) e a =
        (refl, refl, one_fault rest e f a b)
    tag_only l ending rest other end f (PartFault.no_slot n w behind tag is full) e a =
        absurd (no_tag rest behind n w e tag a)
    tag_only l ending rest other end f (PartFault.no_level n behind tag fits level) e a =
        absurd (no_tag rest behind n types.StartGroup e tag a)
    tag_only l ending rest other end f (PartFault.end_outside n behind tag fits) e a =
        absurd (no_tag rest behind n types.EndGroup e tag a)
    tag_only l ending rest other end f (PartFault.other_end k behind tag differs) e a =
        absurd (no_tag rest behind k types.EndGroup e tag a)
    tag_only l ending rest other end f (PartFault.in_payload n w behind p q tag fits bad) e a =
        absurd (no_tag rest behind n w e tag a)

    slot_only : (l : Limits) (ending : Ending) (rest : List ℕ) (other : Part) (end : List ℕ)
        (f : DecodeError) → PartFault l ending rest other end f
        → (n : ℕ) (w : WireType) (behind : List ℕ) → Reads rest (IsTagSpelling n w) behind
        → IsRecordTag ending w → ¬ Fits one_field l
        → Same parts.Tag rest UnknownFieldLimitExceeded other end f
    slot_only l ending rest other end f (PartFault.bad_tag b) n w behind tag is full =
        absurd (no_tag rest behind n w f tag b)
    slot_only l ending rest other end f (PartFault.no_slot m v after t also no_slot) n w behind tag is full =
        (refl, refl, refl)
    slot_only l ending rest other end f (PartFault.no_level m after t fits level) n w behind tag is full =
        absurd (full fits)
    slot_only l ending rest other end f (PartFault.end_outside m after t fits) n w behind tag is full =
        absurd (full fits)
    slot_only l ending rest other end f (PartFault.other_end k after t differs) n w behind tag is full =
        absurd (is (tags rest behind after n k w types.EndGroup tag t).1)
    slot_only l ending rest other end f (PartFault.in_payload m v after p q t fits bad) n w behind tag is full =
        absurd (full fits)

    level_only : (l : Limits) (ending : Ending) (rest : List ℕ) (other : Part) (end : List ℕ)
        (f : DecodeError) → PartFault l ending rest other end f
        → (n : ℕ) (behind : List ℕ) → Reads rest (IsTagSpelling n types.StartGroup) behind
        → Fits one_field l → Same parts.Tag rest RecursionLimitExceeded other end f
    level_only l ending rest other end f (PartFault.bad_tag b) n behind tag slot =
        absurd (no_tag rest behind n types.StartGroup f tag b)
    level_only l ending rest other end f (PartFault.no_slot m v after t also full) n behind tag slot =
        absurd (full slot)
    level_only l ending rest other end f (PartFault.no_level m after t fits level) n behind tag slot =
        (refl, refl, refl)
    level_only l ending rest other end f (PartFault.end_outside m after t fits) n behind tag slot =
        let bad = (tags rest behind after n m types.StartGroup types.EndGroup tag t).1 in absurd cc
    level_only l ending rest other end f (PartFault.other_end k after t differs) n behind tag slot =
        let bad = (tags rest behind after n k types.StartGroup types.EndGroup tag t).1 in absurd cc
    level_only l ending rest other end f (PartFault.in_payload m v after p q t fits bad) n behind tag slot =
        absurd ((end_is_no_payload l v after end other f bad).1
        (sym (tags rest behind after n m types.StartGroup v tag t).1))

    outside_only : (l : Limits) (most : ℕ) (rest : List ℕ) (other : Part) (end : List ℕ)
        (f : DecodeError) → PartFault l (by_limit most) rest other end f
        → (n : ℕ) (behind : List ℕ) → Reads rest (IsTagSpelling n types.EndGroup) behind
        → Fits one_field l → Same parts.EndTag rest (InvalidWireType 4) other end f
    outside_only l most rest other end f (PartFault.bad_tag b) n behind tag slot =
        absurd (no_tag rest behind n types.EndGroup f tag b)
    outside_only l most rest other end f (PartFault.no_slot m v after t also full) n behind tag slot =
        absurd (full slot)
    outside_only l most rest other end f (PartFault.no_level m after t fits level) n behind tag slot =
        let bad = (tags rest behind after n m types.EndGroup types.StartGroup tag t).1 in absurd cc
    outside_only l most rest other end f (PartFault.end_outside m after t fits) n behind tag slot =
        (refl, refl, refl)
    outside_only l most rest other end f (PartFault.in_payload m v after p q t fits bad) n behind tag slot =
        absurd ((end_is_no_payload l v after end other f bad).0
        (sym (tags rest behind after n m types.EndGroup v tag t).1))

    other_only : (l : Limits) (g : ℕ) (rest : List ℕ) (other : Part) (end : List ℕ)
        (f : DecodeError) → PartFault l (by_tag g) rest other end f
        → (n : ℕ) (behind : List ℕ) → Reads rest (IsTagSpelling n types.EndGroup) behind
        → Same parts.EndTag rest (InvalidEndGroup n) other end f
    other_only l g rest other end f (PartFault.bad_tag b) n behind tag =
        absurd (no_tag rest behind n types.EndGroup f tag b)
    other_only l g rest other end f (PartFault.no_slot m v after t also full) n behind tag =
        absurd (also (sym (tags rest behind after n m types.EndGroup v tag t).1))
    other_only l g rest other end f (PartFault.no_level m after t fits level) n behind tag =
        let bad = (tags rest behind after n m types.EndGroup types.StartGroup tag t).1 in absurd cc
    other_only l g rest other end f (PartFault.other_end k after t differs) n behind tag =
        (refl, refl, ap InvalidEndGroup (tags rest behind after n k types.EndGroup types.EndGroup tag t).0)
    other_only l g rest other end f (PartFault.in_payload m v after p q t fits bad) n behind tag =
        absurd ((end_is_no_payload l v after end other f bad).0
        (sym (tags rest behind after n m types.EndGroup v tag t).1))

    payload_only : (l : Limits) (ending : Ending) (rest : List ℕ) (other : Part) (end : List ℕ)
        (f : DecodeError) → PartFault l ending rest other end f
        → (n : ℕ) (w : WireType) (behind place : List ℕ) (part : Part) (e : DecodeError)
        → Reads rest (IsTagSpelling n w) behind → Fits one_field l
        → PayloadPart l w behind part place e → Same part place e other end f
    payload_only l ending rest other end f (PartFault.bad_tag b) n w behind place part e tag slot at_fault =
        absurd (no_tag rest behind n w f tag b)
    payload_only l ending rest other end f
        (PartFault.no_slot m v after t also full) n w behind place part e tag slot at_fault =
        absurd (full slot)
    payload_only l ending rest other end f
        (PartFault.no_level m after t fits level) n w behind place part e tag slot at_fault =
        absurd ((end_is_no_payload l w behind place part e at_fault).1
        (tags rest behind after n m w types.StartGroup tag t).1)
    payload_only l ending rest other end f
        (PartFault.end_outside m after t fits) n w behind place part e tag slot at_fault =
        absurd ((end_is_no_payload l w behind place part e at_fault).0
        (tags rest behind after n m w types.EndGroup tag t).1)
    payload_only l ending rest other end f
        (PartFault.other_end k after t differs) n w behind place part e tag slot at_fault =
        absurd ((end_is_no_payload l w behind place part e at_fault).0
        (tags rest behind after n k w types.EndGroup tag t).1)
    payload_only l ending rest other end f
        (PartFault.in_payload m v after p q t fits bad) n w behind place part e tag slot at_fault =
        let same = tags rest behind after n m w v tag t in
        payload_part_once l w behind place part e at_fault other end f
        (subst (λ x. PayloadPart l w x other end f) (sym same.2)
        (subst (λ x. PayloadPart l x after other end f) (sym same.1) bad))

    part_once : (l : Limits) (ending : Ending) (rest place : List ℕ) (part : Part) (e : DecodeError)
        → PartFault l ending rest part place e
        → (other : Part) (end : List ℕ) (f : DecodeError) → PartFault l ending rest other end f
        → Same part place e other end f
    part_once l ending rest place part e (PartFault.bad_tag a) other end f b =
        tag_only l ending rest other end f b e a
    part_once l ending rest place part e (PartFault.no_slot n w behind tag is full) other end f b =
        slot_only l ending rest other end f b n w behind tag is full
    part_once l ending rest place part e (PartFault.no_level n behind tag slot level) other end f b =
        level_only l ending rest other end f b n behind tag slot
    part_once l ending rest place part e
        (PartFault.end_outside {most = most} n behind tag slot) other end f b =
        outside_only l most rest other end f b n behind tag slot
    part_once l ending rest place part e
        (PartFault.other_end {n = g} k behind tag differs) other end f b =
        other_only l g rest other end f b k behind tag
    part_once l ending rest place part e
        (PartFault.in_payload n w behind p q tag slot bad) other end f b =
        payload_only l ending rest other end f b n w behind place part e tag slot bad

    pub one_part : OnePartFault
    one_part l levels rest part other place end e f a b =
        part_once l (ending_of levels) rest place part e a other end f b
