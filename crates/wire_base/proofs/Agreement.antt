-- Decoding and skipping of the same bytes.
use Rattle.std.proofs.Common.{◌≡◌, ◌≢◌, ℕ, ◌+◌, ◌-◌, ◌%◌, ◌≤◌, ◌^◌, List, length, Option, Some, None, refl, sym, ap, ◌∙◌, subst, ⊎_elim, arith, length-append}
use Rattle.wire_base.specs.declared.error.DecodeError.{DecodeError}
use Rattle.wire_base.specs.declared.error.DecodeError.TheVariants.{InvalidFieldNumber, InvalidWireType, UnknownFieldLimitExceeded}
use Rattle.wire_base.specs.declared.tag.WireType.{WireType}
use Rattle.wire_base.specs.declared.tag.WireType.TheVariants.{StartGroup}
use Rattle.wire_base.specs.AgreementLaws.{SkippedWhereDecoded, RefusedAlike, HasRoomFor, RoomSuffices, BodyWhereDecoded}
use Rattle.wire_base.specs.Charge.{payload_charge, payload_count, charge, count}
use Rattle.wire_base.specs.Delimited.{IsDelimited, DelimitedFault}
use Rattle.wire_base.specs.Ending.{Ending, by_tag}
use Rattle.wire_base.specs.Fault.{NextTagFault, bad_tag, other_end, PayloadFault, RecordFault, ListFault}
use Rattle.wire_base.specs.Field.{Payload, varint, fixed64, fixed32, bytes, group, Fields, none, field, type_of}
use Rattle.wire_base.specs.Limits.{Limits, Charge, HasRoom, Fits, each_less, one_field, bytes_charge, left_after, inner, less, uncounted}
use Rattle.wire_base.specs.Read.{Reads}
use Rattle.wire_base.specs.Spells.{SpellsPayload, Spells, IsPayload}
use Rattle.wire_base.specs.Tag.{TagFault, tag_error}
use Rattle.wire_base.specs.Varint.{VarintFault}
use Rattle.std.proofs.lemmas.Bool.{cases_lt}
use Rattle.wire_base.proofs.FieldLaws.{body_of, rest_below}
use Rattle.wire_base.proofs.FaultLaws.{no_payload_beside_fault_lemma, one_payload_fault_lemma}
use Rattle.wire_base.proofs.PlainReader.{payload_or_fault_lemma}
use Rattle.wire_base.proofs.ReadLaws.{Reads-as}
use Rattle.wire_base.proofs.Takes.{last_before}
use Rattle.wire_base.proofs.LimitsLaws.{HaveRoom-none, uncounted_slot}
use Rattle.wire_base.proofs.TagLaws.{tag_error-large, tag_error-type, tag_error-small, tag_error-none}

-- ---- skipping what is decoded

-- a charge within the levels fits where nothing is counted
fits_uncounted : (c : Charge) (levels : ℕ) → c.depth ≤ levels → Fits c (uncounted levels)
fits_uncounted c levels h =
    record {
      depth = h;
      counts = record { unknown_fields = tt; element_memory = tt; unknown_bytes = tt };
    }

pub skipped_where_decoded_lemma : SkippedWhereDecoded
skipped_where_decoded_lemma l n w p old new h =
    record { read = h.read; fits = fits_uncounted (payload_charge p) l.depth h.fits.depth }

mutual
  payload_alike : (l : Limits) (n : ℕ) (w : WireType) (old : List ℕ) (e : DecodeError)
      → PayloadFault l n w old e → e ≢ UnknownFieldLimitExceeded
      → PayloadFault (uncounted l.depth) n w old e
  payload_alike l n w old e (PayloadFault.no_slot full) other = absurd (other refl)
  payload_alike l n w old e (PayloadFault.no_varint slot fault) other =
      PayloadFault.no_varint (uncounted_slot l.depth) fault
  payload_alike l n w old e (PayloadFault.short_fixed64 slot short) other =
      PayloadFault.short_fixed64 (uncounted_slot l.depth) short
  payload_alike l n w old e (PayloadFault.short_fixed32 slot short) other =
      PayloadFault.short_fixed32 (uncounted_slot l.depth) short
  payload_alike l n w old e (PayloadFault.no_bytes slot fault) other =
      PayloadFault.no_bytes (uncounted_slot l.depth) fault
  payload_alike l n w old e (PayloadFault.no_room b rest slot h full) other = absurd (other refl)
  payload_alike l n w old e (PayloadFault.end_outside slot) other =
      PayloadFault.end_outside (uncounted_slot l.depth)
  payload_alike l n w old e (PayloadFault.no_level slot flat) other =
      PayloadFault.no_level (uncounted_slot l.depth) flat
  payload_alike l n w old e (PayloadFault.in_group slot level fault) other =
      PayloadFault.in_group (uncounted_slot l.depth) level
      (list_alike (inner (left_after l one_field)) (by_tag n) old e fault other)

  record_alike : (l : Limits) (ending : Ending) (old : List ℕ) (e : DecodeError)
      → RecordFault l ending old e → e ≢ UnknownFieldLimitExceeded
      → RecordFault (uncounted l.depth) ending old e
  record_alike l ending old e (RecordFault.no_tag fault) other = RecordFault.no_tag fault
  record_alike l ending old e (RecordFault.bad_payload n w behind tag is fault) other =
      RecordFault.bad_payload n w behind tag is (payload_alike l n w behind e fault other)

  list_alike : (l : Limits) (ending : Ending) (old : List ℕ) (e : DecodeError)
      → ListFault l ending old e → e ≢ UnknownFieldLimitExceeded
      → ListFault (uncounted l.depth) ending old e
  list_alike l ending old e (ListFault.past fs rest taken goes fault) other =
      ListFault.past fs rest
      (record {
        read = taken.read;
        fits = fits_uncounted (charge fs) l.depth taken.fits.depth;
      }) goes (record_alike (left_after l (charge fs)) ending rest e fault other)

pub refused_alike_lemma : RefusedAlike
refused_alike_lemma = payload_alike

-- ---- room for the bytes

pub room_for_less : (left : Option ℕ) (a b : ℕ) → b ≤ a → HasRoom left a → HasRoom left b
room_for_less None a b few h = tt
room_for_less (Some left) a b few h = omega (arith, few, h)

room_behind : (left : Option ℕ) (taken rest all : ℕ) → taken + rest ≤ all → HasRoom left all
    → HasRoom (less left taken) rest
room_behind None taken rest all few h = tt
room_behind (Some left) taken rest all few h = omega (arith, few, h)

slot_there : (l : Limits) (old : List ℕ) → HasRoomFor l old → Fits one_field l
slot_there l old h = record {
  depth = omega arith;
  counts = record {
    unknown_fields = room_for_less l.counts.unknown_fields (length old + 1) 1 (omega arith)
        h.unknown_fields;
    element_memory = (HaveRoom-none l.counts).element_memory;
    unknown_bytes = (HaveRoom-none l.counts).unknown_bytes;
  };
}

-- a payload that stands there has room
bytes_there : (l : Limits) (b old rest : List ℕ) → HasRoomFor l old → Reads old (IsDelimited b) rest
    → Fits (bytes_charge (length b)) (left_after l one_field)
bytes_there l b old rest many h = record {
  depth = omega arith;
  counts = record {
    unknown_fields = (HaveRoom-none (each_less l.counts one_field.counts)).unknown_fields;
    element_memory = (HaveRoom-none (each_less l.counts one_field.counts)).element_memory;
    unknown_bytes = room_behind l.counts.unknown_bytes 0 (length b) (length old)
        (omega (
          arith,
          ap length h.parts ∙ length-append h.text rest,
          ap length h.spelled.parts ∙ length-append h.spelled.text b,
        )) many.unknown_bytes;
  };
}

mutual
  -- a payload counts as at most one more than its bytes
  count_of_payload : (p : Payload) (n : ℕ) (text : List ℕ) → SpellsPayload n p text
      → payload_count p ≤ length text + 1
  count_of_payload (varint v) n text h = omega arith
  count_of_payload (fixed64 v) n text h = omega arith
  count_of_payload (fixed32 v) n text h = omega arith
  count_of_payload (bytes b) n text h = omega arith
  count_of_payload (group fs) n text (end, body, tag) =
      let inside = count_of_list fs body.text body.spelled in
      omega (arith, inside, ap length body.parts ∙ length-append body.text end)

  -- records count as at most their bytes
  pub count_of_list : (fs : Fields) (text : List ℕ) → Spells fs text → count fs ≤ length text
  count_of_list none text h = omega arith
  count_of_list (field n p others) text (behind, rest, tag, payload, more) =
      let one = count_of_payload p n payload.text payload.spelled in
      let below = rest_below n (type_of p) text behind tag in
      let others_few = count_of_list others rest more in
      omega (
        arith,
        one,
        below,
        others_few,
        ap length payload.parts ∙ length-append payload.text rest,
      )

mutual
  -- the length-delimited payloads in a payload are no longer than its bytes
  bytes_of_payload : (p : Payload) (n : ℕ) (text : List ℕ) → SpellsPayload n p text
      → (payload_charge p).counts.unknown_bytes ≤ length text
  bytes_of_payload (varint v) n text h = omega arith
  bytes_of_payload (fixed64 v) n text h = omega arith
  bytes_of_payload (fixed32 v) n text h = omega arith
  bytes_of_payload (bytes b) n text h =
      omega (arith, ap length h.parts ∙ length-append h.text b)
  bytes_of_payload (group fs) n text (end, body, tag) =
      let inside = bytes_of_list fs body.text body.spelled in
      omega (arith, inside, ap length body.parts ∙ length-append body.text end)

  -- and those in records no longer than theirs
  pub bytes_of_list : (fs : Fields) (text : List ℕ) → Spells fs text
      → (charge fs).counts.unknown_bytes ≤ length text
  bytes_of_list none text h = omega arith
  bytes_of_list (field n p others) text (behind, rest, tag, payload, more) =
      let one = bytes_of_payload p n payload.text payload.spelled in
      let below = rest_below n (type_of p) text behind tag in
      let others_few = bytes_of_list others rest more in
      omega (
        arith,
        one,
        below,
        others_few,
        ap length payload.parts ∙ length-append payload.text rest,
      )

mutual
  pub payload_no_elements : (p : Payload) → (payload_charge p).counts.element_memory ≡ 0
  payload_no_elements (varint v) = refl
  payload_no_elements (fixed64 v) = refl
  payload_no_elements (fixed32 v) = refl
  payload_no_elements (bytes b) = refl
  payload_no_elements (group fs) = omega (arith, no_elements fs)

  -- what is kept as unknown takes no memory for elements
  pub no_elements : (fs : Fields) → (charge fs).counts.element_memory ≡ 0
  no_elements none = refl
  no_elements (field n p fs) = omega (arith, payload_no_elements p, no_elements fs)

-- ---- no error but want of slots is want of slots

varint_error : (old : List ℕ) (e : DecodeError) → VarintFault old e → e ≢ UnknownFieldLimitExceeded
varint_error old e (VarintFault.cut_short all few) = λ is. absurd cc
varint_error old e (VarintFault.too_long front tenth rest parts all nine high) = λ is. absurd cc

delimited_error : (old : List ℕ) (e : DecodeError) → DelimitedFault None old e
    → e ≢ UnknownFieldLimitExceeded
delimited_error old e (DelimitedFault.no_length fault) = varint_error old e fault
delimited_error old e (DelimitedFault.too_large len rest h full) = λ is. absurd cc
delimited_error old e (DelimitedFault.cut_short len rest h room few) = λ is. absurd cc

-- where another error stands
other_error : (v : ℕ) (e f : DecodeError) → f ≢ UnknownFieldLimitExceeded → tag_error v ≡ Some f
    → tag_error v ≡ Some e → e ≢ UnknownFieldLimitExceeded
other_error v e f other there is same =
    let both : Some f ≡ Some UnknownFieldLimitExceeded = sym there ∙ is ∙ ap Some same in
    other cc

tag_number_error : (v : ℕ) (e : DecodeError) → tag_error v ≡ Some e → e ≢ UnknownFieldLimitExceeded
tag_number_error v e is =
    ⊎_elim
    (λ small. ⊎_elim
    (λ low. ⊎_elim
    (λ zero. other_error v e InvalidFieldNumber (λ same. absurd cc)
    (tag_error-small v low zero) is)
    (λ some. let no_error : tag_error v ≡ None = tag_error-none v small low some in
    λ same. let both : Some e ≡ None = sym is ∙ no_error in absurd cc)
    (cases_lt v 8))
    (λ high. other_error v e (InvalidWireType (v % 8)) (λ same. absurd cc)
    (tag_error-type v small high) is)
    (cases_lt (v % 8) 6))
    (λ large. other_error v e InvalidFieldNumber (λ same. absurd cc) (tag_error-large v large) is)
    (cases_lt v (2 ^ 32))

next_tag_error : (ending : Ending) (old : List ℕ) (e : DecodeError) → NextTagFault ending old e
    → e ≢ UnknownFieldLimitExceeded
next_tag_error ending old e (bad_tag (TagFault.no_varint fault)) = varint_error old e fault
next_tag_error ending old e (bad_tag (TagFault.no_tag v rest h is)) = tag_number_error v e is
next_tag_error ending old e (other_end k behind tag other) = λ is. absurd cc

mutual
  payload_suffices : (l : Limits) (n : ℕ) (w : WireType) (old : List ℕ) (e : DecodeError)
      → PayloadFault l n w old e → HasRoomFor l old → e ≢ UnknownFieldLimitExceeded
  payload_suffices l n w old e (PayloadFault.no_slot full) many =
      absurd (full (slot_there l old many))
  payload_suffices l n w old e (PayloadFault.no_varint slot fault) many = varint_error old e fault
  payload_suffices l n w old e (PayloadFault.short_fixed64 slot short) many = λ is. absurd cc
  payload_suffices l n w old e (PayloadFault.short_fixed32 slot short) many = λ is. absurd cc
  payload_suffices l n w old e (PayloadFault.no_bytes slot fault) many = delimited_error old e fault
  payload_suffices l n w old e (PayloadFault.no_room b rest slot h full) many =
      absurd (full (bytes_there l b old rest many h))
  payload_suffices l n w old e (PayloadFault.end_outside slot) many = λ is. absurd cc
  payload_suffices l n w old e (PayloadFault.no_level slot flat) many = λ is. absurd cc
  payload_suffices l n w old e (PayloadFault.in_group slot level fault) many =
      list_suffices (inner (left_after l one_field)) (by_tag n) old e fault
      (room_behind l.counts.unknown_fields 1 (length old) (length old + 1) (omega arith)
      many.unknown_fields)
      (room_behind l.counts.unknown_bytes 0 (length old) (length old) (omega arith)
      many.unknown_bytes)

  record_suffices : (l : Limits) (ending : Ending) (old : List ℕ) (e : DecodeError)
      → RecordFault l ending old e → HasRoom l.counts.unknown_fields (length old)
      → HasRoom l.counts.unknown_bytes (length old) → e ≢ UnknownFieldLimitExceeded
  record_suffices l ending old e (RecordFault.no_tag fault) many room =
      next_tag_error ending old e fault
  record_suffices l ending old e (RecordFault.bad_payload n w behind tag is fault) many room =
      let below = rest_below n w old behind tag in
      payload_suffices l n w behind e fault
      (record {
        unknown_fields = room_for_less l.counts.unknown_fields (length old) (length behind + 1)
            (omega (arith, below)) many;
        unknown_bytes = room_for_less l.counts.unknown_bytes (length old) (length behind)
            (omega (arith, below)) room;
      })

  list_suffices : (l : Limits) (ending : Ending) (old : List ℕ) (e : DecodeError)
      → ListFault l ending old e → HasRoom l.counts.unknown_fields (length old)
      → HasRoom l.counts.unknown_bytes (length old) → e ≢ UnknownFieldLimitExceeded
  list_suffices l ending old e (ListFault.past fs rest taken goes fault) many room =
      let read = taken.read in
      let few = count_of_list fs read.text read.spelled in
      let small = bytes_of_list fs read.text read.spelled in
      let all = ap length read.parts ∙ length-append read.text rest in
      record_suffices (left_after l (charge fs)) ending rest e fault
      (room_behind l.counts.unknown_fields (count fs) (length rest) (length old)
      (omega (arith, few, all)) many)
      (room_behind l.counts.unknown_bytes (charge fs).counts.unknown_bytes (length rest)
      (length old) (omega (arith, small, all)) room)

-- what skipping refuses, decoding refuses
refused_with_room : (l : Limits) (n : ℕ) (w : WireType) (old : List ℕ) (e : DecodeError)
    → HasRoomFor l old → PayloadFault (uncounted l.depth) n w old e → PayloadFault l n w old e
refused_with_room l n w old e many h =
    ⊎_elim
    (λ there. absurd (no_payload_beside_fault_lemma (uncounted l.depth) n w old there.1 e there.0 h
    (skipped_where_decoded_lemma l n w there.0 old there.1 there.2)))
    (λ fault. subst (PayloadFault l n w old)
    (one_payload_fault_lemma (uncounted l.depth) n w old fault.0 e
    (payload_alike l n w old fault.0 fault.1
    (payload_suffices l n w old fault.0 fault.1 many)) h) fault.1)
    (payload_or_fault_lemma l n w old)

-- ---- the body of a group

pub body_where_decoded_lemma : BodyWhereDecoded
body_where_decoded_lemma l n fs old new h =
    let payload = Reads-as (IsPayload n StartGroup (group fs)) (SpellsPayload n (group fs)) old new
    h.read h.read.spelled.spelled in
    let body = body_of n fs old new payload in
    record {
      end = body.end;
      fields = record {
        read = body.fields;
        fits = fits_uncounted (charge fs) (l.depth - 1) (omega (arith, h.fits.depth));
      };
      ended = body.tag;
      last = last_before (by_tag n) fs old body.end body.fields (λ rest longer. tt);
    }

pub room_suffices_lemma : RoomSuffices
room_suffices_lemma = record {
  none_wanted =
      λ l n w old many fault. payload_suffices l n w old UnknownFieldLimitExceeded fault many refl;
  taken = λ l n w p old new many h.
      let read = h.read in
      let few = count_of_payload p n read.text read.spelled.spelled in
      let small = bytes_of_payload p n read.text read.spelled.spelled in
      let all = ap length read.parts ∙ length-append read.text new in
      record {
        read = read;
        fits = record {
          depth = h.fits.depth;
          counts = record {
            unknown_fields = room_for_less l.counts.unknown_fields (length old + 1)
                (payload_count p) (omega (arith, few, all)) many.unknown_fields;
            element_memory = subst (HasRoom l.counts.element_memory)
                (sym (payload_no_elements p)) (HaveRoom-none l.counts).element_memory;
            unknown_bytes = room_for_less l.counts.unknown_bytes (length old)
                (payload_charge p).counts.unknown_bytes (omega (arith, small, all))
                many.unknown_bytes;
          };
        };
      };
  refused = refused_with_room;
}
