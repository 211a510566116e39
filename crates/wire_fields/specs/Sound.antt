-- Records whose numbers, lengths and bytes are in range, as those are that bytes spell.
use Rattle.std.proofs.Common.{ℕ, List}
use Rattle.wire_codec.specs.Field.{Payload, varint, fixed64, fixed32, bytes, group, Fields, none, field, push}
use Rattle.wire_codec.specs.FieldNumber.{IsFieldNumber}
use Rattle.wire_codec.specs.InRange.{IsPayloadFitting, AreFitting, IsPayloadNumbered, AreNumbered}
use Rattle.wire_codec.specs.Laws.{SpelledAreFitting}
use Rattle.wire_codec.specs.RecordLaws.{SpelledAreNumbered}
use Rattle.wire_codec.specs.Spells.{SpellsPayload, Spells}
use Rattle.wire_codec.proofs.Fitting.{AreBytes, read_bytes}

abbrev mutual
  pub HasBytes : Payload → Type 0
  HasBytes (varint v) = Unit {0}
  HasBytes (fixed64 v) = Unit {0}
  HasBytes (fixed32 v) = Unit {0}
  HasBytes (bytes b) = AreBytes b
  HasBytes (group fs) = HaveBytes fs

  pub HaveBytes : Fields → Type 0
  HaveBytes none = Unit {0}
  HaveBytes (field n p rest) = HasBytes p × HaveBytes rest

mutual
  payload_bytes : (p : Payload) (n : ℕ) (t : List ℕ) → AreBytes t → SpellsPayload n p t
      → HasBytes p
  payload_bytes (varint v) n t all h = tt
  payload_bytes (fixed64 v) n t all h = tt
  payload_bytes (fixed32 v) n t all h = tt
  payload_bytes (bytes b) n t all h = (read_bytes _ t b h all).1
  payload_bytes (group fs) n t all (end, body, tag) =
      records_bytes fs body.text (read_bytes (Spells fs) t end body all).0 body.spelled

  records_bytes : (fs : Fields) (t : List ℕ) → AreBytes t → Spells fs t → HaveBytes fs
  records_bytes none t all h = tt
  records_bytes (field n p others) t all (behind, rest, tag, payload, more) =
      let after_tag = read_bytes _ t behind tag all in
      let after = read_bytes (SpellsPayload n p) behind rest payload after_tag.1 in
      let here = payload_bytes p n payload.text after.0 payload.spelled in
      (here, records_bytes others rest after.1 more)

-- a record, and records, whose numbers, lengths and bytes are in range
pub record IsSound (n : ℕ) (p : Payload) : Type 0 where
  pub number : IsFieldNumber n
  pub fits : IsPayloadFitting p
  pub numbered : IsPayloadNumbered p
  pub of_bytes : HasBytes p

pub record AreSound (fs : Fields) : Type 0 where
  pub fit : AreFitting fs
  pub numbered : AreNumbered fs
  pub of_bytes : HaveBytes fs

pub first_is_sound : {n : ℕ} {p : Payload} (rest : Fields) → AreSound (field n p rest) → IsSound n p
first_is_sound rest h = record {
  number = h.numbered.0;
  fits = h.fit.0;
  numbered = h.numbered.1;
  of_bytes = h.of_bytes.0;
}

pub others_are_sound : (n : ℕ) (p : Payload) {rest : Fields} → AreSound (field n p rest)
    → AreSound rest
others_are_sound n p h =
    record { fit = h.fit.1; numbered = h.numbered.2; of_bytes = h.of_bytes.1 }

pub body_is_sound : (n : ℕ) (fs : Fields) → IsSound n (group fs) → AreSound fs
body_is_sound n fs h = record { fit = h.fits; numbered = h.numbered; of_bytes = h.of_bytes }

pub spelled_are_sound : SpelledAreFitting → SpelledAreNumbered → (fs : Fields) (t : List ℕ)
    → AreBytes t → Spells fs t → AreSound fs
spelled_are_sound fitting numbers fs t all h = record {
  fit = fitting fs t all h;
  numbered = numbers fs t h;
  of_bytes = records_bytes fs t all h;
}

-- ---- a record more

pub fitting_more : (fs : Fields) (n : ℕ) (p : Payload) → AreFitting fs → IsPayloadFitting p
    → AreFitting (push fs n p)
fitting_more none n p h k = (k, tt)
fitting_more (field m q fs) n p h k = (h.0, fitting_more fs n p h.1 k)

pub numbered_more : (fs : Fields) (n : ℕ) (p : Payload) → AreNumbered fs → IsFieldNumber n
    → IsPayloadNumbered p → AreNumbered (push fs n p)
numbered_more none n p h number k = (number, k, tt)
numbered_more (field m q fs) n p h number k = (h.0, h.1, numbered_more fs n p h.2 number k)
