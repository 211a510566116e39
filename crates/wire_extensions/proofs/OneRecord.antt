-- A record that is read from its own text.
use Rattle.std.proofs.Common.{◌≡◌, ℕ, List, [], ◌++◌, sym, ap, ◌∙◌, subst}
use Rattle.std.proofs.lemmas.List.{append-nil}
use Rattle.wire_codec.specs.DecodeError.{DecodeError}
use Rattle.wire_codec.specs.Field.{Payload, none, field, type_of}
use Rattle.wire_codec.specs.FieldNumber.{IsFieldNumber}
use Rattle.wire_codec.specs.Folds.{Step}
use Rattle.wire_codec.specs.InRange.{IsPayloadFitting, IsPayloadNumbered}
use Rattle.wire_codec.specs.Limits.{Limits, Charge}
use Rattle.wire_codec.specs.Read.{Reads}
use Rattle.wire_codec.specs.RecordLaws.{PayloadIsField, ShortestTextSpells}
use Rattle.wire_codec.specs.Spells.{Spells, IsPayload}
use Rattle.wire_codec.specs.Tag.{IsTagSpelling, TagFault, tag_text}
use Rattle.wire_codec.specs.Taking.{TakesRecord, IsCharged, NotTaken}
use Rattle.wire_codec.specs.TakingLaws.{RecordsInOrder}
use Rattle.wire_codec.specs.Text.{payload_text, record_text}
use Rattle.wire_codec.specs.WireType.{WireType}
use Rattle.wire_extensions.specs.Extension.{TakesOne, TakesNone}

-- a tag, and the payload to the end
pub record IsRecord (n : ℕ) (p : Payload) (text : List ℕ) : Type 0 where
  pub behind : List ℕ
  pub tag : Reads text (IsTagSpelling n (type_of p)) behind
  pub payload : Reads behind (IsPayload n (type_of p) p) []

module _ (parts : PayloadIsField) (spells : ShortestTextSpells) (n : ℕ) (p : Payload)
    (number : IsFieldNumber n) (fitting : IsPayloadFitting p) (text : List ℕ)
    (is : text ≡ record_text n p) where
  pub is_record : IsPayloadNumbered p → IsRecord n p text
  is_record numbered =
      let whole = ap (λ x. tag_text n (type_of p) ++ x) (append-nil (payload_text n p)) ∙ sym is in
      let h = (parts n p text).0 (subst (Spells (field n p none)) whole
      (spells (field n p none) (fitting, tt) (number, numbered, tt))) in
      record {
        behind = h.0;
        tag = h.1;
        payload = record { text = h.0; parts = sym (append-nil h.0); spelled = h.2 };
      }

module _ (order : RecordsInOrder) (n : ℕ) (p : Payload) (text : List ℕ) where
  pub no_fault : IsRecord n p text → (e : DecodeError) → TagFault text e → ⊥
  no_fault h e fault = order.tag_fault text h.behind n (type_of p) e h.tag fault

  module _ {V : Type 0} (takes : Step V) (l : Limits) (k : ℕ) (w : WireType) (m : V)
      (rest : List ℕ) (tag : Reads text (IsTagSpelling k w) rest) where
    taken : (c : Charge) (z : V) (new : List ℕ) → TakesRecord takes l k w m rest c z new
        → IsRecord n p text → TakesOne takes l n p m c z
    taken c z new h is =
        let same = order.reading.tag text is.behind rest n k (type_of p) w is.tag tag in
        let read : Reads rest (IsPayload k w p) []
        = rw (sym same.0, sym same.1, sym same.2) is.payload in
        let one = order.reading.payload k w p h.payload rest [] new read h.read.read in
        record {
          step = rw (same.0, one.0) h.step;
          fits = h.read.fits;
        }

    pub charged : (after : Limits) (z : V) (new : List ℕ)
        → IsCharged l after (λ c. TakesRecord takes l k w m rest c z new)
        → IsRecord n p text → IsCharged l after (λ c. TakesOne takes l n p m c z)
    charged after z new h is = record {
      charge = h.charge;
      taken = taken h.charge z new h.taken is;
      left = h.left;
    }

    pub untaken : NotTaken (TakesRecord takes l k w m rest) → IsRecord n p text
        → TakesNone takes l n p m
    untaken not is c z h =
        let same = order.reading.tag text is.behind rest n k (type_of p) w is.tag tag in
        not c z [] (record {
          payload = p;
          read = record {
            read = rw (sym same.0, sym same.1, sym same.2) is.payload;
            fits = h.fits;
          };
          step = rw (sym same.0) h.step;
        })
