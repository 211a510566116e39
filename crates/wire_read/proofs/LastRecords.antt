-- The last record of a number, record by record.
use Rattle.std.proofs.Common.{◌≡◌, ◌≢◌, ℕ, ◌<◌, List, [], length, ◌++◌, append-nil, append_assoc, refl, sym, ap, ◌∙◌, subst, Option, Some, None}
use Rattle.wire_base.specs.declared.error.DecodeError.{DecodeError}
use Rattle.wire_base.specs.declared.tag.WireType.{WireType}
use Rattle.wire_base.specs.Charge.{charge, payload_charge}
use Rattle.wire_base.specs.Ending.{by_input}
use Rattle.wire_base.specs.Fault.{bad_tag, PayloadFault, ListFault, no_tag, bad_payload, past}
use Rattle.wire_base.specs.Field.{Payload, Fields, none, field, joined, push, type_of}
use Rattle.wire_base.specs.Limits.{Limits, uncounted}
use Rattle.wire_base.specs.LimitsLaws.{ChargesAddUp}
use Rattle.wire_base.specs.Read.{Reads}
use Rattle.wire_base.specs.RecordLaws.{JoinedTextsSpell, RecordsOneByOne}
use Rattle.wire_base.specs.Spells.{Spells, IsPayload}
use Rattle.wire_base.specs.Tag.{IsTagSpelling, TagFault}
use Rattle.wire_base.specs.Taken.{TakesFields, TakesPayload}
use Rattle.wire_read.specs.declared.last.Place.{Place}
use Rattle.wire_read.specs.Last.{Lacks, IsLast, FoundLast}
use Rattle.wire_read.specs.Reading.{place_of}
use Rattle.wire_read.proofs.Opened.{more}

joined-assoc : (a b c : Fields) → joined (joined a b) c ≡ joined a (joined b c)
joined-assoc none b c = refl
joined-assoc (field n p a) b c = ap (field n p) (joined-assoc a b c)

Lacks-push : (n : ℕ) (fs : Fields) (m : ℕ) (p : Payload) → Lacks n fs → m ≢ n
    → Lacks n (push fs m p)
Lacks-push n none m p h other = (other, tt)
Lacks-push n (field k q fs) m p h other = (h.0, Lacks-push n fs m p h.1 other)

-- a record behind others
more_others : JoinedTextsSpell → (after : Fields) (m : ℕ) (w : WireType) (p : Payload)
    (next rest behind new : List ℕ) → Reads next (Spells after) rest
    → Reads rest (IsTagSpelling m w) behind → Reads behind (IsPayload m w p) new
    → Reads next (Spells (push after m p)) new
more_others joins after m w p next rest behind new h tag payload =
    let spelled : Spells (field m p none) (tag.text ++ payload.text) = (
      payload.text,
      [],
      record {
        text = tag.text;
        parts = refl;
        spelled = subst (λ v. IsTagSpelling m v tag.text) (sym payload.spelled.kind) tag.spelled;
      },
      record {
        text = payload.text;
        parts = sym (append-nil payload.text);
        spelled = payload.spelled.spelled;
      },
      refl,
    ) in
    record {
      text = h.text ++ (tag.text ++ payload.text);
      parts = h.parts
          ∙ ap (λ (t : List ℕ). h.text ++ t) (
          tag.parts ∙ ap (λ (t : List ℕ). tag.text ++ t) payload.parts
          ∙ sym (append_assoc tag.text payload.text new)
          )
          ∙ sym (append_assoc h.text (tag.text ++ payload.text) new);
      spelled = joins after (field m p none) h.text (tag.text ++ payload.text) h.spelled spelled;
    }

pub record Sofar (n : ℕ) (l : Limits) (all rest : List ℕ) (last : Option Place) : Type 0 where
  pub fields : Fields
  pub taken : TakesFields (charge fields) l fields all rest
  pub found : FoundLast n fields all rest last

pub begins : RecordsOneByOne → (n : ℕ) (l : Limits) (all : List ℕ) → Sofar n l all all None
begins records n l all = record { fields = none; taken = records.none l all; found = tt }

module _ (charges : ChargesAddUp) (records : RecordsOneByOne) (joins : JoinedTextsSpell) where
  -- a record of the number
  pub last_is : (n d : ℕ) (all rest behind new : List ℕ) (last : Option Place) (w : WireType)
      (place : Place) → Sofar n (uncounted d) all rest last
      → Reads rest (IsTagSpelling n w) behind
      → (p : Payload) × TakesPayload (payload_charge p) (uncounted d) n w p behind new
      → place ≡ record {
        wire_type = w;
        start = place_of all rest;
        payload = place_of all behind;
        end = place_of all new;
      }
      → Sofar n (uncounted d) all new (Some place)
  last_is n d all rest behind new last w place h tag (p, payload) is = record {
    fields = push h.fields n p;
    taken = more charges records (uncounted d) [] h.fields n w p all rest behind new h.taken tag payload;
    found = record {
      before = h.fields;
      payload = p;
      after = none;
      parts = refl;
      here = rest;
      behind = behind;
      next = new;
      front = h.taken.read;
      tag = rw is tag;
      taken = rw is payload.read;
      others = record { text = []; parts = refl; spelled = refl };
      lacks = tt;
      start = ap (λ x. x.start) is;
      value = ap (λ x. x.payload) is;
      end = ap (λ x. x.end) is;
    };
  }

  -- a record of another
  pub last_stays : (n m d : ℕ) (all rest behind new : List ℕ) (last : Option Place) (w : WireType)
      → Sofar n (uncounted d) all rest last → m ≢ n
      → Reads rest (IsTagSpelling m w) behind
      → (p : Payload) × TakesPayload (payload_charge p) (uncounted d) m w p behind new
      → Sofar n (uncounted d) all new last
  last_stays n m d all rest behind new None w h other tag (p, payload) = record {
    fields = push h.fields m p;
    taken = more charges records (uncounted d) [] h.fields m w p all rest behind new h.taken tag payload;
    found = Lacks-push n h.fields m p h.found other;
  }
  last_stays n m d all rest behind new (Some place) w h other tag (p, payload) =
      let found = h.found in
      record {
        fields = push h.fields m p;
        taken = more charges records (uncounted d) [] h.fields m w p all rest behind new h.taken tag
            payload;
        found = record {
          before = found.before;
          payload = found.payload;
          after = push found.after m p;
          parts = ap (λ x. push x m p) found.parts
              ∙ joined-assoc found.before (field n found.payload found.after) (field m p none);
          here = found.here;
          behind = found.behind;
          next = found.next;
          front = found.front;
          tag = found.tag;
          taken = found.taken;
          others = more_others joins found.after m w p found.next rest behind new found.others tag
              payload.read;
          lacks = Lacks-push n found.after m p found.lacks other;
          start = found.start;
          value = found.value;
          end = found.end;
        };
      }

-- the fault of a tag, and of what stands behind one, is that of all
pub tag_stops : (n d : ℕ) (all rest : List ℕ) (last : Option Place) (e : DecodeError)
    → Sofar n (uncounted d) all rest last → 0 < length rest → TagFault rest e
    → ListFault (uncounted d) by_input all e
tag_stops n d all rest last e h goes_on fault =
    past h.fields rest h.taken goes_on (no_tag (bad_tag fault))

pub payload_stops : (n m d : ℕ) (all rest behind : List ℕ) (last : Option Place) (w : WireType)
    (e : DecodeError) → Sofar n (uncounted d) all rest last → 0 < length rest
    → Reads rest (IsTagSpelling m w) behind → PayloadFault (uncounted d) m w behind e
    → ListFault (uncounted d) by_input all e
payload_stops n m d all rest behind last w e h goes_on tag fault =
    past h.fields rest h.taken goes_on (bad_payload m w behind tag tt fault)
