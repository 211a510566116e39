-- One list of records behind another: its texts, its shortest text, and how many it has.
use Rattle.std.proofs.Common.{◌≡◌, ℕ, ◌+◌, List, [], ◌++◌, refl, sym, ap, ◌∙◌, subst, arith, append_assoc, append-nil}
use Rattle.wire_base.specs.declared.tag.WireType.{WireType}
use Rattle.wire_base.specs.Field.{Payload, Fields, none, field, type_of, joined, push, count_top}
use Rattle.wire_base.specs.Read.{Reads}
use Rattle.wire_base.specs.RecordLaws.{JoinedTextsSpell, JoinedAddsUp}
use Rattle.wire_base.specs.Spells.{SpellsPayload, Spells, IsPayload}
use Rattle.wire_base.specs.Tag.{IsTagSpelling, tag_text}
use Rattle.wire_base.specs.Text.{payload_text, text_of}
use Rattle.wire_base.proofs.FieldLaws.{head_of}
use Rattle.wire_base.proofs.LimitsLaws.{charge-joined}
use Rattle.wire_base.proofs.ReadLaws.{Reads-inside, joined_parts}

-- ---- lists

-- three lists, one behind the other
pub joined_assoc : (fs gs hs : Fields) → joined (joined fs gs) hs ≡ joined fs (joined gs hs)
joined_assoc none gs hs = refl
joined_assoc (field n p fs) gs hs = ap (field n p) (joined_assoc fs gs hs)

-- ---- measures

-- the shortest texts stand one behind the other
pub text_of-joined : (fs gs : Fields) → text_of (joined fs gs) ≡ text_of fs ++ text_of gs
text_of-joined none gs = refl
text_of-joined (field n p fs) gs =
    ap (λ l. tag_text n (type_of p) ++ (payload_text n p ++ l)) (text_of-joined fs gs)
    ∙ ap (λ l. tag_text n (type_of p) ++ l)
    (sym (append_assoc (payload_text n p) (text_of fs) (text_of gs)))
    ∙ sym (append_assoc (tag_text n (type_of p)) (payload_text n p ++ text_of fs) (text_of gs))

-- how many records there are, those nested left out
pub count_top-joined : (fs gs : Fields) → count_top (joined fs gs) ≡ count_top fs + count_top gs
count_top-joined none gs = omega arith
count_top-joined (field n p fs) gs = omega (arith, count_top-joined fs gs)

-- a record more is one more at the top
pub count_top-push : (fs : Fields) (n : ℕ) (p : Payload)
    → count_top (push fs n p) ≡ count_top fs + 1
count_top-push fs n p = omega (arith, count_top-joined fs (field n p none))

-- ---- texts

-- a text of each list, one behind the other
pub Spells-joined : (fs gs : Fields) (a b : List ℕ) → Spells fs a → Spells gs b
    → Spells (joined fs gs) (a ++ b)
Spells-joined none gs a b h k = subst (λ l. Spells gs (l ++ b)) (sym h) k
Spells-joined (field n p fs) gs a b (behind, rest, tag, payload, others) k = (
  behind ++ b,
  rest ++ b,
  Reads-inside (IsTagSpelling n (type_of p)) (a ++ b) a behind b refl tag,
  Reads-inside (SpellsPayload n p) (behind ++ b) behind rest b refl payload,
  Spells-joined fs gs rest b others k,
)

-- a list, and then another at what follows it
pub Reads-joined : (fs gs : Fields) (old mid new : List ℕ) → Reads old (Spells fs) mid
    → Reads mid (Spells gs) new → Reads old (Spells (joined fs gs)) new
Reads-joined fs gs old mid new h k = record {
  text = h.text ++ k.text;
  parts = joined_parts (Spells fs) (Spells gs) old mid new h k;
  spelled = Spells-joined fs gs h.text k.text h.spelled k.spelled;
}

-- a tag, and then its payload at what follows it, are one record
pub Reads-one : (n : ℕ) (w : WireType) (p : Payload) (old mid new : List ℕ)
    → Reads old (IsTagSpelling n w) mid → Reads mid (IsPayload n w p) new
    → Reads old (Spells (field n p none)) new
Reads-one n w p old mid new h k = record {
  text = h.text ++ k.text;
  parts = joined_parts (IsTagSpelling n w) (IsPayload n w p) old mid new h k;
  spelled = (
    k.text,
    [],
    record {
      text = h.text;
      parts = refl;
      spelled = subst (λ v. IsTagSpelling n v h.text)
          (sym k.spelled.kind) h.spelled;
    },
    record { text = k.text; parts = sym (append-nil k.text); spelled = k.spelled.spelled },
    refl,
  );
}

-- a list, and then a tag and its payload, are the list with one record more
pub Reads-push : (fs : Fields) (n : ℕ) (w : WireType) (p : Payload) (old mid behind new : List ℕ)
    → Reads old (Spells fs) mid → Reads mid (IsTagSpelling n w) behind
    → Reads behind (IsPayload n w p) new
    → Reads old (Spells (push fs n p)) new
Reads-push fs n w p old mid behind new h tag payload =
    Reads-joined fs (field n p none) old mid new h (Reads-one n w p mid behind new tag payload)

-- the empty list stands at the front of all bytes
pub Reads-none : (old : List ℕ) → Reads old (Spells none) old
Reads-none old = record { text = []; parts = refl; spelled = refl }

-- a text of a payload behind its tag is a payload of the tag
pub payload_as : (n : ℕ) (p : Payload) (old new : List ℕ) → Reads old (SpellsPayload n p) new
    → Reads old (IsPayload n (type_of p) p) new
payload_as n p old new h =
    record { text = h.text; parts = h.parts; spelled = record { kind = refl; spelled = h.spelled } }

-- two lists at the front are the one, and then the other
pub record Split (fs gs : Fields) (old new : List ℕ) : Type 0 where
  pub mid : List ℕ
  pub first : Reads old (Spells fs) mid
  pub second : Reads mid (Spells gs) new

pub split_joined : (fs gs : Fields) (old new : List ℕ) → Reads old (Spells (joined fs gs)) new
    → Split fs gs old new
split_joined none gs old new h = record { mid = old; first = Reads-none old; second = h }
split_joined (field n p fs) gs old new h =
    let head = head_of n p (joined fs gs) old new h in
    let later = split_joined fs gs head.rest new head.others in
    let one = Reads-one n (type_of p) p old head.behind head.rest head.tag
    (payload_as n p head.behind head.rest head.payload) in
    record {
      mid = later.mid;
      first = Reads-joined
          (field n p none) fs old head.rest later.mid one later.first;
      second = later.second;
    }

-- ---- the laws

pub joined_texts_spell_lemma : JoinedTextsSpell
joined_texts_spell_lemma = Spells-joined

pub joined_adds_up_lemma : JoinedAddsUp
joined_adds_up_lemma fs gs = (text_of-joined fs gs, count_top-joined fs gs, charge-joined fs gs)
