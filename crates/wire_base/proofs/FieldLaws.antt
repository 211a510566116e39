-- Laws of records: one reading.
use Rattle.std.proofs.Common.{◌≡◌, ℕ, ◌<◌, ◌⊎◌, inl, inr, List, [], ◌∷◌, ◌++◌, length, refl, sym, ap, ◌∙◌, subst, append-nil, arith, ⊎_elim, length-append}
use Rattle.std.specs.Int.{w32, w64, from_le_bytes}
use Rattle.wire_base.specs.declared.tag.WireType.{WireType}
use Rattle.wire_base.specs.declared.tag.WireType.TheVariants.{EndGroup}
use Rattle.wire_base.specs.Delimited.{IsDelimited}
use Rattle.wire_base.specs.Field.{Payload, varint, fixed64, fixed32, bytes, group, Fields, none, field, type_of, joined}
use Rattle.wire_base.specs.InRange.{AreNumbered, IsPayloadNumbered}
use Rattle.wire_base.specs.Read.{Reads}
use Rattle.wire_base.specs.RecordLaws.{PayloadIsField, OnePayload, OneSpelled, SpelledAreNumbered, NumberedTogether}
use Rattle.wire_base.specs.Spells.{SpellsPayload, Spells, IsPayload}
use Rattle.wire_base.specs.Tag.{IsTagSpelling}
use Rattle.wire_base.specs.Varint.{IsSpelling, IsEnded}
use Rattle.wire_base.proofs.DelimitedLaws.{same_delimited}
use Rattle.wire_base.proofs.ListLaws.{one_beginning}
use Rattle.wire_base.proofs.ReadLaws.{Reads-inside, Reads-as}
use Rattle.wire_base.proofs.TagLaws.{same_tag}
use Rattle.wire_base.proofs.VarintLaws.{same_varint}

-- ---- one record

pub payload_is_field_lemma : PayloadIsField
payload_is_field_lemma n p t = (there n p t, back n p t)
  where
    -- the record taken apart
    there : (n : ℕ) (p : Payload) (t : List ℕ) → Spells (field n p none) t
        → (payload : List ℕ) × Reads t (IsTagSpelling n (type_of p)) payload
        × IsPayload n (type_of p) p payload
    there n p t (behind, rest, tag, h, end) = (
      behind,
      tag,
      record {
        kind = refl;
        spelled = subst (SpellsPayload n p) (sym (h.parts
            ∙ ap (λ l. h.text ++ l) end ∙ append-nil h.text)) h.spelled;
      },
    )

    -- and put together
    back : (n : ℕ) (p : Payload) (t : List ℕ)
        → (payload : List ℕ) × Reads t (IsTagSpelling n (type_of p)) payload
        × IsPayload n (type_of p) p payload
        → Spells (field n p none) t
    back n p t (payload, tag, h) = (
      payload,
      [],
      tag,
      record {
        text = payload;
        parts = sym
            (append-nil payload);
        spelled = h.spelled;
      },
      refl,
    )

-- no payload stands behind an end tag
pub not_end_group : (p : Payload) → type_of p ≡ EndGroup → ⊥
not_end_group (varint v) e = cc
not_end_group (fixed64 v) e = cc
not_end_group (fixed32 v) e = cc
not_end_group (bytes b) e = cc
not_end_group (group fs) e = cc

-- what follows a tag is shorter than what it stands in
pub rest_below : (n : ℕ) (w : WireType) (old rest : List ℕ) → Reads old (IsTagSpelling n w) rest
    → length rest < length old
rest_below n w old rest h = past_tag h.text h.spelled.varint.ended h.parts
  where
    past_tag : (text : List ℕ) → IsEnded text → old ≡ text ++ rest → length rest < length old
    past_tag [] ended e = absurd ended
    past_tag (b ∷ text) ended e = omega (arith, ap length e ∙ length-append (b ∷ text) rest)

-- a list that begins with a record, taken apart
pub record Head (n : ℕ) (p : Payload) (fs : Fields) (old new : List ℕ) : Type 0 where
  pub behind : List ℕ
  pub rest : List ℕ
  pub tag : Reads old (IsTagSpelling n (type_of p)) behind
  pub payload : Reads behind (SpellsPayload n p) rest
  pub others : Reads rest (Spells fs) new

-- a text of records that is behind another one stands at its front, with no byte between them
pub Reads-here : (IsText : List ℕ → Type 0) (text new : List ℕ) → IsText text
    → Reads (text ++ new) IsText new
Reads-here IsText text new h = record { text = text; parts = refl; spelled = h }

-- the tag, the payload and the other records, one behind the other
pub head_of : (n : ℕ) (p : Payload) (fs : Fields) (old new : List ℕ)
    → Reads old (Spells (field n p fs)) new → Head n p fs old new
head_of n p fs old new h =
    let (behind, rest, tag, payload, others) = h.spelled in
    record {
      behind = behind ++ new;
      rest = rest ++ new;
      tag = Reads-inside (IsTagSpelling n (type_of p)) old h.text behind new h.parts tag;
      payload = Reads-inside (SpellsPayload n p) (behind ++ new) behind rest new refl payload;
      others = Reads-here (Spells fs) rest new others;
    }

-- the empty list takes nothing
pub none_takes_nothing : (old new : List ℕ) → Reads old (Spells none) new → old ≡ new
none_takes_nothing old new h = h.parts ∙ ap (λ l. l ++ new) h.spelled

-- the records of a group's body, and its end tag
pub record Body (n : ℕ) (fs : Fields) (old new : List ℕ) : Type 0 where
  pub end : List ℕ
  pub fields : Reads old (Spells fs) end
  pub tag : Reads end (IsTagSpelling n EndGroup) new

pub body_of : (n : ℕ) (fs : Fields) (old new : List ℕ) → Reads old (SpellsPayload n (group fs)) new
    → Body n fs old new
body_of n fs old new h =
    let (end, fields, tag) = h.spelled in
    record {
      end = end ++ new;
      fields = Reads-inside (Spells fs) old h.text end new h.parts fields;
      tag = Reads-here (IsTagSpelling n EndGroup) end new tag;
    }

-- ---- one reading

-- of two lists the second goes on where the first ends
pub record Front (fs gs : Fields) (mid new : List ℕ) : Type 0 where
  pub more : Fields
  pub parts : gs ≡ joined fs more
  pub others : Reads mid (Spells more) new

-- where a record stands, no end tag does
pub record_not_end : (n k : ℕ) (p : Payload) (fs : Fields) (old new after : List ℕ)
    → Reads old (Spells (field n p fs)) new
    → Reads old (IsTagSpelling k EndGroup) after → ⊥
record_not_end n k p fs old new after h end =
    let head = head_of n p fs old new h in
    not_end_group p (same_tag old head.behind after n k (type_of p) EndGroup head.tag end).kind

pub joined-none : (fs : Fields) → joined fs none ≡ fs
joined-none none = refl
joined-none (field n p fs) = ap (field n p) (joined-none fs)

-- a list that is the front of another, both before an end tag, is that list
front_to_tag : (n : ℕ) (fs gs : Fields) (mid end r s : List ℕ)
    → Reads mid (IsTagSpelling n EndGroup) r → Reads end (IsTagSpelling n EndGroup) s
    → (more : Fields) → gs ≡ joined fs more → Reads mid (Spells more) end → (gs ≡ fs) × (r ≡ s)
front_to_tag n fs gs mid end r s h k none parts others =
    let same = none_takes_nothing mid end others in (
      parts ∙ joined-none fs,
      (same_tag end r s n n EndGroup EndGroup
          (subst (λ l. Reads l (IsTagSpelling n EndGroup) r) same h) k).rest,
    )
front_to_tag n fs gs mid end r s h k (field m q more) parts others =
    absurd (record_not_end m n q more mid end r others h)

-- two bodies of groups at the front of one list are one
same_body : (n : ℕ) (fs gs : Fields) (old r s : List ℕ) (h : Body n fs old r) (k : Body n gs old s)
    → Front fs gs h.end k.end ⊎ Front gs fs k.end h.end → (fs ≡ gs) × (r ≡ s)
same_body n fs gs old r s h k (inl front) =
    let same = front_to_tag n fs gs h.end k.end r s h.tag k.tag front.more front.parts front.others
    in (sym same.0, same.1)
same_body n fs gs old r s h k (inr front) =
    let same = front_to_tag n gs fs k.end h.end s r k.tag h.tag front.more front.parts front.others
    in (same.0, sym same.1)

same_number : (v w : ℕ) (old r s : List ℕ) → Reads old (IsSpelling v) r → Reads old (IsSpelling w) s
    → (varint v ≡ varint w) × (r ≡ s)
same_number v w old r s h k =
    let same = same_varint old r s v w h k in (ap varint same.value, same.rest)

same_bytes : (b c old r s : List ℕ) → Reads old (IsDelimited b) r → Reads old (IsDelimited c) s
    → (bytes b ≡ bytes c) × (r ≡ s)
same_bytes b c old r s h k = let same = same_delimited b c old r s h k in (ap bytes same.0, same.1)

same_fixed64 : (v w : ℕ) (old r s : List ℕ) → Reads old (SpellsPayload 0 (fixed64 v)) r
    → Reads old (SpellsPayload 0 (fixed64 w)) s
    → (fixed64 v ≡ fixed64 w) × (r ≡ s)
same_fixed64 v w old r s h k =
    let same = one_beginning h.text k.text r s (h.spelled.0 ∙ sym k.spelled.0) (sym h.parts
    ∙ k.parts) in
    (ap fixed64 (sym h.spelled.1 ∙ ap (λ l. from_le_bytes w64 l) same.0 ∙ k.spelled.1), same.1)

same_fixed32 : (v w : ℕ) (old r s : List ℕ) → Reads old (SpellsPayload 0 (fixed32 v)) r
    → Reads old (SpellsPayload 0 (fixed32 w)) s
    → (fixed32 v ≡ fixed32 w) × (r ≡ s)
same_fixed32 v w old r s h k =
    let same = one_beginning h.text k.text r s (h.spelled.0 ∙ sym k.spelled.0) (sym h.parts
    ∙ k.parts) in
    (ap fixed32 (sym h.spelled.1 ∙ ap (λ l. from_le_bytes w32 l) same.0 ∙ k.spelled.1), same.1)

-- the record at the front of both lists is one, where its payload is
same_tags : (n m : ℕ) (p q : Payload) (fs gs : Fields) (old r s : List ℕ) (h : Head n p fs old r)
    (k : Head m q gs old s)
    → (n ≡ m) × (type_of p ≡ type_of q) × (h.behind ≡ k.behind)
same_tags n m p q fs gs old r s h k =
    let same = same_tag old h.behind k.behind n m (type_of p) (type_of q) h.tag k.tag in
    (same.number, same.kind, same.rest)

-- the payload of the second record, behind the tag of the first
moved_payload : (n m : ℕ) (q : Payload) (behind other rest : List ℕ) → n ≡ m → behind ≡ other
    → Reads other (SpellsPayload m q) rest
    → Reads behind (SpellsPayload n q) rest
moved_payload n m q behind other rest number same h =
    subst (λ k. Reads behind (SpellsPayload k q) rest) (sym number)
    (subst (λ l. Reads l (SpellsPayload m q) rest) (sym same) h)

-- one record more at the front of both
longer_front : (n m : ℕ) (p q : Payload) (fs gs : Fields) (mid new : List ℕ) → n ≡ m → p ≡ q
    → Front fs gs mid new → Front (field n p fs) (field m q gs) mid new
longer_front n m p q fs gs mid new number same front = record {
  more = front.more;
  parts = λ i. field (sym number i) (sym same i) (front.parts i);
  others = front.others;
}

either_longer : (n m : ℕ) (p q : Payload) (fs gs : Fields) (r s : List ℕ) → n ≡ m → p ≡ q
    → Front fs gs r s ⊎ Front gs fs s r
    → Front (field n p fs) (field m q gs) r s ⊎ Front (field m q gs) (field n p fs) s r
either_longer n m p q fs gs r s number same (inl front) =
    inl (longer_front n m p q fs gs r s number same front)
either_longer n m p q fs gs r s number same (inr front) =
    inr (longer_front m n q p gs fs s r (sym number) (sym same) front)

mutual
  -- two payloads behind one tag are one
  pub same_payload : (p q : Payload) (n : ℕ) (old r s : List ℕ) → type_of p ≡ type_of q
      → Reads old (SpellsPayload n p) r → Reads old (SpellsPayload n q) s → (p ≡ q) × (r ≡ s)
  same_payload (varint v) (varint w) n old r s t h k = same_number v w old r s h k
  same_payload (varint v) q n old r s t h k = absurd (cc)
  same_payload (fixed64 v) (fixed64 w) n old r s t h k = same_fixed64 v w old r s h k
  same_payload (fixed64 v) q n old r s t h k = absurd (cc)
  same_payload (fixed32 v) (fixed32 w) n old r s t h k = same_fixed32 v w old r s h k
  same_payload (fixed32 v) q n old r s t h k = absurd (cc)
  same_payload (bytes b) (bytes c) n old r s t h k = same_bytes b c old r s h k
  same_payload (bytes b) q n old r s t h k = absurd (cc)
  same_payload (group fs) (group gs) n old r s t h k =
      let one = body_of n fs old r h in
      let other = body_of n gs old s k in
      let same = same_body n fs gs old r s one other
      (either_front fs gs old one.end other.end one.fields other.fields) in
      (ap group same.0, same.1)
  same_payload (group fs) q n old r s t h k = absurd (cc)

  -- of two lists of records at the front of the same bytes, one is the front of the other
  pub either_front : (fs gs : Fields) (old r s : List ℕ) → Reads old (Spells fs) r
      → Reads old (Spells gs) s → Front fs gs r s ⊎ Front gs fs s r
  either_front none gs old r s h k =
      inl (record {
        more = gs;
        parts = refl;
        others = subst (λ l. Reads l (Spells gs) s)
            (none_takes_nothing old r h) k;
      })
  either_front (field n p fs) none old r s h k =
      inr (record {
        more = field n p fs;
        parts = refl;
        others = subst
            (λ l. Reads l (Spells (field n p fs)) r) (none_takes_nothing old s k) h;
      })
  either_front (field n p fs) (field m q gs) old r s h k =
      let one = head_of n p fs old r h in
      let other = head_of m q gs old s k in
      let tags = same_tags n m p q fs gs old r s one other in
      let payloads = same_payload p q n one.behind one.rest other.rest tags.1 one.payload
      (moved_payload n m q one.behind other.behind other.rest tags.0 tags.2 other.payload) in
      either_longer n m p q fs gs r s tags.0 payloads.0
      (either_front fs gs one.rest r s one.others
      (subst (λ l. Reads l (Spells gs) s) (sym payloads.1) other.others))

-- ---- field numbers

mutual
  pub payload_numbered : (n : ℕ) (p : Payload) (t : List ℕ) → SpellsPayload n p t
      → IsPayloadNumbered p
  payload_numbered n (varint v) t h = tt
  payload_numbered n (fixed64 v) t h = tt
  payload_numbered n (fixed32 v) t h = tt
  payload_numbered n (bytes b) t h = tt
  payload_numbered n (group fs) t (end, fields, tag) = numbered fs fields.text fields.spelled

  numbered : (fs : Fields) (t : List ℕ) → Spells fs t → AreNumbered fs
  numbered none t h = tt
  numbered (field n p fs) t (behind, rest, tag, payload, others) = (
    tag.spelled.number,
    payload_numbered n p payload.text payload.spelled,
    numbered fs rest others,
  )

-- ---- the laws

pub one_payload_lemma : OnePayload
one_payload_lemma n w p q old r s h k =
    same_payload p q n old r s (h.spelled.kind ∙ sym k.spelled.kind)
    (Reads-as (IsPayload n w p) (SpellsPayload n p) old r h h.spelled.spelled)
    (Reads-as (IsPayload n w q) (SpellsPayload n q) old s k k.spelled.spelled)

-- all of the bytes are records
pub Reads-all : (fs : Fields) (old : List ℕ) → Spells fs old → Reads old (Spells fs) []
Reads-all fs old h = record { text = old; parts = sym (append-nil old); spelled = h }

-- records behind which nothing is left are those of all the bytes
pub Spells-all : (fs : Fields) (old new : List ℕ) → Reads old (Spells fs) new → new ≡ []
    → Spells fs old
Spells-all fs old new h e =
    subst (Spells fs) (sym (h.parts ∙ ap (λ l. h.text ++ l) e ∙ append-nil h.text)) h.spelled

-- a list that goes on where nothing is left has no more
nothing_more : (fs gs : Fields) (more : Fields) → gs ≡ joined fs more → Reads [] (Spells more) []
    → gs ≡ fs
nothing_more fs gs none parts h = parts ∙ joined-none fs
nothing_more fs gs (field n p more) parts h =
    let head = head_of n p more [] [] h in
    absurd (omega (arith, rest_below n (type_of p) [] head.behind head.tag))

pub one_spelled_lemma : OneSpelled
one_spelled_lemma fs gs old h k =
    ⊎_elim
    (λ front. sym (nothing_more fs gs front.more front.parts front.others))
    (λ front. nothing_more gs fs front.more front.parts front.others)
    (either_front fs gs old [] [] (Reads-all fs old h) (Reads-all gs old k))

pub spelled_are_numbered_lemma : SpelledAreNumbered
spelled_are_numbered_lemma = numbered

numbered_both : (fs gs : Fields) → AreNumbered fs → AreNumbered gs → AreNumbered (joined fs gs)
numbered_both none gs h k = k
numbered_both (field n p fs) gs h k = (h.0, h.1, numbered_both fs gs h.2 k)

numbered_parts : (fs gs : Fields) → AreNumbered (joined fs gs) → AreNumbered fs × AreNumbered gs
numbered_parts none gs h = (tt, h)
numbered_parts (field n p fs) gs h =
    let later = numbered_parts fs gs h.2 in ((h.0, h.1, later.0), later.1)

pub numbered_together_lemma : NumberedTogether
numbered_together_lemma fs gs = (numbered_parts fs gs, λ h. numbered_both fs gs h.0 h.1)
