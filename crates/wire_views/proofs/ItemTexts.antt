-- Records as items, with their shortest text.
use Rattle.std.proofs.Common.{◌≡◌, ◌≢◌, ℕ, List, [], ◌∷◌, ◌++◌, refl, sym, ap, ◌∙◌}
use Rattle.std.proofs.Common.{subst, append_assoc, append-nil}
use Rattle.wire_base.specs.Field.{Payload, varint, fixed64, fixed32, bytes, group, Fields}
use Rattle.wire_base.specs.Field.{none, field, type_of}
use Rattle.wire_base.specs.Items.{Item, start, end, whole, IsItem, SpellsItems}
use Rattle.wire_base.specs.Read.{Reads}
use Rattle.wire_base.specs.Spells.{IsPayload, SpellsPayload, Spells}
use Rattle.wire_base.specs.Tag.{IsTagSpelling, tag_text}
use Rattle.wire_base.specs.Text.{text_of, payload_text, record_text}
use Rattle.wire_base.specs.declared.tag.WireType.{WireType}
use Rattle.wire_base.specs.declared.tag.WireType.TheVariants.{StartGroup, EndGroup}
use Rattle.wire_base.proofs.ReadLaws.{Reads-inside}
use Rattle.wire_views.specs.Tokens.{shortest_item, shortest_items, IsLeftOf}

-- ---- items behind items

joined_items : (items others : List Item) (a b : List ℕ) → SpellsItems items a
    → SpellsItems others b → SpellsItems (items ++ others) (a ++ b)
joined_items [] others a b empty k = subst (λ t. SpellsItems others (t ++ b)) (sym empty) k
joined_items (i ∷ items) others a b (rest, first, more) k = (
  rest ++ b,
  Reads-inside (IsItem i) (a ++ b) a rest b refl first,
  joined_items items others rest b more k,
)

joined_texts : (items others : List Item)
    → shortest_items (items ++ others) ≡ shortest_items items ++ shortest_items others
joined_texts [] others = refl
joined_texts (i ∷ items) others =
    ap (λ t. shortest_item i ++ t) (joined_texts items others)
    ∙ sym (append_assoc (shortest_item i) (shortest_items items) (shortest_items others))

-- ---- the items of records, with their text

-- some bytes are items, which have this shortest text
record AreItems (text shortest : List ℕ) : Type 0 where
  pub items : List Item
  pub spelled : SpellsItems items text
  pub same : shortest_items items ≡ shortest

whole_text : (IsText : List ℕ → Type 0) (text : List ℕ) → IsText text → Reads text IsText []
whole_text IsText text h = record { text = text; parts = sym (append-nil text); spelled = h }

in_front : (a b : List ℕ) (s t : List ℕ) → AreItems a s → AreItems b t → AreItems (a ++ b) (s ++ t)
in_front a b s t one other = record {
  items = one.items ++ other.items;
  spelled = joined_items one.items other.items a b one.spelled other.spelled;
  same = joined_texts one.items other.items ∙ ap (λ x. x ++ shortest_items other.items) one.same
      ∙ ap (λ x. s ++ x) other.same;
}

one_item : (i : Item) (text : List ℕ) → IsItem i text → AreItems text (shortest_item i)
one_item i text h = record {
  items = i ∷ [];
  spelled = ([], whole_text (IsItem i) text h, refl);
  same = append-nil (shortest_item i);
}

flat_item : (n : ℕ) (p : Payload) (tag text : List ℕ) → type_of p ≢ StartGroup
    → IsTagSpelling n (type_of p) tag → SpellsPayload n p text
    → AreItems (tag ++ text) (record_text n p)
flat_item n p tag text flat h k = one_item (whole n p) (tag ++ text) (
  flat,
  (
    text,
    [],
    record { text = tag; parts = refl; spelled = h },
    whole_text (SpellsPayload n p) text k,
    refl,
  ),
)

-- the body of a group with its end tag
body_items : (n : ℕ) (fs : Fields) (text body last : List ℕ) → text ≡ body ++ last
    → AreItems body (text_of fs) → IsTagSpelling n EndGroup last
    → AreItems text (text_of fs ++ tag_text n EndGroup)
body_items n fs text body last parts inside ended =
    subst (λ t. AreItems t (text_of fs ++ tag_text n EndGroup)) (sym parts)
    (in_front body last (text_of fs) (tag_text n EndGroup) inside (one_item (end n) last ended))

mutual
  record_items : (n : ℕ) (p : Payload) (tag text : List ℕ) → IsTagSpelling n (type_of p) tag
      → SpellsPayload n p text → AreItems (tag ++ text) (record_text n p)
  record_items n (varint v) tag text h k = flat_item n (varint v) tag text (λ is. absurd cc) h k
  record_items n (fixed64 v) tag text h k = flat_item n (fixed64 v) tag text (λ is. absurd cc) h k
  record_items n (fixed32 v) tag text h k = flat_item n (fixed32 v) tag text (λ is. absurd cc) h k
  record_items n (bytes b) tag text h k = flat_item n (bytes b) tag text (λ is. absurd cc) h k
  record_items n (group fs) tag text h (last, body, ended) =
      in_front tag text (tag_text n StartGroup) (text_of fs ++ tag_text n EndGroup)
      (one_item (start n) tag h)
      (body_items n fs text body.text last body.parts (list_items fs body.text body.spelled) ended)

  list_items : (fs : Fields) (text : List ℕ) → Spells fs text → AreItems text (text_of fs)
  list_items none text h = record { items = []; spelled = h; same = refl }
  list_items (field n p fs) text (behind, rest, tag, payload, others) =
      subst (λ t. AreItems t (text_of (field n p fs)))
      (append_assoc tag.text payload.text rest
      ∙ ap (λ t. tag.text ++ t) (sym payload.parts) ∙ sym tag.parts)
      (subst (λ s. AreItems ((tag.text ++ payload.text) ++ rest) s)
      (append_assoc (tag_text n (type_of p)) (payload_text n p) (text_of fs))
      (in_front (tag.text ++ payload.text) rest (record_text n p) (text_of fs)
      (record_items n p tag.text payload.text tag.spelled payload.spelled)
      (list_items fs rest others)))

-- what is behind a tag is what is left of an item, and items, and these are the record
pub record LeftItems (n : ℕ) (w : WireType) (p : Payload) (text : List ℕ) : Type 0 where
  pub item : Item
  pub items : List Item
  pub rest : List ℕ
  pub left : IsLeftOf n w item text rest
  pub spelled : SpellsItems items rest
  pub same : shortest_items (item ∷ items) ≡ record_text n p

flat_left : (n : ℕ) (w : WireType) (p : Payload) (text : List ℕ) → type_of p ≢ StartGroup
    → IsPayload n w p text → LeftItems n w p text
flat_left n w p text flat h = record {
  item = whole n p;
  items = [];
  rest = [];
  left = (refl, flat, whole_text (IsPayload n w p) text h);
  spelled = refl;
  same = append-nil (record_text n p);
}

pub left_items : (n : ℕ) (w : WireType) (p : Payload) (text : List ℕ) → IsPayload n w p text
    → LeftItems n w p text
left_items n w (varint v) text h = flat_left n w (varint v) text (λ is. absurd cc) h
left_items n w (fixed64 v) text h = flat_left n w (fixed64 v) text (λ is. absurd cc) h
left_items n w (fixed32 v) text h = flat_left n w (fixed32 v) text (λ is. absurd cc) h
left_items n w (bytes b) text h = flat_left n w (bytes b) text (λ is. absurd cc) h
left_items n w (group fs) text h =
    let (last, inside, ended) = h.spelled in
    let body = body_items n fs text inside.text last inside.parts
    (list_items fs inside.text inside.spelled) ended in
    record {
      item = start n;
      items = body.items;
      rest = text;
      left = (refl, sym h.kind, refl);
      spelled = body.spelled;
      same = ap (λ t. tag_text n StartGroup ++ t) body.same;
    }
