-- Laws of the shortest text of records: it spells them, and no text of them is shorter.
use Rattle.std.proofs.Common.{◌≡◌, ℕ, ◌+◌, ◌<◌, ◌≤◌, List, [], ◌∷◌, ◌++◌, length, get_or, Result, Ok, Err, refl, sym, ap, ◌∙◌, subst, ⊎_elim, arith, length-append}
use Rattle.std.specs.Prelude.{All, OnOk}
use Rattle.std.proofs.lemmas.Bool.{cases_lt}
use Rattle.std.proofs.lemmas.List.{get_or_past}
use Rattle.std.proofs.lemmas.List.Elements.{All-nil, All-head, All-tail, All-cons, All-get_or}
use Rattle.std.proofs.lemmas.Nat.{from_le_bytes-to_le_bytes_4, from_le_bytes-to_le_bytes_8, le_bytes_4, le_bytes_8}
use Rattle.wire_base.specs.declared.error.EncodeError.{EncodeError}
use Rattle.wire_base.specs.declared.tag.WireType.TheVariants.{EndGroup}
use Rattle.wire_base.specs.Field.{Payload, varint, fixed64, fixed32, bytes, group, Fields, none, field, type_of}
use Rattle.wire_base.specs.FieldNumber.{IsFieldNumber}
use Rattle.wire_base.specs.InRange.{IsPayloadFitting, AreFitting, IsPayloadNumbered, AreNumbered}
use Rattle.wire_base.specs.RecordLaws.{ShortestTextSpells, NoTextIsShorter, NoOtherTextIsAsShort, TextSpellsOneList}
use Rattle.wire_base.specs.Shortest.{WritesShortest}
use Rattle.wire_base.specs.Spells.{SpellsPayload, Spells}
use Rattle.wire_base.specs.Tag.{IsTagSpelling, tag_text, tag_value}
use Rattle.wire_base.specs.Text.{payload_text, text_of}
use Rattle.wire_base.specs.Varint.{IsSpelling, shortest_varint}
use Rattle.wire_base.proofs.FieldLaws.{one_spelled_lemma, Reads-here}
use Rattle.wire_base.proofs.TagLaws.{IsTagSpelling-tag_text, no_tag_text_is_shorter_lemma}
use Rattle.wire_base.proofs.VarintLaws.{IsSpelling-shortest_varint, shortest_at_most, shortest_of_least}

mutual
  -- the shortest text of a payload is a text of it
  SpellsPayload-payload_text : (p : Payload) (n : ℕ) → IsFieldNumber n → IsPayloadFitting p
      → IsPayloadNumbered p → SpellsPayload n p (payload_text n p)
  SpellsPayload-payload_text (varint v) n num h k = IsSpelling-shortest_varint v h
  SpellsPayload-payload_text (fixed64 v) n num h k = (refl, from_le_bytes-to_le_bytes_8 v h)
  SpellsPayload-payload_text (fixed32 v) n num h k = (refl, from_le_bytes-to_le_bytes_4 v h)
  SpellsPayload-payload_text (bytes b) n num h k =
      Reads-here (IsSpelling (length b)) (shortest_varint (length b)) b
      (IsSpelling-shortest_varint (length b) h)
  SpellsPayload-payload_text (group fs) n num h k = (
    tag_text n EndGroup,
    Reads-here (Spells fs) (text_of fs) (tag_text n EndGroup) (Spells-text_of fs h k),
    IsTagSpelling-tag_text n EndGroup num,
  )

  -- the shortest text of records is a text of them
  Spells-text_of : (fs : Fields) → AreFitting fs → AreNumbered fs → Spells fs (text_of fs)
  Spells-text_of none h k = refl
  Spells-text_of (field n p rest) h k = (
    payload_text n p ++ text_of rest,
    text_of rest,
    Reads-here (IsTagSpelling n (type_of p)) (tag_text n (type_of p))
        (payload_text n p ++ text_of rest) (IsTagSpelling-tag_text n (type_of p) k.0),
    Reads-here (SpellsPayload n p) (payload_text n p) (text_of rest)
        (SpellsPayload-payload_text p n k.0 h.0 k.1),
    Spells-text_of rest h.1 k.2,
  )

-- lengths add up, part by part
no_longer : (a b c d t : List ℕ) → t ≡ c ++ d → length a ≤ length c → length b ≤ length d
    → length (a ++ b) ≤ length t
no_longer a b c d t e h k = omega (arith, length-append a b, ap length e ∙ length-append c d)

mutual
  -- no text of a payload is shorter
  payload_text_at_most : (p : Payload) (n : ℕ) (t : List ℕ) → SpellsPayload n p t
      → length (payload_text n p) ≤ length t
  payload_text_at_most (varint v) n t h = shortest_at_most t v h
  payload_text_at_most (fixed64 v) n t h = omega (arith, h.0)
  payload_text_at_most (fixed32 v) n t h = omega (arith, h.0)
  payload_text_at_most (bytes b) n t h =
      no_longer (shortest_varint (length b)) b h.text b t h.parts
      (shortest_at_most h.text (length b) h.spelled) (omega arith)
  payload_text_at_most (group fs) n t (end, body, tag) =
      no_longer (text_of fs) (tag_text n EndGroup) body.text end t body.parts
      (text_at_most fs body.text body.spelled) (no_tag_text_is_shorter_lemma n EndGroup end tag)

  -- no text of records is shorter
  text_at_most : (fs : Fields) (t : List ℕ) → Spells fs t → length (text_of fs) ≤ length t
  text_at_most none t h = omega arith
  text_at_most (field n p others) t (behind, rest, tag, payload, more) =
      no_longer (tag_text n (type_of p))
      (payload_text n p ++ text_of others) tag.text behind t tag.parts
      (no_tag_text_is_shorter_lemma n (type_of p) tag.text tag.spelled)
      (no_longer (payload_text n p) (text_of others) payload.text rest behind payload.parts
      (payload_text_at_most p n payload.text payload.spelled) (text_at_most others rest more))

-- ---- no other text is as short

-- the bytes of each of two parts are bytes
bytes_front : (xs ys : List ℕ) → All (λ b. b < 256) (xs ++ ys) → All (λ b. b < 256) xs
bytes_front [] ys h = All-nil (λ b. b < 256)
bytes_front (x ∷ xs) ys h =
    All-cons (λ b. b < 256) x xs (All-head (λ b. b < 256) x (xs ++ ys) h)
    (bytes_front xs ys (All-tail (λ b. b < 256) x (xs ++ ys) h))

bytes_behind : (xs ys : List ℕ) → All (λ b. b < 256) (xs ++ ys) → All (λ b. b < 256) ys
bytes_behind [] ys h = h
bytes_behind (x ∷ xs) ys h = bytes_behind xs ys (All-tail (λ b. b < 256) x (xs ++ ys) h)

-- two texts in place of two others that are no longer, where all are as long, part by part
module _ (a b c d t : List ℕ) (parts : t ≡ c ++ d) (h : length a ≤ length c)
    (k : length b ≤ length d) (same : length t ≡ length (a ++ b)) where
  first_as_long : length c ≡ length a
  first_as_long =
      omega (arith, h, k, same, length-append a b, ap length parts ∙ length-append c d)

  second_as_long : length d ≡ length b
  second_as_long =
      omega (arith, h, k, same, length-append a b, ap length parts ∙ length-append c d)

  both_same : All (λ b. b < 256) t
      → (All (λ b. b < 256) c → length c ≡ length a → c ≡ a)
      → (All (λ b. b < 256) d → length d ≡ length b → d ≡ b) → t ≡ a ++ b
  both_same of_bytes first second =
      let all = subst (All (λ b. b < 256)) parts of_bytes in
      parts ∙ ap (λ x. x ++ d) (first (bytes_front c d all) first_as_long)
      ∙ ap (λ y. a ++ y) (second (bytes_behind c d all) second_as_long)

-- a byte of a list of bytes, or nothing past its end
byte_at : (t : List ℕ) → All (λ b. b < 256) t → (i : ℕ) → get_or t i 0 < 256
byte_at t h i =
    ⊎_elim (λ there. All-get_or (λ b. b < 256) t i 0 there h)
    (λ past. rw (get_or_past t i 0 past) (omega arith)) (cases_lt i (length t))

mutual
  payload_as_short : (p : Payload) (n : ℕ) (t : List ℕ) → All (λ b. b < 256) t → SpellsPayload n p t
      → length t ≡ length (payload_text n p) → t ≡ payload_text n p
  payload_as_short (varint v) n t all h same = shortest_of_least t v h all same
  payload_as_short (fixed64 v) n t all h same =
      sym (le_bytes_8 t v h.0 (byte_at t all) (sym h.1))
  payload_as_short (fixed32 v) n t all h same =
      sym (le_bytes_4 t v h.0 (byte_at t all) (sym h.1))
  payload_as_short (bytes b) n t all h same =
      both_same (shortest_varint (length b)) b h.text b t h.parts
      (shortest_at_most h.text (length b) h.spelled) (omega arith) same all
      (λ few long. shortest_of_least h.text (length b) h.spelled few long) (λ few long. refl)
  payload_as_short (group fs) n t all (end, body, tag) same =
      both_same (text_of fs) (tag_text n EndGroup) body.text end t body.parts
      (text_at_most fs body.text body.spelled) (no_tag_text_is_shorter_lemma n EndGroup end tag)
      same all (λ few long. text_as_short fs body.text few body.spelled long)
      (λ few long. shortest_of_least end (tag_value n EndGroup) tag.varint few long)

  text_as_short : (fs : Fields) (t : List ℕ) → All (λ b. b < 256) t → Spells fs t
      → length t ≡ length (text_of fs) → t ≡ text_of fs
  text_as_short none t all h same = h
  text_as_short (field n p others) t all (behind, rest, tag, payload, more) same =
      both_same (tag_text n (type_of p)) (payload_text n p ++ text_of others) tag.text behind t
      tag.parts (no_tag_text_is_shorter_lemma n (type_of p) tag.text tag.spelled)
      (no_longer (payload_text n p) (text_of others) payload.text rest behind payload.parts
      (payload_text_at_most p n payload.text payload.spelled) (text_at_most others rest more))
      same all
      (λ few long. shortest_of_least tag.text (tag_value n (type_of p)) tag.spelled.varint few long)
      (λ few long. both_same (payload_text n p) (text_of others) payload.text rest behind
      payload.parts (payload_text_at_most p n payload.text payload.spelled)
      (text_at_most others rest more) long few
      (λ few long. payload_as_short p n payload.text few payload.spelled long)
      (λ few long. text_as_short others rest few more long))

-- ---- the laws

pub shortest_text_spells_lemma : ShortestTextSpells
shortest_text_spells_lemma = Spells-text_of

pub no_text_is_shorter_lemma : NoTextIsShorter
no_text_is_shorter_lemma = text_at_most

pub no_other_text_is_as_short_lemma : NoOtherTextIsAsShort
no_other_text_is_as_short_lemma = text_as_short

pub text_spells_one_list_lemma : TextSpellsOneList
text_spells_one_list_lemma fs fit numbered = (
  Spells-text_of fs fit numbered,
  λ gs h. one_spelled_lemma gs fs (text_of fs) h
      (Spells-text_of fs fit numbered),
)

-- ---- what was written

pub writes_shortest : (fs : Fields) (text old new : List ℕ) (r : Result (Unit {0}) EncodeError)
    → text ≡ text_of fs → OnOk r (new ≡ old ++ text) → OnOk r (WritesShortest fs old new)
writes_shortest fs text old new (Ok u) is h =
    let all : length new ≡ length old + length (text_of fs) =
    ap length h ∙ length-append old text ∙ ap (λ t. length old + length t) is in
    record {
      no_longer = λ other spelled. omega (arith, all, text_at_most fs other spelled);
      no_other = λ other all_bytes spelled long.
          h ∙ ap (λ t. old ++ t)
          (is ∙ sym (text_as_short fs other all_bytes spelled (omega (arith, all, long))));
    }
writes_shortest fs text old new (Err e) is h = tt
