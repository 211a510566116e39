-- The records that are not owned, met one by one.
use Rattle.std.proofs.Common.{◌≡◌, ◌≤◌, ℕ, ◌+◌, ◌-◌, ◌^◌, min, List, [], ◌∷◌, ◌++◌, length, refl}
use Rattle.std.proofs.Common.{sym, ap, ◌∙◌, arith, append-nil, append_assoc}
use Rattle.std.specs.Prelude.{Bool, true, false}
use Rattle.wire_base.proofs.FieldLaws.{head_of, joined-none, none_takes_nothing, rest_below}
use Rattle.wire_base.proofs.FieldLaws.{Spells-all}
use Rattle.wire_base.proofs.JoinedLaws.{payload_as}
use Rattle.wire_base.proofs.TagLaws.{no_tag_beside_fault_lemma, one_tag_lemma}
use Rattle.wire_base.specs.Charge.{charge, payload_charge}
use Rattle.wire_base.specs.Field.{Payload, Fields, none, field, joined, push, type_of}
use Rattle.wire_base.specs.Limits.{uncounted}
use Rattle.wire_base.specs.Read.{Reads}
use Rattle.wire_base.specs.Spells.{Spells}
use Rattle.wire_base.specs.Tag.{IsTagSpelling, TagFault, tag_text}
use Rattle.wire_base.specs.Taken.{TakesFields, TakesPayload}
use Rattle.wire_base.specs.Text.{payload_text, record_text, text_of, size}
use Rattle.wire_base.specs.declared.error.DecodeError.{DecodeError}
use Rattle.wire_base.specs.declared.tag.WireType.{WireType}
use Rattle.wire_fields.specs.Numbers.{in_64_bits}
use Rattle.wire_fields.specs.Shape.{Owns}
use Rattle.wire_structs.proofs.UnknownSizes.{counted_push}
use Rattle.wire_structs.specs.Unknown.{SpellsShallow, unowned, unless_owned}

-- ---- one record more at the end

unless_joined : (b : Bool) (n : ℕ) (p : Payload) (fs gs : Fields)
    → unless_owned b n p (joined fs gs) ≡ joined (unless_owned b n p fs) gs
unless_joined true n p fs gs = refl
unless_joined false n p fs gs = refl

pub unowned-push : (owns : Owns) (fs : Fields) (n : ℕ) (p : Payload)
    → unowned owns (push fs n p)
    ≡ joined (unowned owns fs) (unowned owns (field n p none))
unowned-push owns none n p = refl
unowned-push owns (field m q fs) n p =
    ap (unless_owned (owns m q) m q) (unowned-push owns fs n p)
    ∙ unless_joined (owns m q) m q (unowned owns fs) (unowned owns (field n p none))

-- what such a record counts
abbrev Counts : Bool → ℕ → ℕ → Type 0
Counts true k taken = k ≡ 0
Counts false k taken = k ≡ taken

counted_at : (b : Bool) (fs : Fields) (n : ℕ) (p : Payload) (len k taken sum : ℕ)
    → len ≡ in_64_bits (size fs) → taken ≡ in_64_bits (length (record_text n p))
    → sum ≡ min (len + k) (2 ^ 64 - 1) → Counts b k taken
    → sum ≡ in_64_bits (size (joined fs (unless_owned b n p none)))
counted_at true fs n p len k taken sum one other is counts =
    let rest : joined fs none ≡ fs = joined-none fs in
    omega (arith, one, is, counts, ap size rest)
counted_at false fs n p len k taken sum one other is counts =
    counted_push fs n p len k sum one (counts ∙ other) is

by_owner : (b : Bool) (k taken : ℕ) → (b ≡ true → k ≡ 0) → (b ≡ false → k ≡ taken)
    → Counts b k taken
by_owner true k taken owned not = owned refl
by_owner false k taken owned not = not refl

pub counted_more : (owns : Owns) (fs : Fields) (n : ℕ) (p : Payload) (len k taken sum : ℕ)
    → len ≡ in_64_bits (size (unowned owns fs))
    → taken ≡ in_64_bits (length (record_text n p))
    → (owns n p ≡ true → k ≡ 0) → (owns n p ≡ false → k ≡ taken)
    → sum ≡ min (len + k) (2 ^ 64 - 1) → sum ≡ in_64_bits (size (unowned owns (push fs n p)))
counted_more owns fs n p len k taken sum one other owned not is =
    counted_at (owns n p) (unowned owns fs) n p len k taken sum one other is
    (by_owner (owns n p) k taken owned not)
    ∙ ap (λ gs. in_64_bits (size gs)) (sym (unowned-push owns fs n p))

-- ---- the first record

-- all of the bytes that are left are records
pub record Next (n : ℕ) (w : WireType) (left : Fields) (behind : List ℕ) : Type 0 where
  pub payload : Payload
  pub others : Fields
  pub next : List ℕ
  pub is : left ≡ field n payload others
  pub taken : TakesPayload (payload_charge payload) (uncounted 100) n w payload behind next
  pub read : Reads next (Spells others) []
  pub levels : (charge others).depth ≤ 100

pub next_record : (n : ℕ) (w : WireType) (left : Fields) (now behind : List ℕ)
    → Reads now (Spells left) [] → (charge left).depth ≤ 100 → Reads now (IsTagSpelling n w) behind
    → Next n w left behind
next_record n w none now behind read levels tag =
    absurd (omega (
      arith,
      rest_below n w now behind tag,
      ap length (none_takes_nothing now [] read),
    ))
next_record n w (field m p others) now behind read levels tag =
    let head = head_of m p others now [] read in
    let same = one_tag_lemma now behind head.behind n m w (type_of p) tag head.tag in
    record {
      payload = p;
      others = others;
      next = head.rest;
      is = ap (λ j. field j p others) (sym same.0);
      taken = rw (same.0, same.1, same.2) (record {
        read = payload_as m p head.behind head.rest head.payload;
        fits = record {
          depth = omega (arith, levels);
          counts = record { unknown_fields = tt; element_memory = tt; unknown_bytes = tt };
        };
      });
      read = head.others;
      levels = omega (arith, levels);
    }

-- no record is left where no tag stands
pub none_left : (left : Fields) (now : List ℕ) (e : DecodeError) → Reads now (Spells left) []
    → TagFault now e → left ≡ none
none_left none now e read fault = refl
none_left (field m p others) now e read fault =
    let head = head_of m p others now [] read in
    absurd (no_tag_beside_fault_lemma now head.behind m (type_of p) e head.tag fault)

-- ---- what is written of it

text_unless : (b : Bool) (n : ℕ) (p : Payload) (fs : Fields)
    → text_of (unless_owned b n p fs) ≡ text_of (unless_owned b n p none) ++ text_of fs
text_unless true n p fs = refl
text_unless false n p fs =
    ap (λ t. tag_text n (type_of p) ++ t)
    (ap (λ t. t ++ text_of fs) (sym (append-nil (payload_text n p))))
    ∙ sym (append_assoc (tag_text n (type_of p)) (payload_text n p ++ []) (text_of fs))

pub text_first : (owns : Owns) (n : ℕ) (p : Payload) (others : Fields)
    → text_of (unowned owns (field n p others))
    ≡ text_of (unowned owns (field n p none)) ++ text_of (unowned owns others)
text_first owns n p others = text_unless (owns n p) n p (unowned owns others)

-- ---- all of the bytes

pub whole_records : (fs : Fields) (bytes left : List ℕ)
    → TakesFields (charge fs) (uncounted 100) fs bytes left → length left ≡ 0
    → SpellsShallow bytes fs
whole_records fs bytes left h empty = record {
  spelled = Spells-all fs bytes left h.read (nothing_left left empty);
  levels = h.fits.depth;
}
  where
    nothing_left : (xs : List ℕ) → length xs ≡ 0 → xs ≡ []
    nothing_left [] e = refl
    nothing_left (x ∷ xs) e = absurd (omega arith)
