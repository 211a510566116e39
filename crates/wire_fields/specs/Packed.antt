-- Repeated numbers: packed into one payload, or each in a record of its own. Both are read.
use Rattle.std.proofs.Common.{◌≡◌, ◌⊎◌, inl, inr, ap, ◌∙◌, sym, arith, List, [], ◌∷◌, ◌++◌, length, subst}
use Rattle.std.specs.Int.{Width, w32, w64, from_le_bytes, to_le_bytes}
use Rattle.std.specs.Prelude.{ℕ, map}
use Rattle.wire_codec.specs.Field.{Payload, bytes}
use Rattle.wire_codec.specs.Fixed.{IsFixed}
use Rattle.wire_codec.specs.Folds.{Step, IsSingle}
use Rattle.wire_codec.specs.Limits.{no_charge}
use Rattle.wire_codec.specs.Packed.{SpellsEach, Appends}
use Rattle.wire_codec.specs.Read.{Reads}
use Rattle.wire_codec.specs.Records as records
use Rattle.wire_codec.specs.Records.{Records, none, field}
use Rattle.wire_codec.specs.ValueMap.{ValueMap}
use Rattle.wire_codec.specs.Varint.{IsSpelling, shortest_varint}
use Rattle.wire_codec.specs.VarintLaws.{OneVarint}
use Rattle.wire_fields.specs.declared.form.Form.{Form}
use Rattle.wire_fields.specs.declared.form.Form.TheVariants.{Varint, Fixed64, Fixed32}
use Rattle.wire_fields.specs.Numbers.{number_payload, SetsNumber, numeric}
use Rattle.wire_fields.specs.Presence.{each_record}
use Rattle.wire_fields.specs.Shape.{FieldKind, Lawful}

-- ---- texts of numbers

-- a text of a number in this form
abbrev pub IsNumberText : Form → ℕ → List ℕ → Type 0
IsNumberText Varint = IsSpelling
IsNumberText Fixed64 = IsFixed w64
IsNumberText Fixed32 = IsFixed w32

-- the one that is written
abbrev pub number_text : Form → ℕ → List ℕ
number_text Varint x = shortest_varint x
number_text Fixed64 x = to_le_bytes w64 x
number_text Fixed32 x = to_le_bytes w32 x

-- those of numbers, one after another
abbrev pub packed_text : {T : Type 0} → Form → ValueMap T → List T → List ℕ
packed_text form values [] = []
packed_text form values (v ∷ vs) = number_text form (values.enc v) ++ packed_text form values vs

-- ---- what is written

-- the numbers in one payload, where there are any
abbrev pub packed_records : {T : Type 0} → Form → ValueMap T → ℕ → List T → Records
packed_records form values n [] = none
packed_records form values n (v ∷ vs) = field n (records.bytes (packed_text form values (v ∷ vs))) none

-- ---- what is taken

-- a number more
pub record AddsNumber {T : Type 0} (form : Form) (values : ValueMap T) (m : List T) (p : Payload)
    (z : List T) : Type 0 where
  pub value : T
  pub sets : SetsNumber form values p value
  pub is : z ≡ m ++ value ∷ []

-- those of a payload more, which has to be whole numbers
pub record AddsPayload {T : Type 0} (form : Form) (values : ValueMap T) (m : List T) (p : Payload)
    (z : List T) : Type 0 where
  pub payload : List ℕ
  pub is : p ≡ bytes payload
  pub appends : Appends (IsNumberText form) values payload m z

abbrev pub adds_numbers : {T : Type 0} → Form → ValueMap T → Step (List T)
adds_numbers form values m n p c z =
    (c ≡ no_charge) × (AddsNumber form values m p z ⊎ AddsPayload form values m p z)

-- ---- single

-- bytes begin with one number at most
abbrev pub OneText : Form → Type 0
OneText form =
    (old r s : List ℕ) (x y : ℕ) → Reads old (IsNumberText form x) r
    → Reads old (IsNumberText form y) s → (x ≡ y) × (r ≡ s)

pub same_parts : (a b c d : List ℕ) → a ++ b ≡ c ++ d → length a ≡ length c → (a ≡ c) × (b ≡ d)
same_parts [] b [] d e len = (λ i. [], e)
same_parts [] b (y ∷ c) d e len = absurd (omega (arith, len))
same_parts (x ∷ a) b [] d e len = absurd (omega (arith, len))
same_parts (x ∷ a) b (y ∷ c) d e len =
    let rest = same_parts a b c d (cc) (omega (arith, len)) in
    (cc, rest.1)

one_fixed : (width : Width) (old r s : List ℕ) (x y : ℕ) → Reads old (IsFixed width x) r
    → Reads old (IsFixed width y) s → (x ≡ y) × (r ≡ s)
one_fixed width old r s x y h k =
    let same = same_parts h.text r k.text s (sym h.parts ∙ k.parts)
    (h.spelled.0 ∙ sym k.spelled.0) in
    (sym h.spelled.1 ∙ ap (from_le_bytes width) same.0 ∙ k.spelled.1, same.1)

pub one_text : OneVarint → (form : Form) → OneText form
one_text one Varint = one
one_text one Fixed64 = one_fixed w64
one_text one Fixed32 = one_fixed w32

-- a text of numbers has some bytes for each
pub some_bytes : (form : Form) (x : ℕ) (text : List ℕ) → IsNumberText form x text → text ≡ [] → ⊥
some_bytes Varint x [] h e = h.ended
some_bytes Varint x (b ∷ text) h e = absurd (omega (arith, ap length e))
some_bytes Fixed64 x text h e = absurd (omega (arith, h.0, ap length e))
some_bytes Fixed32 x text h e = absurd (omega (arith, h.0, ap length e))

none_in_front : (form : Form) (x : ℕ) (one more text : List ℕ) → text ≡ [] → text ≡ one ++ more
    → IsNumberText form x one → ⊥
none_in_front form x [] more text empty parts h = some_bytes form x [] h (λ i. [])
none_in_front form x (b ∷ one) more text empty parts h =
    absurd (omega (arith, ap length (sym empty ∙ parts)))

pub one_list : (form : Form) → OneText form → (xs ys text : List ℕ)
    → SpellsEach (IsNumberText form) xs text → SpellsEach (IsNumberText form) ys text → xs ≡ ys
one_list form one [] [] text h k = λ i. []
one_list form one [] (y ∷ ys) text h (front, more, parts, is, others) =
    absurd (none_in_front form y front more text h parts is)
one_list form one (x ∷ xs) [] text (front, more, parts, is, others) k =
    absurd (none_in_front form x front more text k parts is)
one_list form one (x ∷ xs) (y ∷ ys) text (front, more, parts, is, others)
    (front_2, more_2, parts_2, is_2, others_2) =
    let same = one text more more_2 x y (record { text = front; parts = parts; spelled = is })
    (record { text = front_2; parts = parts_2; spelled = is_2 }) in
    let rest = one_list form one xs ys more_2
    (subst (λ t. SpellsEach (IsNumberText form) xs t) same.1 others) others_2 in
    ap (λ (a : ℕ). a ∷ xs) same.0 ∙ ap (λ (l : List ℕ). y ∷ l) rest

pub no_number : (form : Form) (p : Payload) (x : ℕ) (b : List ℕ) → p ≡ number_payload form x
    → p ≡ bytes b → ⊥
no_number Varint p x b h k = absurd cc
no_number Fixed64 p x b h k = absurd cc
no_number Fixed32 p x b h k = absurd cc

same_bytes : (p : Payload) (a b : List ℕ) → p ≡ bytes a → p ≡ bytes b → a ≡ b
same_bytes p a b h k = cc

module _ {T : Type 0} (form : Form) (values : ValueMap T) (one : OneText form) where
  one_outcome : (m : List T) (p : Payload) (z w : List T)
      → (AddsNumber form values m p z ⊎ AddsPayload form values m p z)
      → (AddsNumber form values m p w ⊎ AddsPayload form values m p w) → z ≡ w
  one_outcome m p z w (inl h) (inl k) =
      h.is ∙ ap (λ (v : T). m ++ v ∷ []) ((numeric form values).one p h.value k.value h.sets k.sets)
      ∙ sym k.is
  one_outcome m p z w (inl h) (inr k) =
      absurd (no_number form p h.sets.number k.payload h.sets.has k.is)
  one_outcome m p z w (inr h) (inl k) =
      absurd (no_number form p k.sets.number h.payload k.sets.has h.is)
  one_outcome m p z w (inr h) (inr k) =
      let same = one_list form one h.appends.numbers k.appends.numbers k.payload
      (subst (λ t. SpellsEach (IsNumberText form) h.appends.numbers t)
      (same_bytes p h.payload k.payload h.is k.is) h.appends.spelled) k.appends.spelled in
      h.appends.appended ∙ ap (λ (xs : List ℕ). m ++ map values.dec xs) same
      ∙ sym k.appends.appended

  pub adds_numbers_single : IsSingle (adds_numbers form values)
  adds_numbers_single m u z w n p c d h k = (
    h.0 ∙ sym k.0,
    λ e. one_outcome u p z w (subst (λ x. AddsNumber form values x p z ⊎ AddsPayload form values x p z) e h.1)
        k.1,
  )

-- ---- kinds

abbrev pub packed_kind : {T : Type 0} → Form → ValueMap T → FieldKind (List T)
packed_kind form values = record {
  default = [];
  records = packed_records form values;
  takes = adds_numbers form values;
}

abbrev pub unpacked_kind : {T : Type 0} → Form → ValueMap T → FieldKind (List T)
unpacked_kind form values = record {
  default = [];
  records = each_record (numeric form values);
  takes = adds_numbers form values;
}

-- numbers, written in one payload
abbrev pub packed : {T : Type 0} → Form → ValueMap T → Lawful (List T)
packed form values = record {
  kind = packed_kind form values;
  single = λ reading. adds_numbers_single form values (one_text reading.varint form);
}

-- numbers, each written in a record of its own
abbrev pub unpacked : {T : Type 0} → Form → ValueMap T → Lawful (List T)
unpacked form values = record {
  kind = unpacked_kind form values;
  single = λ reading. adds_numbers_single form values (one_text reading.varint form);
}
