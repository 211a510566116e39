-- Texts of numbers, one after another: as they are written, and as they are read.
use Rattle.std.proofs.Common.{◌≡◌, ℕ, suc, zero, ◌+◌, ◌-◌, ◌^◌, ◌<◌, ◌≤◌, min, List, [], ◌∷◌, ◌++◌, take, length, get_or, drop, refl, sym, ap, ◌∙◌, subst, append_assoc, add-one, arith, drop-cons, length-append}
use Rattle.std.proofs.lemmas.List.{append-nil, drop_all, map-append}
use Rattle.std.specs.Prelude.{false, ◌==◌, map}
use Rattle.wire_codec.specs.Packed.{SpellsEach, Appends}
use Rattle.wire_codec.specs.Read.{Reads}
use Rattle.wire_codec.specs.Records.{text, text_size}
use Rattle.wire_codec.specs.Tag.{tag_text}
use Rattle.wire_codec.specs.ValueMap.{ValueMap}
use Rattle.wire_codec.specs.Varint.{shortest_varint}
use Rattle.wire_codec.specs.WireType.TheVariants.{LengthDelimited}
use Rattle.wire_fields.specs.declared.form.Form.{Form}
use Rattle.wire_fields.specs.Numbers.{in_64_bits}
use Rattle.wire_fields.specs.Packed.{IsNumberText, number_text, packed_text, packed_records}
use Rattle.wire_fields.specs.Packed.{OneText, some_bytes}
use Rattle.wire_fields.proofs.TextSizes.{some_text}

-- ---- written

module _ {T : Type 0} (form : Form) (values : ValueMap T) where
  -- the number at i, and those behind it
  pub next_number : (vs : List T) (i : ℕ) (v : T) → i < length vs → v ≡ get_or vs i v
      → packed_text form values (drop i vs)
      ≡ number_text form (values.enc v) ++ packed_text form values (drop (i + 1) vs)
  next_number vs i v more is =
      let front : drop i vs ≡ v ∷ drop (i + 1) vs = rw (add-one, drop-cons vs i v)
      (ap (λ (x : T). x ∷ drop (suc i) vs) (sym is)) in
      ap (packed_text form values) front

  -- the bytes beyond the first of each
  abbrev pub beyond_first : List T → ℕ
  beyond_first [] = 0
  beyond_first (v ∷ vs) = (length (number_text form (values.enc v)) - 1) + beyond_first vs

  pub all_bytes : (vs : List T)
      → length (packed_text form values vs) ≡ length vs + beyond_first vs
  all_bytes [] = refl
  all_bytes (v ∷ vs) =
      omega (
        arith,
        length-append (number_text form (values.enc v)) (packed_text form values vs),
        all_bytes vs,
        some_text form (values.enc v),
      )

  next_beyond : (vs : List T) (i : ℕ) (v : T) → i < length vs → v ≡ get_or vs i v
      → beyond_first (drop i vs)
      ≡ (length (number_text form (values.enc v)) - 1) + beyond_first (drop (i + 1) vs)
  next_beyond vs i v more is =
      let front : drop i vs ≡ v ∷ drop (i + 1) vs = rw (add-one, drop-cons vs i v)
      (ap (λ (x : T). x ∷ drop (suc i) vs) (sym is)) in
      ap beyond_first front

  -- one number more is counted
  pub counted_more : (vs : List T) (i len beyond next : ℕ) (v : T) → i < length vs
      → v ≡ get_or vs i v → beyond + 1 ≡ length (number_text form (values.enc v))
      → next ≡ min (len + beyond) (2 ^ 64 - 1)
      → in_64_bits (next + beyond_first (drop (i + 1) vs))
      ≡ in_64_bits (len + beyond_first (drop i vs))
  counted_more vs i len beyond next v more is size sum =
      omega (arith, next_beyond vs i v more is, size, sum)

  -- no number is left
  pub no_number : (vs : List T) (i : ℕ) → length vs ≤ i → packed_text form values (drop i vs) ≡ []
  no_number vs i all = ap (packed_text form values) (drop_all i vs all)

  pub counted_all : (vs : List T) (i len : ℕ) → length vs ≤ i → len < 2 ^ 64
      → in_64_bits (len + beyond_first (drop i vs))
      ≡ in_64_bits (length (packed_text form values vs))
      → len ≡ in_64_bits (length (packed_text form values vs))
  counted_all vs i len all fits is =
      omega (arith, is, ap beyond_first (drop_all i vs all))

  -- the header, and then the numbers
  some_parts : (n len : ℕ) (v : T) (vs : List T) → len ≡ length (packed_text form values (v ∷ vs))
      → text (packed_records form values n (v ∷ vs))
      ≡ (tag_text n LengthDelimited ++ shortest_varint len) ++ packed_text form values (v ∷ vs)
  some_parts n len v vs is =
      let payload = packed_text form values (v ∷ vs) in
      let tag = tag_text n LengthDelimited in
      ap (λ (t : List ℕ). tag ++ t) (append-nil (shortest_varint (length payload) ++ payload))
      ∙ sym (append_assoc tag (shortest_varint (length payload)) payload)
      ∙ ap (λ (k : ℕ). (tag ++ shortest_varint k) ++ payload) (sym is)

  -- a payload is no longer than its field
  pub within_field : (n : ℕ) (vs : List T)
      → length (packed_text form values vs) ≤ text_size (packed_records form values n vs)
  within_field n [] = omega arith
  within_field n (v ∷ vs) =
      let payload = packed_text form values (v ∷ vs) in
      omega (
        arith,
        ap length (some_parts n (length payload) v vs refl),
        length-append (tag_text n LengthDelimited ++ shortest_varint (length payload)) payload,
      )

  pub packed_parts : (n len : ℕ) (vs : List T) → (length vs == 0) ≡ false
      → len ≡ in_64_bits (length (packed_text form values vs))
      → text_size (packed_records form values n vs) ≤ 2147483647
      → text (packed_records form values n vs)
      ≡ (tag_text n LengthDelimited ++ shortest_varint len) ++ packed_text form values vs
  packed_parts n len [] some is small = absurd cc
  packed_parts n len (v ∷ vs) some is small =
      some_parts n len v vs (omega (arith, is, small, within_field n (v ∷ vs)))

-- ---- read

-- the same form by another name
pub in_form : {old new : List ℕ} {f k : Form} (x : ℕ) → f ≡ k → Reads old (IsNumberText f x) new
    → Reads old (IsNumberText k x) new
in_form {old} {new} x is h = subst (λ j. Reads old (IsNumberText j x) new) is h

-- a number takes some bytes
pub shorter : (form : Form) (old new : List ℕ) (x : ℕ) → Reads old (IsNumberText form x) new
    → suc (length new) ≤ length old
shorter form old new x h = fewer h.text h.spelled h.parts where
  fewer : (text : List ℕ) → IsNumberText form x text → old ≡ text ++ new → suc (length new) ≤ length old
  fewer [] is parts = absurd (some_bytes form x [] is refl)
  fewer (b ∷ text) is parts = omega (arith, ap length parts, length-append (b ∷ text) new)

-- one number more at the end
one_more : (form : Form) (numbers : List ℕ) (x : ℕ) (front text : List ℕ)
    → SpellsEach (IsNumberText form) numbers front → IsNumberText form x text
    → SpellsEach (IsNumberText form) (numbers ++ x ∷ []) (front ++ text)
one_more form [] x front text none h =
    (text, [], ap (λ (t : List ℕ). t ++ text) none ∙ sym (append-nil text), h, refl)
one_more form (n ∷ numbers) x front text (one, more, parts, first, others) h = (
  one,
  more ++ text,
  ap (λ (t : List ℕ). t ++ text) parts ∙ append_assoc one more text,
  first,
  one_more form numbers x more text others h,
)

-- numbers in front, and then bytes that begin with no number, are not numbers
not_whole : (form : Form) → OneText form → (front numbers all rest : List ℕ)
    → SpellsEach (IsNumberText form) numbers front → 0 < length rest
    → ((x : ℕ) (new : List ℕ) → Reads rest (IsNumberText form x) new → ⊥)
    → SpellsEach (IsNumberText form) all (front ++ rest) → ⊥
not_whole form one front [] [] rest none some absent k =
    absurd (omega (arith, some, ap length k, length-append front rest))
not_whole form one front [] (y ∷ ys) rest none some absent (first, more, parts, is, others) =
    absent y more (record {
      text = first;
      parts = sym (ap (λ (t : List ℕ). t ++ rest) none) ∙ parts;
      spelled = is;
    })
not_whole form one front (x ∷ xs) [] rest h some absent k =
    absurd (omega (arith, some, ap length k, length-append front rest))
not_whole form one front (x ∷ xs) (y ∷ ys) rest (first, more, parts, is, others) some absent
    (first_2, more_2, parts_2, is_2, others_2) =
    let same = one (front ++ rest) (more ++ rest) more_2 x y (record {
      text = first;
      parts = ap (λ (t : List ℕ). t ++ rest) parts ∙ append_assoc first more rest;
      spelled = is;
    }) (record { text = first_2; parts = parts_2; spelled = is_2 }) in
    not_whole form one more xs ys rest others some absent
    (subst (λ t. SpellsEach (IsNumberText form) ys t) (sym same.1) others_2)

-- the numbers of a front of the payload were appended, and rest is what is left of it
pub record Follows {T : Type 0} (form : Form) (values : ValueMap T) (payload : List ℕ)
    (before : List T) (rest : List ℕ) (now : List T) : Type 0 where
  pub front : List ℕ
  pub parts : payload ≡ front ++ rest
  pub appends : Appends (IsNumberText form) values front before now

module _ {T : Type 0} (form : Form) (values : ValueMap T) (payload : List ℕ) (before : List T) where
  pub begun : Follows form values payload before payload before
  begun = record {
    front = [];
    parts = refl;
    appends = record { numbers = []; spelled = refl; appended = sym (append-nil before) };
  }

  pub followed : (rest next : List ℕ) (now then : List T) (x : ℕ) (v : T)
      → Follows form values payload before rest now → Reads rest (IsNumberText form x) next
      → v ≡ values.dec x → then ≡ now ++ v ∷ [] → Follows form values payload before next then
  followed rest next now then x v h r is pushed = record {
    front = h.front ++ r.text;
    parts = h.parts ∙ ap (λ (t : List ℕ). h.front ++ t) r.parts
        ∙ sym (append_assoc h.front r.text next);
    appends = record {
      numbers = h.appends.numbers ++ x ∷ [];
      spelled = one_more form h.appends.numbers x h.front r.text h.appends.spelled r.spelled;
      appended = pushed ∙ ap (λ (y : T). now ++ y ∷ []) is
          ∙ ap (λ (t : List T). t ++ values.dec x ∷ []) h.appends.appended
          ∙ append_assoc before (map values.dec h.appends.numbers) (values.dec x ∷ [])
          ∙ ap (λ (t : List T). before ++ t)
          (sym (map-append values.dec h.appends.numbers (x ∷ [])));
    };
  }

  pub ended : (rest : List ℕ) (now : List T) → Follows form values payload before rest now
      → length rest ≡ 0 → Appends (IsNumberText form) values payload before now
  ended [] now h none =
      subst (λ t. Appends (IsNumberText form) values t before now)
      (sym (h.parts ∙ append-nil h.front)) h.appends
  ended (b ∷ rest) now h none = absurd (omega (arith, none))

  pub no_numbers : OneText form → (rest : List ℕ) (now : List T)
      → Follows form values payload before rest now → 0 < length rest
      → ((x : ℕ) (new : List ℕ) → Reads rest (IsNumberText form x) new → ⊥) → (after : List T)
      → Appends (IsNumberText form) values payload before after → ⊥
  no_numbers one rest now h some absent after k =
      not_whole form one h.front h.appends.numbers k.numbers rest h.appends.spelled some absent
      (subst (λ t. SpellsEach (IsNumberText form) k.numbers t) h.parts k.spelled)

-- a beginning of a beginning
pub take_within : (i j : ℕ) (l : List ℕ) → i ≤ j → take i (take j l) ≡ take i l
take_within zero j l le = refl
take_within (suc i) zero l le = absurd (omega arith)
take_within (suc i) (suc j) [] le = refl
take_within (suc i) (suc j) (b ∷ l) le =
    ap (λ (t : List ℕ). b ∷ t) (take_within i j l (omega arith))
