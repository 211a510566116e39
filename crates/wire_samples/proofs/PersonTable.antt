-- A `Person` by the kinds of its fields: they have its records, and make of a record what it does.
use Rattle.std.proofs.Common.{◌≡◌, ◌≢◌, ◌⊎◌, inl, inr, ℕ, zero, suc, ◌-◌, ◌^◌, List, [], ◌∷◌, ◌++◌, length, refl, sym, ap, ◌∙◌, subst, arith}
use Rattle.std.specs.Int.{w32}
use Rattle.std.specs.Prelude.{ℤ, pos, negsuc, ◌==◌, FitsSigned, IsUtf8}
use Rattle.wire_codec.specs.Field.{Payload, varint, fixed64, fixed32, bytes, group, Fields, push}
use Rattle.wire_codec.specs.Limits.{Charge}
use Rattle.wire_codec.specs.Records as records
use Rattle.wire_codec.specs.Records.{Records, joined_records, of_fields}
use Rattle.wire_codec.specs.ValueMap.{ValueMap, int32}
use Rattle.wire_codec.specs.Varint.{shortest_varint}
use Rattle.wire_fields.specs.Arms.{unlike}
use Rattle.wire_fields.specs.declared.form.Form.TheVariants.{Varint}
use Rattle.wire_fields.specs.Numbers as kinds
use Rattle.wire_fields.specs.Numbers.{numeric}
use Rattle.wire_fields.specs.Packed.{packed_text, packed_records, adds_numbers, AddsNumber}
use Rattle.wire_fields.specs.Packed.{AddsPayload}
use Rattle.wire_fields.specs.Presence.{implicit_records, sets, unless}
use Rattle.wire_fields.specs.Shape.{keeps}
use Rattle.wire_fields.specs.Texts.{SetsBytes, string}
use Rattle.wire_samples.specs.FieldRecords.{int32_field, bytes_field, packed_int32}
use Rattle.wire_samples.specs.FieldRecords.{packed_int32_field}
use Rattle.wire_samples.specs.FieldSteps.{SetsInteger, SetsText, AppendsInt32}
use Rattle.wire_samples.specs.Person.{PersonValue, PersonTakes, id, name, scores, unknown}
use Rattle.wire_samples.specs.Person.{person_records, with_id, with_name, with_scores, with_others}

-- ---- records

-- the record of a value that is not the default
pub some : (test : ℕ) (rs : Records) → test ≢ 0 → unless (test == 0) rs ≡ rs
some test rs not_zero = ap (λ b. unless b rs) (unlike test 0 not_zero)

int32_same : (n : ℕ) (v : ℤ) → FitsSigned w32 v
    → implicit_records (numeric Varint int32) n v ≡ int32_field n v
int32_same n (pos zero) h = refl
int32_same n (pos (suc k)) h = some (suc k) _ (λ e. omega (arith, e))
int32_same n (negsuc k) h = some (2 ^ 64 - suc k) _ (λ e. omega (arith, e, h))

text_same : (n : ℕ) (text : List ℕ) → implicit_records string n text ≡ bytes_field n text
text_same n [] = refl
text_same n (b ∷ more) = some (length (b ∷ more)) _ (λ e. omega (arith, e))

payload_same : (vs : List ℤ) → packed_text Varint int32 vs ≡ packed_int32 vs
payload_same [] = refl
payload_same (v ∷ vs) =
    ap (λ (t : List ℕ). shortest_varint (int32.enc v) ++ t) (payload_same vs)

packed_same : (n : ℕ) (vs : List ℤ) → packed_records Varint int32 n vs ≡ packed_int32_field n vs
packed_same n [] = refl
packed_same n (v ∷ vs) =
    ap (λ (t : List ℕ). records.field n (records.bytes t) records.none) (payload_same (v ∷ vs))

-- the records of the fields, one behind another
abbrev pub field_records : PersonValue → Records
field_records m =
    joined_records (implicit_records (numeric Varint int32) 1 m.id)
    (joined_records (implicit_records string 2 m.name)
    (joined_records (packed_records Varint int32 3 m.scores) (of_fields m.unknown)))

pub same_records : (m : PersonValue) → FitsSigned w32 m.id → field_records m ≡ person_records m
same_records m h = rw (
  int32_same 1 m.id h,
  text_same 2 m.name,
  packed_same 3 m.scores,
) refl

-- ---- what the fields make of payloads

pub number_set : (map : ValueMap ℤ) (p : Payload) (v : ℤ) → kinds.SetsNumber Varint map p v
    → SetsInteger map p v
number_set map p v h = subst (λ q. SetsInteger map q v) (sym h.has) h.is

pub number_back : (map : ValueMap ℤ) (p : Payload) (v : ℤ) → SetsInteger map p v
    → kinds.SetsNumber Varint map p v
number_back map (varint x) v h = record { number = x; has = refl; is = h }
number_back map (fixed64 x) v h = absurd h
number_back map (fixed32 x) v h = absurd h
number_back map (bytes b) v h = absurd h
number_back map (group fs) v h = absurd h

text_set : (p : Payload) (text : List ℕ) → SetsBytes IsUtf8 p text → SetsText p text
text_set p text h = subst (λ q. SetsText q text) (sym h.has) (h.holds, refl)

text_back : (p : Payload) (text : List ℕ) → SetsText p text → SetsBytes IsUtf8 p text
text_back (varint x) text h = absurd h
text_back (fixed64 x) text h = absurd h
text_back (fixed32 x) text h = absurd h
text_back (bytes b) text h =
    record { has = ap bytes (sym h.1); holds = subst IsUtf8 (sym h.1) h.0 }
text_back (group fs) text h = absurd h

numbers_added : (m : List ℤ) (p : Payload) (z : List ℤ)
    → (AddsNumber Varint int32 m p z ⊎ AddsPayload Varint int32 m p z) → AppendsInt32 m p z
numbers_added m p z (inl h) =
    subst (λ q. AppendsInt32 m q z) (sym h.sets.has)
    (h.is ∙ ap (λ (v : ℤ). m ++ v ∷ []) h.sets.is)
numbers_added m p z (inr h) = subst (λ q. AppendsInt32 m q z) (sym h.is) h.appends

numbers_back : (m : List ℤ) (p : Payload) (z : List ℤ) → AppendsInt32 m p z
    → (AddsNumber Varint int32 m p z ⊎ AddsPayload Varint int32 m p z)
numbers_back m (varint x) z h = inl (record {
  value = int32.dec x;
  sets = record { number = x; has = refl; is = refl };
  is = h;
})
numbers_back m (fixed64 x) z h = absurd h
numbers_back m (fixed32 x) z h = absurd h
numbers_back m (bytes b) z h = inr (record { payload = b; is = refl; appends = h })
numbers_back m (group fs) z h = absurd h

-- ---- what a person makes of a record

module _ (m : PersonValue) where
  pub id_taken : (v : ℤ) (c : Charge) (p : Payload) → sets (numeric Varint int32) m.id 1 p c v
      → PersonTakes m 1 p c (with_id m v)
  id_taken v c p h = id v refl (number_set int32 p v h.1) h.0 refl

  pub id_back : (c : Charge) (z : PersonValue) (p : Payload) → PersonTakes m 1 p c z
      → (v : ℤ) × sets (numeric Varint int32) m.id 1 p c v
  id_back c z p (id v n_is made charged is) = (v, (charged, number_back int32 p v made))
  id_back c z p (name text n_is made charged is) = absurd (omega (arith, n_is))
  id_back c z p (scores after n_is made charged is) = absurd (omega (arith, n_is))
  id_back c z p (unknown one two three charged is) = absurd (one refl)

  pub name_taken : (text : List ℕ) (c : Charge) (p : Payload) → sets string m.name 2 p c text
      → PersonTakes m 2 p c (with_name m text)
  name_taken text c p h = name text refl (text_set p text h.1) h.0 refl

  pub name_back : (c : Charge) (z : PersonValue) (p : Payload) → PersonTakes m 2 p c z
      → (text : List ℕ) × sets string m.name 2 p c text
  name_back c z p (id v n_is made charged is) = absurd (omega (arith, n_is))
  name_back c z p (name text n_is made charged is) = (text, (charged, text_back p text made))
  name_back c z p (scores after n_is made charged is) = absurd (omega (arith, n_is))
  name_back c z p (unknown one two three charged is) = absurd (two refl)

  pub scores_taken : (after : List ℤ) (c : Charge) (p : Payload)
      → adds_numbers Varint int32 m.scores 3 p c after → PersonTakes m 3 p c (with_scores m after)
  scores_taken after c p h = scores after refl (numbers_added m.scores p after h.1) h.0 refl

  pub scores_back : (c : Charge) (z : PersonValue) (p : Payload) → PersonTakes m 3 p c z
      → (after : List ℤ) × adds_numbers Varint int32 m.scores 3 p c after
  scores_back c z p (id v n_is made charged is) = absurd (omega (arith, n_is))
  scores_back c z p (name text n_is made charged is) = absurd (omega (arith, n_is))
  scores_back c z p (scores after n_is made charged is) =
      (after, (charged, numbers_back m.scores p after made))
  scores_back c z p (unknown one two three charged is) = absurd (three refl)

  module _ (n : ℕ) (one : n ≢ 1) (two : n ≢ 2) (three : n ≢ 3) where
    pub unknown_taken : (fs : Fields) (c : Charge) (p : Payload) → keeps m.unknown n p c fs
        → PersonTakes m n p c (with_others m fs)
    unknown_taken fs c p h = unknown one two three h.0 (ap (with_others m) h.1)

    pub unknown_back : (c : Charge) (z : PersonValue) (p : Payload) → PersonTakes m n p c z
        → (fs : Fields) × keeps m.unknown n p c fs
    unknown_back c z p (id v n_is made charged is) = absurd (one n_is)
    unknown_back c z p (name text n_is made charged is) = absurd (two n_is)
    unknown_back c z p (scores after n_is made charged is) = absurd (three n_is)
    unknown_back c z p (unknown not_one not_two not_three charged is) =
        (push m.unknown n p, (charged, refl))
