-- The records of a `Person` fold back to it.
use Rattle.std.proofs.Common.{◌≡◌, ℕ, zero, suc, ◌^◌, ◌<◌, ◌≤◌, List, [], ◌∷◌, ◌++◌, length, refl, sym, ap, ◌∙◌, subst, arith}
use Rattle.std.proofs.lemmas.List.{append-nil}
use Rattle.std.proofs.lemmas.List.Elements.{All-head, All-tail}
use Rattle.std.specs.Prelude.{ℤ, pos, negsuc, map, All, FitsSigned, IsUtf8}
use Rattle.std.specs.Int.{w32}
use Rattle.wire_codec.specs.Charge.{payload_charge, charge}
use Rattle.wire_codec.specs.Field as grammar
use Rattle.wire_codec.specs.Folds.{Folds}
use Rattle.wire_codec.specs.InRange.{AreFitting, AreNumbered}
use Rattle.wire_codec.specs.Laws.{JoinedTextsAndSizes, FieldsArePlain}
use Rattle.wire_codec.specs.Limits.{Charge, no_charge}
use Rattle.wire_codec.specs.LimitsLaws.{ChargesAddUp}
use Rattle.wire_codec.specs.Packed.{SpellsEach}
use Rattle.wire_codec.specs.Records.{Records, plain, text_size, joined_records, of_fields}
use Rattle.wire_codec.specs.ScalarLaws.{DecodesBack}
use Rattle.wire_codec.specs.ValueMap.{int32}
use Rattle.wire_codec.specs.Varint.{IsSpelling, shortest_varint}
use Rattle.wire_codec.specs.VarintLaws.{ShortestReadsBack}
use Rattle.wire_samples.proofs.Persons.{scores_fit, name_fits}
use Rattle.wire_samples.specs.FieldRecords.{int32_field, bytes_field, packed_int32}
use Rattle.wire_samples.specs.FieldRecords.{packed_int32_field}
use Rattle.wire_samples.specs.Kept.{NumbersAre}
use Rattle.wire_samples.specs.Person.{PersonValue, PersonTakes, id, name, scores, unknown}
use Rattle.wire_samples.specs.Person.{with_id, with_name, with_scores, with_others}
use Rattle.wire_samples.specs.Person.{IsPerson, IsPersonOther, default_person, person_records}

enc_fits : (v : ℤ) → FitsSigned w32 v → int32.enc v < 2 ^ 64
enc_fits (pos n) h = omega (arith, h)
enc_fits (negsuc n) h = omega arith

pub joined-none : (fs : grammar.Fields) → grammar.joined fs grammar.none ≡ fs
joined-none grammar.none = refl
joined-none (grammar.field n p fs) = ap (grammar.field n p) (joined-none fs)

-- a record more at the end of the first list is one more at the front of the second
pub push_joined : (fs : grammar.Fields) (n : ℕ) (p : grammar.Payload) (gs : grammar.Fields)
    → grammar.joined (grammar.push fs n p) gs ≡ grammar.joined fs (grammar.field n p gs)
push_joined grammar.none n p gs = refl
push_joined (grammar.field k q fs) n p gs = ap (grammar.field k q) (push_joined fs n p gs)

-- the shortest varint of a number is one
one_spelling : ShortestReadsBack → (v : ℕ) → v < 2 ^ 64 → IsSpelling v (shortest_varint v)
one_spelling shortest v fits =
    let h = shortest v [] fits in
    subst (IsSpelling v)
    (sym (sym (append-nil (shortest_varint v)) ∙ h.parts ∙ append-nil h.text)) h.spelled

module _ (charges : ChargesAddUp) where
  -- a record that is not charged, in front of others
  step_in_front : (m mid z : PersonValue) (n : ℕ) (p : grammar.Payload) (fs : grammar.Fields)
      (c : Charge) → PersonTakes m n p no_charge mid → Folds PersonTakes mid fs c z
      → Folds PersonTakes m (grammar.field n p fs) c z
  step_in_front m mid z n p fs c step h =
      (mid, no_charge, c, step, h, sym (charges.nothing_first c))

  id_folds : DecodesBack int32 (FitsSigned w32) → (m z : PersonValue) (v : ℤ) (rest : Records)
      (c : Charge) → m.id ≡ pos 0 → FitsSigned w32 v
      → Folds PersonTakes (with_id m v) (plain rest) c z
      → Folds PersonTakes m (plain (joined_records (int32_field 1 v) rest)) c z
  id_folds back m z (pos zero) rest c start fits h =
      subst (λ (k : PersonValue). Folds PersonTakes k (plain rest) c z)
      (ap (with_id m) (sym start)) h
  id_folds back m z (pos (suc k)) rest c start fits h =
      step_in_front m (with_id m (pos (suc k))) z 1 (grammar.varint (int32.enc (pos (suc k))))
      (plain rest) c (id (pos (suc k)) refl (sym (back (pos (suc k)) fits)) refl refl) h
  id_folds back m z (negsuc k) rest c start fits h =
      step_in_front m (with_id m (negsuc k)) z 1 (grammar.varint (int32.enc (negsuc k)))
      (plain rest) c (id (negsuc k) refl (sym (back (negsuc k) fits)) refl refl) h

  name_folds : (m z : PersonValue) (text : List ℕ) (rest : Records) (c : Charge) → m.name ≡ []
      → IsUtf8 text → Folds PersonTakes (with_name m text) (plain rest) c z
      → Folds PersonTakes m (plain (joined_records (bytes_field 2 text) rest)) c z
  name_folds m z [] rest c start utf8 h =
      subst (λ (k : PersonValue). Folds PersonTakes k (plain rest) c z)
      (ap (with_name m) (sym start)) h
  name_folds m z (b ∷ more) rest c start utf8 h =
      step_in_front m (with_name m (b ∷ more)) z 2 (grammar.bytes (b ∷ more)) (plain rest) c
      (name (b ∷ more) refl (utf8, refl) refl refl) h

  -- the numbers of a packed field, as they are read
  spelled_each : ShortestReadsBack → (vs : List ℤ) → All (FitsSigned w32) vs
      → SpellsEach IsSpelling (map int32.enc vs) (packed_int32 vs)
  spelled_each shortest [] h = refl
  spelled_each shortest (v ∷ vs) h = (
    shortest_varint (int32.enc v),
    packed_int32 vs,
    refl,
    one_spelling shortest (int32.enc v) (enc_fits v (All-head (FitsSigned w32) v vs h)),
    spelled_each shortest vs (All-tail (FitsSigned w32) v vs h),
  )

  read_each : DecodesBack int32 (FitsSigned w32) → (vs : List ℤ) → All (FitsSigned w32) vs
      → vs ≡ map int32.dec (map int32.enc vs)
  read_each back [] h = refl
  read_each back (v ∷ vs) h =
      sym (ap (λ (u : ℤ). u ∷ vs) (back v (All-head (FitsSigned w32) v vs h)))
      ∙ ap (λ (us : List ℤ). int32.dec (int32.enc v) ∷ us)
      (read_each back vs (All-tail (FitsSigned w32) v vs h))

  scores_fold : ShortestReadsBack → DecodesBack int32 (FitsSigned w32) → (m z : PersonValue)
      (vs : List ℤ) (rest : Records) (c : Charge) → m.scores ≡ [] → All (FitsSigned w32) vs
      → Folds PersonTakes (with_scores m vs) (plain rest) c z
      → Folds PersonTakes m (plain (joined_records (packed_int32_field 3 vs) rest)) c z
  scores_fold shortest back m z [] rest c start fits h =
      subst (λ (k : PersonValue). Folds PersonTakes k (plain rest) c z)
      (ap (with_scores m) (sym start)) h
  scores_fold shortest back m z (v ∷ vs) rest c start fits h =
      step_in_front m (with_scores m (v ∷ vs)) z 3 (grammar.bytes (packed_int32 (v ∷ vs)))
      (plain rest) c
      (scores (v ∷ vs) refl (record {
        numbers = map int32.enc (v ∷ vs);
        spelled = spelled_each shortest (v ∷ vs) fits;
        appended = read_each back (v ∷ vs) fits
            ∙ ap (λ (us : List ℤ). us ++ map int32.dec (map int32.enc (v ∷ vs))) (sym start);
      }) refl refl) h

unknown_fold : (m : PersonValue) (fs : grammar.Fields) → NumbersAre IsPersonOther fs
    → Folds PersonTakes m fs (charge fs) (with_others m (grammar.joined m.unknown fs))
unknown_fold m grammar.none others =
    (refl, ap (with_others m) (joined-none m.unknown))
unknown_fold m (grammar.field n p fs) others = (
  with_others m (grammar.push m.unknown n p),
  payload_charge p,
  charge fs,
  unknown others.0.0 others.0.1 others.0.2 refl refl,
  subst (λ (gs : grammar.Fields). Folds PersonTakes
      (with_others m (grammar.push m.unknown n p)) fs (charge fs) (with_others m gs))
      (push_joined m.unknown n p fs)
      (unknown_fold (with_others m (grammar.push m.unknown n p)) fs others.1),
  refl,
)

-- ---- the records behind those of a field

abbrev behind_name : PersonValue → Records
behind_name m = joined_records (packed_int32_field 3 m.scores) (of_fields m.unknown)

abbrev behind_id : PersonValue → Records
behind_id m = joined_records (bytes_field 2 m.name) (behind_name m)

-- ---- numbers and lengths in range

id_fitting : (v : ℤ) (rest : Records) → FitsSigned w32 v → AreFitting (plain rest)
    → AreFitting (plain (joined_records (int32_field 1 v) rest))
id_fitting (pos zero) rest fits h = h
id_fitting (pos (suc k)) rest fits h = (enc_fits (pos (suc k)) fits, h)
id_fitting (negsuc k) rest fits h = (enc_fits (negsuc k) fits, h)

id_numbered : (v : ℤ) (rest : Records) → AreNumbered (plain rest)
    → AreNumbered (plain (joined_records (int32_field 1 v) rest))
id_numbered (pos zero) rest h = h
id_numbered (pos (suc k)) rest h = ((omega arith, omega arith), tt, h)
id_numbered (negsuc k) rest h = ((omega arith, omega arith), tt, h)

name_fitting : (text : List ℕ) (rest : Records) → length text < 2 ^ 64 → AreFitting (plain rest)
    → AreFitting (plain (joined_records (bytes_field 2 text) rest))
name_fitting [] rest fits h = h
name_fitting (b ∷ more) rest fits h = (fits, h)

name_numbered : (text : List ℕ) (rest : Records) → AreNumbered (plain rest)
    → AreNumbered (plain (joined_records (bytes_field 2 text) rest))
name_numbered [] rest h = h
name_numbered (b ∷ more) rest h = ((omega arith, omega arith), tt, h)

scores_fitting : (vs : List ℤ) (rest : Records) → length (packed_int32 vs) < 2 ^ 64
    → AreFitting (plain rest) → AreFitting (plain (joined_records (packed_int32_field 3 vs) rest))
scores_fitting [] rest fits h = h
scores_fitting (v ∷ vs) rest fits h = (fits, h)

scores_numbered : (vs : List ℤ) (rest : Records) → AreNumbered (plain rest)
    → AreNumbered (plain (joined_records (packed_int32_field 3 vs) rest))
scores_numbered [] rest h = h
scores_numbered (v ∷ vs) rest h = ((omega arith, omega arith), tt, h)

pub person_fitting : JoinedTextsAndSizes → FieldsArePlain → (m : PersonValue) → IsPerson m
    → text_size (person_records m) ≤ 2147483647 → AreFitting (plain (person_records m))
person_fitting joins same m h small =
    id_fitting m.id
    (behind_id m)
    h.id
    (name_fitting m.name (behind_name m)
    (name_fits joins same m small)
    (scores_fitting m.scores (of_fields m.unknown) (scores_fit joins same m small)
    (subst AreFitting (sym (same.plain m.unknown)) h.unknown.fitting)))

pub person_numbered : FieldsArePlain → (m : PersonValue) → IsPerson m
    → AreNumbered (plain (person_records m))
person_numbered same m h =
    id_numbered m.id
    (behind_id m)
    (name_numbered m.name (behind_name m)
    (scores_numbered m.scores (of_fields m.unknown)
    (subst AreNumbered (sym (same.plain m.unknown)) h.unknown.numbered)))

-- ---- all of it

module _ (charges : ChargesAddUp) (shortest : ShortestReadsBack)
    (back : DecodesBack int32 (FitsSigned w32)) (same : FieldsArePlain) where
  pub person_folds : (m : PersonValue) → IsPerson m
      → Folds PersonTakes default_person (plain (person_records m)) (charge m.unknown) m
  person_folds m h =
      let with_scores_of = with_scores (with_name (with_id default_person m.id) m.name) m.scores in
      id_folds charges back default_person m m.id
      (behind_id m)
      (charge m.unknown) refl h.id
      (name_folds charges (with_id default_person m.id) m m.name
      (behind_name m) (charge m.unknown) refl h.name
      (scores_fold charges shortest back (with_name (with_id default_person m.id) m.name) m
      m.scores (of_fields m.unknown) (charge m.unknown) refl h.scores
      (subst (λ (fs : grammar.Fields). Folds PersonTakes with_scores_of fs (charge m.unknown) m)
      (sym (same.plain m.unknown)) (unknown_fold with_scores_of m.unknown h.unknown.others))))
