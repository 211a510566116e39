-- Walks over lists of numbers: what the next record and the next number do to where they lead.
use Rattle.std.proofs.Common.{◌≡◌, ◌≢◌, inl, inr, ℕ, ◌<◌, List, [], ◌∷◌, ◌++◌, length}
use Rattle.std.proofs.Common.{refl, sym, ap, ◌∙◌, subst, ◌≤◌, arith, length-append}
use Rattle.std.specs.Prelude.{None}
use Rattle.wire_codec.specs.DecodeError.{DecodeError}
use Rattle.wire_codec.specs.Delimited.{IsDelimited, DelimitedFault}
use Rattle.wire_codec.specs.Fault.{PayloadFault}
use Rattle.wire_codec.specs.FaultLaws.{NoPayloadBesideFault}
use Rattle.wire_codec.specs.Field.{Payload, bytes}
use Rattle.wire_codec.specs.Folds.{Step}
use Rattle.wire_codec.specs.Limits.{Charge, uncounted}
use Rattle.wire_codec.specs.Packed.{Appends}
use Rattle.wire_codec.specs.Read.{Reads}
use Rattle.wire_codec.specs.Tag.{IsTagSpelling, TagFault}
use Rattle.wire_codec.specs.Taken.{TakesPayload}
use Rattle.wire_codec.specs.TakingLaws.{RecordsInOrder}
use Rattle.wire_codec.specs.Charge.{payload_charge}
use Rattle.wire_codec.specs.ValueMap.{ValueMap}
use Rattle.wire_codec.specs.VarintLaws.{NoDelimitedBesideFault}
use Rattle.wire_codec.specs.WireType.{WireType}
use Rattle.wire_codec.specs.WireType.TheVariants as types
use Rattle.wire_fields.proofs.PackedRecords.{no_delimited, no_number as no_single}
use Rattle.wire_fields.specs.Numbers.{number_payload, numeric, NoNumber, ReadsNumber}
use Rattle.wire_fields.specs.Packed.{IsNumberText, OneText, no_number}
use Rattle.wire_fields.specs.Packed.{adds_numbers}
use Rattle.wire_fields.specs.declared.form.Form.{Form}
use Rattle.wire_structs.proofs.FirstRecords.{first_record, no_payload_fault, no_tag_fault}
use Rattle.wire_structs.proofs.FirstRecords.{nothing_more, record_taken}
use Rattle.wire_structs.proofs.PackedFronts.{front_appended, no_front, none_appended}
use Rattle.wire_structs.proofs.PackedFronts.{nothing_appended}
use Rattle.wire_structs.specs.NumberWalks.{EndsNumbers, GivesNumber, LeadsNowhere}
use Rattle.wire_structs.specs.NumberWalks.{LeadsOn, NumbersOf}
use Rattle.wire_structs.specs.Walks.{Makes}
use Rattle.wire_structs.specs.declared.numbers_walk.NumbersWalk.{NumbersWalk}

same_payload : (p : Payload) (a b : List ℕ) → p ≡ bytes a → p ≡ bytes b → a ≡ b
same_payload p a b h k = cc

-- ---- what a record adds

module _ {T : Type 0} (form : Form) (values : ValueMap T) (m z : List T) (n : ℕ) (p : Payload)
    (c : Charge) (adds : adds_numbers form values m n p c z) where
  pub number_added : (x : ℕ) → p ≡ number_payload form x → z ≡ m ++ values.dec x ∷ []
  number_added x is = elim adds.1 [
    | inl k ↦ k.is ∙ ap (λ (v : T). m ++ v ∷ [])
        ((numeric form values).one p k.value (values.dec x) k.sets
        (record { number = x; has = is; is = refl }))
    | inr k ↦ absurd (no_number form p x k.payload is k.is)
  ]

  pub payload_added : (payload : List ℕ) → p ≡ bytes payload
      → Appends (IsNumberText form) values payload m z
  payload_added payload is = elim adds.1 [
    | inl k ↦ absurd (no_number form p k.sets.number payload k.sets.has is)
    | inr k ↦ subst (λ t. Appends (IsNumberText form) values t m z)
        (same_payload p k.payload payload k.is is) k.appends
  ]

-- the bytes behind a number are no more than those before it
pub number_behind : (form : Form) (n : ℕ) (w : WireType) (x : ℕ) (old new : List ℕ)
    → ReadsNumber form n w x old new → length new ≤ length old
number_behind form n w x old new h =
    omega (arith, ap length h.read.parts, length-append h.read.text new)

-- ---- the next record

module _ (order : RecordsInOrder) {V T : Type 0} (takes : Step V) (list : V → List T) (k : ℕ)
    (form : Form) (values : ValueMap T) (h : NumbersOf takes list k form values)
    (old : NumbersWalk) (goes : 0 < length old.bytes.now) where
  pub no_tag_next : (e : DecodeError) → TagFault old.bytes.now e
      → LeadsNowhere takes list form values old
  no_tag_next e fault given z leads =
      no_tag_fault order takes leads.value z old.bytes.now leads.bytes goes e fault

  module _ (n : ℕ) (w : WireType) (behind : List ℕ)
      (tag : Reads old.bytes.now (IsTagSpelling n w) behind) where
    pub passed_next : n ≢ k → (new : NumbersWalk) → new.payload.now ≡ old.payload.now
        → (p : Payload) × TakesPayload (payload_charge p) (uncounted 100) n w p behind
        new.bytes.now → LeadsOn takes list form values old new
    passed_next other new same (p, read) given z leads =
        let (mid, c, step, made) =
        record_taken order takes leads.value z old.bytes.now leads.bytes goes n w behind tag p
        new.bytes.now read.read in
        record {
          value = mid;
          payload = subst (λ t. Appends (IsNumberText form) values t given (list mid)) (sym same)
              (subst (λ x. Appends (IsNumberText form) values old.payload.now given x)
              (sym (h.others leads.value mid n p c other step)) leads.payload);
          bytes = made;
        }

    pub not_passed_next : NoPayloadBesideFault → (e : DecodeError)
        → PayloadFault (uncounted 100) n w behind e → LeadsNowhere takes list form values old
    not_passed_next beside e fault given z leads =
        no_payload_fault order takes leads.value z old.bytes.now leads.bytes goes n w behind tag
        beside (λ c mid p step. h.levels leads.value mid n p c step) e fault

    module _ (is : n ≡ k) (none_open : length old.payload.now ≡ 0) where
      own : (m z : V) (p : Payload) (c : Charge) → takes m n p c z
          → adds_numbers form values (list m) k p c (list z)
      own m z p c step = h.own m z p c (subst (λ x. takes m x p c z) is step)

      pub opened_next : w ≡ types.LengthDelimited → (new : NumbersWalk)
          → Reads behind (IsDelimited new.payload.now) new.bytes.now
          → LeadsOn takes list form values old new
      opened_next kind new read given z leads =
          let (mid, c, step, made) =
          record_taken order takes leads.value z old.bytes.now leads.bytes goes n w behind tag
          (bytes new.payload.now) new.bytes.now (record {
            text = read.text;
            parts = read.parts;
            spelled = record { kind = sym kind; spelled = read.spelled };
          }) in
          record {
            value = mid;
            payload = subst (λ x. Appends (IsNumberText form) values new.payload.now x (list mid))
                (none_appended form values old.payload.now none_open given (list leads.value)
                leads.payload)
                (payload_added form values (list leads.value) (list mid) k
                (bytes new.payload.now) c (own leads.value mid (bytes new.payload.now) c step)
                new.payload.now refl);
            bytes = made;
          }

      pub given_next : (new : NumbersWalk) → new.payload.now ≡ old.payload.now → (x : ℕ) (v : T)
          → v ≡ values.dec x → ReadsNumber form n w x behind new.bytes.now
          → GivesNumber takes list form values old new v
      given_next new same x v value read given z leads =
          let (mid, c, step, made) =
          record_taken order takes leads.value z old.bytes.now leads.bytes goes n w behind tag
          read.payload new.bytes.now read.read in
          let before = none_appended form values old.payload.now none_open given
          (list leads.value) leads.payload in
          record {
            value = mid;
            payload = nothing_appended form values new.payload.now (ap length same ∙ none_open)
                (given ++ v ∷ []) (list mid)
                (number_added form values (list leads.value) (list mid) k read.payload c
                (own leads.value mid read.payload c step) x read.has
                ∙ ap (λ (y : T). list leads.value ++ y ∷ []) (sym value)
                ∙ ap (λ (ys : List T). ys ++ v ∷ []) before);
            bytes = made;
          }

      pub no_payload_next : NoDelimitedBesideFault → (e : DecodeError)
          → w ≡ types.LengthDelimited → DelimitedFault None behind e
          → LeadsNowhere takes list form values old
      no_payload_next beside e kind fault given z leads =
          let b = first_record order takes leads.value z old.bytes.now leads.bytes goes n w behind
          tag in
          no_delimited form values leads.bytes.0 n w (list leads.value) behind beside e kind fault
          b.first (list b.mid) b.next
          (record {
            payload = b.taken.payload;
            read = b.taken.read;
            step = own leads.value b.mid b.taken.payload b.first b.taken.step;
          })

      pub no_number_next : w ≢ types.LengthDelimited → NoNumber form n w behind
          → LeadsNowhere takes list form values old
      no_number_next other absent given z leads =
          let b = first_record order takes leads.value z old.bytes.now leads.bytes goes n w behind
          tag in
          no_single form values leads.bytes.0 n w (list leads.value) behind other absent
          b.first (list b.mid) b.next
          (record {
            payload = b.taken.payload;
            read = b.taken.read;
            step = own leads.value b.mid b.taken.payload b.first b.taken.step;
          })

-- ---- the next number

module _ {V T : Type 0} (takes : Step V) (list : V → List T) (form : Form) (values : ValueMap T)
    (old now : NumbersWalk) (on : LeadsOn takes list form values old now) where
  pub led_on : (new : NumbersWalk) → LeadsOn takes list form values now new
      → LeadsOn takes list form values old new
  led_on new next given z leads = next given z (on given z leads)

  pub given_later : (new : NumbersWalk) (v : T) → GivesNumber takes list form values now new v
      → GivesNumber takes list form values old new v
  given_later new v next given z leads = next given z (on given z leads)

  pub nowhere_later : LeadsNowhere takes list form values now
      → LeadsNowhere takes list form values old
  nowhere_later none given z leads = none given z (on given z leads)

  -- nothing is left
  pub numbers_end : RecordsInOrder → length now.payload.now ≡ 0 → length now.bytes.now ≡ 0
      → EndsNumbers takes list form values old
  numbers_end order none_open over given z leads =
      let here = on given z leads in
      ap list (nothing_more order takes here.value z now.bytes.now here.bytes over)
      ∙ none_appended form values now.payload.now none_open given (list here.value) here.payload

  -- the first number of the payload that stands open
  pub payload_gives : OneText form → (new : NumbersWalk) → new.bytes.now ≡ now.bytes.now
      → (x : ℕ) (v : T) → v ≡ values.dec x
      → Reads now.payload.now (IsNumberText form x) new.payload.now
      → GivesNumber takes list form values old new v
  payload_gives one new same x v value read given z leads =
      let here = on given z leads in
      record {
        value = here.value;
        payload = subst (λ y. Appends (IsNumberText form) values new.payload.now
            (given ++ y ∷ []) (list here.value)) (sym value)
            (front_appended form values one now.payload.now new.payload.now x given
            (list here.value) read here.payload);
        bytes = subst (λ b. Makes takes b here.value z) (sym same) here.bytes;
      }

  pub payload_broken : 0 < length now.payload.now
      → ((x : ℕ) (rest : List ℕ) → Reads now.payload.now (IsNumberText form x) rest → ⊥)
      → LeadsNowhere takes list form values old
  payload_broken some absent given z leads =
      let here = on given z leads in
      no_front form values now.payload.now some absent given (list here.value) here.payload
