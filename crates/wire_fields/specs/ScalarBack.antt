-- Fields of scalar types are read back.
use Rattle.std.proofs.Common.{◌≡◌, ℕ, ◌^◌, ◌<◌, Bool, true, false, refl, sym, ap, ◌∙◌, subst, arith, List, [], ◌∷◌, ◌++◌, length, append_assoc}
use Rattle.std.proofs.lemmas.Bool.{eqb-true}
use Rattle.std.proofs.lemmas.List.{append-nil}
use Rattle.std.specs.Int.{w32, w64}
use Rattle.std.specs.Prelude.{ℤ, pos, negsuc, FitsSigned, Option, Some, None, ◌==◌}
use Rattle.wire_codec.specs.Field.{none, field, joined}
use Rattle.wire_codec.specs.FieldNumber.{IsFieldNumber}
use Rattle.wire_codec.specs.Folds.{Step, Folds}
use Rattle.wire_codec.specs.InRange.{IsPayloadFitting, IsPayloadNumbered}
use Rattle.wire_codec.specs.Laws.{FieldsArePlain}
use Rattle.wire_codec.specs.Limits.{Charge, both, no_charge, element_of}
use Rattle.wire_codec.specs.LimitsLaws.{ChargesAddUp}
use Rattle.wire_codec.specs.Records.{plain}
use Rattle.wire_codec.specs.ScalarLaws.{DecodesBack}
use Rattle.wire_codec.specs.ValueMap.{ValueMap, wrapped}
use Rattle.wire_fields.specs.declared.form.Form.{Form}
use Rattle.wire_fields.specs.declared.form.Form.TheVariants.{Varint, Fixed64, Fixed32}
use Rattle.wire_fields.specs.Back.{AllAre, FoldsBack, KindBack, plain_joined}
use Rattle.wire_fields.specs.Numbers.{number_payload, numeric}
use Rattle.wire_fields.specs.Presence.{implicit, optional, always, repeated, unless, sets, sets_some}
use Rattle.wire_fields.specs.Presence.{adds, each_record}
use Rattle.wire_fields.specs.Scalar.{ScalarType, scalar_record}
use Rattle.wire_fields.specs.Texts.{length_delimited}

-- the payload of a value that is held is in range and sets that value, and a value that is left out
-- is the default
pub record ScalarBack {V : Type 0} (t : ScalarType V) (Holds : V → Type 0) : Type 0 where
  pub fitting : (v : V) → Holds v → IsPayloadFitting (t.payload v)
  pub numbered : (v : V) → Holds v → IsPayloadNumbered (t.payload v)
  pub sets : (v : V) → Holds v → t.Sets (t.payload v) v
  pub left_out : (v : V) → Holds v → t.is_default v ≡ true → v ≡ t.default

-- ---- numbers

payload_numbered : (form : Form) (x : ℕ) → IsPayloadNumbered (number_payload form x)
payload_numbered Varint x = tt
payload_numbered Fixed64 x = tt
payload_numbered Fixed32 x = tt

pub number_back : {T : Type 0} (form : Form) (map : ValueMap T) (InRange : T → Type 0)
    → DecodesBack map InRange
    → ((v : T) → InRange v → IsPayloadFitting (number_payload form (map.enc v)))
    → ScalarBack (numeric form map) InRange
number_back form map InRange back fits = record {
  fitting = fits;
  numbered = λ v h. payload_numbered form (map.enc v);
  sets = λ v h. record { number = map.enc v; has = refl; is = sym (back v h) };
  left_out = λ v h zero. sym (back v h) ∙ ap map.dec (eqb-true (map.enc v) 0 zero);
}

-- what is written for a number of 64 bits, or of 32
pub wrapped_fits : (v : ℤ) → FitsSigned w64 v → wrapped 64 v < 2 ^ 64
wrapped_fits (pos n) h = omega (arith, h)
wrapped_fits (negsuc n) h = omega arith

pub narrow_fits : (v : ℤ) → FitsSigned w32 v → wrapped 64 v < 2 ^ 64
narrow_fits (pos n) h = omega (arith, h)
narrow_fits (negsuc n) h = omega arith

-- ---- strings and bytes

-- no longer than a length of 64 bits says
pub record Lengthy (IsText : List ℕ → Type 0) (b : List ℕ) : Type 0 where
  pub text : IsText b
  pub short : length b < 2 ^ 64

empty_is : (b : List ℕ) → (length b == 0) ≡ true → b ≡ []
empty_is [] h = refl
empty_is (x ∷ b) h = absurd (omega (arith, eqb-true (length (x ∷ b)) 0 h))

pub bytes_back : (IsText : List ℕ → Type 0) → ScalarBack (length_delimited IsText) (Lengthy IsText)
bytes_back IsText = record {
  fitting = λ b h. h.short;
  numbered = λ b h. tt;
  sets = λ b h. record { has = refl; holds = h.text };
  left_out = λ b h zero. empty_is b zero;
}

-- ---- presence

-- this holds of the value that is there, where there is one
abbrev pub IfThere : {V : Type 0} → (V → Type 0) → Option V → Type 0
IfThere Holds None = Unit {0}
IfThere Holds (Some v) = Holds v

module _ {V : Type 0} (same : FieldsArePlain) (charges : ChargesAddUp) (t : ScalarType V)
    (Holds : V → Type 0) (h : ScalarBack t Holds) where
  -- one record that is not charged
  pub one_back : {U : Type 0} (takes : Step U) (start m : U) (n : ℕ) (v : V) → IsFieldNumber n → Holds v
      → takes start n (t.payload v) no_charge m
      → FoldsBack takes start (plain (scalar_record t n v)) no_charge m
  one_back takes start m n v is holds step =
      subst (λ fs. FoldsBack takes start fs no_charge m)
      (sym (same.plain (field n (t.payload v) none)))
      (record {
        fitting = (h.fitting v holds, tt);
        numbered = (is, h.numbered v holds, tt);
        folded = (
          m,
          no_charge,
          no_charge,
          step,
          (refl, refl),
          sym (charges.nothing_first no_charge),
        );
      })

  one_has : (n : ℕ) (v : V) → AllAre (λ j. j ≡ n) (plain (scalar_record t n v))
  one_has n v = subst (AllAre (λ j. j ≡ n)) (sym (same.plain (field n (t.payload v) none))) (refl, tt)

  unless_back : (b : Bool) (n : ℕ) (v : V) → IsFieldNumber n → Holds v
      → (b ≡ true → v ≡ t.default)
      → FoldsBack (sets t) t.default (plain (unless b (scalar_record t n v))) no_charge v
  unless_back true n v is holds default =
      record { fitting = tt; numbered = tt; folded = (refl, default refl) }
  unless_back false n v is holds default =
      one_back (sets t) t.default v n v is holds (refl, h.sets v holds)

  unless_has : (b : Bool) (n : ℕ) (v : V)
      → AllAre (λ j. j ≡ n) (plain (unless b (scalar_record t n v)))
  unless_has true n v = tt
  unless_has false n v = one_has n v

  pub implicit_back : KindBack (implicit t).kind Holds (λ v. no_charge)
  implicit_back = record {
    back = λ n is v holds. unless_back (t.is_default v) n v is holds (h.left_out v holds);
    has = λ n v holds. unless_has (t.is_default v) n v;
  }

  pub always_back : KindBack (always t).kind Holds (λ v. no_charge)
  always_back = record {
    back = λ n is v holds. one_back (sets t) t.default v n v is holds (refl, h.sets v holds);
    has = λ n v holds. one_has n v;
  }

  option_back : (n : ℕ) → IsFieldNumber n → (o : Option V) → IfThere Holds o
      → FoldsBack (sets_some t) None (plain ((optional t).kind.records n o)) no_charge o
  option_back n is None holds = record { fitting = tt; numbered = tt; folded = (refl, refl) }
  option_back n is (Some v) holds =
      one_back (sets_some t) None (Some v) n v is holds (refl, v, h.sets v holds, refl)

  option_has : (n : ℕ) (o : Option V) → AllAre (λ j. j ≡ n) (plain ((optional t).kind.records n o))
  option_has n None = tt
  option_has n (Some v) = one_has n v

  pub optional_back : KindBack (optional t).kind (IfThere Holds) (λ o. no_charge)
  optional_back = record { back = option_back; has = λ n o holds. option_has n o }

-- ---- many values

-- this holds of each
abbrev pub AllHold : {V : Type 0} → (V → Type 0) → List V → Type 0
AllHold Holds [] = Unit {0}
AllHold Holds (v ∷ vs) = Holds v × AllHold Holds vs

-- so many bytes for each
abbrev pub places : {V : Type 0} → ℕ → List V → Charge
places place [] = no_charge
places place (v ∷ vs) = both (element_of place) (places place vs)

module _ {V : Type 0} (same : FieldsArePlain) (t : ScalarType V) (Holds : V → Type 0)
    (h : ScalarBack t Holds) where
  -- a record for each value, where a step takes each for this charge
  pub each_folds : (takes : Step (List V)) (charge_of : List V → Charge) (one : Charge) (n : ℕ)
      → IsFieldNumber n → charge_of [] ≡ no_charge
      → ((v : V) (vs : List V) → charge_of (v ∷ vs) ≡ both one (charge_of vs))
      → ((before : List V) (v : V) → Holds v → takes before n (t.payload v) one (before ++ v ∷ []))
      → (before vs : List V) → AllHold Holds vs
      → FoldsBack takes before (plain (each_record t n vs)) (charge_of vs) (before ++ vs)
  each_folds takes charge_of one n is nothing more step before [] holds =
      record { fitting = tt; numbered = tt; folded = (nothing, append-nil before) }
  each_folds takes charge_of one n is nothing more step before (v ∷ vs) holds =
      let rest = each_folds takes charge_of one n is nothing more step (before ++ v ∷ []) vs holds.1
      in
      subst (λ fs. FoldsBack takes before fs (charge_of (v ∷ vs)) (before ++ v ∷ vs))
      (sym (plain_joined (scalar_record t n v) (each_record t n vs)
      ∙ ap (λ fs. joined fs (plain (each_record t n vs))) (same.plain (field n (t.payload v) none))))
      (record {
        fitting = (h.fitting v holds.0, rest.fitting);
        numbered = (is, h.numbered v holds.0, rest.numbered);
        folded = (
          before ++ v ∷ [],
          one,
          charge_of vs,
          step before v holds.0,
          subst (λ z. Folds takes (before ++ v ∷ []) (plain (each_record t n vs)) (charge_of vs) z)
              (append_assoc before (v ∷ []) vs) rest.folded,
          more v vs,
        );
      })

  pub each_has : (n : ℕ) (vs : List V) → AllAre (λ j. j ≡ n) (plain (each_record t n vs))
  each_has n [] = tt
  each_has n (v ∷ vs) =
      subst (AllAre (λ j. j ≡ n)) (sym (plain_joined (scalar_record t n v) (each_record t n vs)
      ∙ ap (λ fs. joined fs (plain (each_record t n vs))) (same.plain (field n (t.payload v) none))))
      (refl, each_has n vs)

  pub repeated_back : (place : ℕ)
      → KindBack (repeated place t).kind (AllHold Holds) (places place)
  repeated_back place = record {
    back = λ n is vs holds. each_folds (adds place t) (places place) (element_of place) n is refl
        (λ v vs. refl) (λ before v k. (refl, v, h.sets v k, refl)) [] vs holds;
    has = λ n vs holds. each_has n vs;
  }
