-- Records of repeated numbers: what they take, and why they take nothing.
use Rattle.std.proofs.Common.{◌≡◌, ◌≢◌, ℕ, inl, inr, List, [], ◌∷◌, ◌++◌, take, drop, refl, sym, ap, ◌∙◌, subst}
use Rattle.std.specs.Prelude.{None, Result, Ok, Err, OnOk}
use Rattle.wire_codec.specs.DecodeError.{DecodeError}
use Rattle.wire_codec.specs.Delimited.{IsDelimited, DelimitedFault}
use Rattle.wire_codec.specs.Field.{Payload, bytes, type_of}
use Rattle.wire_codec.specs.Limits.{Limits, no_charge}
use Rattle.wire_codec.specs.LimitsLaws.{LimitsAddUp}
use Rattle.wire_codec.specs.Packed.{Appends}
use Rattle.wire_codec.specs.Read.{Reads}
use Rattle.wire_codec.specs.Taking.{TakesRecord, IsCharged, NotTaken}
use Rattle.wire_codec.specs.ValueMap.{ValueMap}
use Rattle.wire_codec.specs.VarintLaws.{OneDelimited, NoDelimitedBesideFault}
use Rattle.wire_codec.specs.WireType.{WireType}
use Rattle.wire_codec.specs.WireType.TheVariants as types
use Rattle.wire_fields.specs.declared.form.Form.{Form}
use Rattle.wire_fields.specs.declared.form.Form.TheVariants.{Varint, Fixed64, Fixed32}
use Rattle.wire_fields.specs.Numbers.{number_payload, ReadsNumber, NoNumber}
use Rattle.wire_fields.specs.Packed.{IsNumberText, adds_numbers}
use Rattle.wire_fields.proofs.Reading.{back_to_bytes}

-- the same form by another name
pub read_in : {n x : ℕ} {w : WireType} {old new : List ℕ} {f k : Form} → f ≡ k
    → ReadsNumber f n w x old new → ReadsNumber k n w x old new
read_in {n} {x} {w} {old} {new} is h = subst (λ j. ReadsNumber j n w x old new) is h

pub none_in : {n : ℕ} {w : WireType} {old : List ℕ} {f k : Form} → f ≡ k → NoNumber f n w old
    → NoNumber k n w old
none_in {n} {w} {old} is h = subst (λ j. NoNumber j n w old) is h

-- a number is not length-delimited
not_delimited : (form : Form) (p : Payload) (x : ℕ) → p ≡ number_payload form x
    → type_of p ≡ types.LengthDelimited → ⊥
not_delimited Varint p x is kind = let e = sym (ap type_of is) ∙ kind in absurd cc
not_delimited Fixed64 p x is kind = let e = sym (ap type_of is) ∙ kind in absurd cc
not_delimited Fixed32 p x is kind = let e = sym (ap type_of is) ∙ kind in absurd cc

module _ {T : Type 0} (form : Form) (values : ValueMap T) (l : Limits) (n : ℕ) (w : WireType)
    (m : List T) (old : List ℕ) where
  pub payload_taken : LimitsAddUp → (z : List T) (len : ℕ) (mid new : List ℕ)
      → w ≡ types.LengthDelimited → Reads old (IsDelimited (take len mid)) (drop len mid)
      → Appends (IsNumberText form) values (take len mid) m z → new ≡ drop len mid
      → IsCharged l l (λ c. TakesRecord (adds_numbers form values) l n w m old c z new)
  payload_taken limits z len mid new is h appends rest =
      let read = subst (λ t. Reads old (IsDelimited (take len mid)) t) (sym rest) h in
      record {
        charge = no_charge;
        taken = record {
          payload = bytes (take len mid);
          read = record {
            read = record {
              text = read.text;
              parts = read.parts;
              spelled = record { kind = sym is; spelled = read.spelled };
            };
            fits = limits.nothing_fits l;
          };
          step = (refl, inr (record { payload = take len mid; is = refl; appends = appends }));
        };
        left = sym (limits.left_after_nothing l);
      }

  pub number_taken : LimitsAddUp → (x : ℕ) (v : T) (z : List T) (new : List ℕ)
      → ReadsNumber form n w x old new → v ≡ values.dec x → z ≡ m ++ v ∷ []
      → IsCharged l l (λ c. TakesRecord (adds_numbers form values) l n w m old c z new)
  number_taken limits x v z new h is pushed = record {
    charge = no_charge;
    taken = record {
      payload = h.payload;
      read = record { read = h.read; fits = limits.nothing_fits l };
      step = (
        refl,
        inl (record {
          value = v;
          sets = record { number = x; has = h.has; is = is };
          is = pushed;
        }),
      );
    };
    left = sym (limits.left_after_nothing l);
  }

  -- where a payload is to stand
  pub no_delimited : NoDelimitedBesideFault → (e : DecodeError) → w ≡ types.LengthDelimited
      → DelimitedFault None old e → NotTaken (TakesRecord (adds_numbers form values) l n w m old)
  no_delimited beside e is fault c z new h = elim h.step.1 [
    | inl k ↦ not_delimited form h.payload k.sets.number k.sets.has (h.read.read.spelled.kind ∙ is)
    | inr k ↦ beside None k.payload old new e
        (back_to_bytes n w h.payload k.payload old new k.is h.read.read) tt fault
  ]

  pub no_payload : OneDelimited → (payload rest : List ℕ) → w ≡ types.LengthDelimited
      → Reads old (IsDelimited payload) rest
      → ((after : List T) → Appends (IsNumberText form) values payload m after → ⊥)
      → NotTaken (TakesRecord (adds_numbers form values) l n w m old)
  no_payload one payload rest is read absent c z new h = elim h.step.1 [
    | inl k ↦ not_delimited form h.payload k.sets.number k.sets.has (h.read.read.spelled.kind ∙ is)
    | inr k ↦ absent z (subst (λ t. Appends (IsNumberText form) values t m z)
        (one k.payload payload old new rest
        (back_to_bytes n w h.payload k.payload old new k.is h.read.read) read).0 k.appends)
  ]

  -- where a number is to stand
  pub no_number : w ≢ types.LengthDelimited → NoNumber form n w old
      → NotTaken (TakesRecord (adds_numbers form values) l n w m old)
  no_number other absent c z new h = elim h.step.1 [
    | inl k ↦ absent k.sets.number new
        (record { payload = h.payload; has = k.sets.has; read = h.read.read })
    | inr k ↦ other (sym h.read.read.spelled.kind ∙ ap type_of k.is)
  ]

-- two facts of one success
pub on_ok_two : {T E P Q R : Type 0} (r : Result T E) → (P → Q → R) → OnOk r P → OnOk r Q
    → OnOk r R
on_ok_two (Ok x) f p q = f p q
on_ok_two (Err e) f p q = tt
