-- Numbers, strings and bytes behind their tags.
use Rattle.std.proofs.Common.{◌≡◌, ◌≢◌, inl, inr, ℕ, List, refl, sym, subst}
use Rattle.std.specs.Int.{w32, w64}
use Rattle.std.specs.Prelude.{None, IsUtf8, Result, Ok, Err, OnErr, IfErr}
use Rattle.wire_codec.specs.BytesPayload.{BytesRefusal}
use Rattle.wire_codec.specs.DecodeError.{DecodeError}
use Rattle.wire_codec.specs.DecodeError.TheVariants.{OutOfMemory}
use Rattle.wire_codec.specs.Delimited.{IsDelimited, DelimitedFault}
use Rattle.wire_codec.specs.Field.{Payload, varint, fixed64, fixed32, bytes}
use Rattle.wire_codec.specs.Fixed.{IsFixed}
use Rattle.wire_codec.specs.Read.{Reads}
use Rattle.wire_codec.specs.Reading.{ReadsValue}
use Rattle.wire_codec.specs.Spells.{IsPayload}
use Rattle.wire_codec.specs.StringPayload.{no_payload, not_utf8, StringRefusal}
use Rattle.wire_codec.specs.ValueMap.{fixed32 as fixed32_map, fixed64 as fixed64_map}
use Rattle.wire_codec.specs.Varint.{IsSpelling, VarintFault}
use Rattle.wire_codec.specs.VarintLaws.{NoVarintBesideFault, OneDelimited, NoDelimitedBesideFault}
use Rattle.wire_codec.specs.WireType.{WireType}
use Rattle.wire_codec.specs.WireType.TheVariants as types
use Rattle.wire_fields.specs.declared.form.Form.{Form}
use Rattle.wire_fields.specs.declared.form.Form.TheVariants as forms
use Rattle.wire_fields.specs.Numbers.{number_payload, ReadsNumber, NoNumber}
use Rattle.wire_fields.specs.Scalar.{NoScalar}
use Rattle.wire_fields.specs.Texts.{length_delimited}

-- ---- numbers

pub varint_number : (n : ℕ) (w : WireType) (form : Form) (x : ℕ) (old new : List ℕ)
    → form ≡ forms.Varint → w ≡ types.Varint → Reads old (IsSpelling x) new
    → ReadsNumber form n w x old new
varint_number n w form x old new form_is is h = rw form_is (record {
  payload = varint x;
  has = refl;
  read = record {
    text = h.text;
    parts = h.parts;
    spelled = record { kind = sym is; spelled = h.spelled };
  };
})

pub fixed64_number : (n : ℕ) (w : WireType) (form : Form) (x : ℕ) (old new : List ℕ)
    → form ≡ forms.Fixed64 → w ≡ types.Fixed64 → ReadsValue (IsFixed w64) fixed64_map old x new
    → ReadsNumber form n w x old new
fixed64_number n w form x old new form_is is h = rw (form_is, h.is) (record {
  payload = fixed64 h.number;
  has = refl;
  read = record {
    text = h.read.text;
    parts = h.read.parts;
    spelled = record { kind = sym is; spelled = h.read.spelled };
  };
})

pub fixed32_number : (n : ℕ) (w : WireType) (form : Form) (x : ℕ) (old new : List ℕ)
    → form ≡ forms.Fixed32 → w ≡ types.Fixed32 → ReadsValue (IsFixed w32) fixed32_map old x new
    → ReadsNumber form n w x old new
fixed32_number n w form x old new form_is is h = rw (form_is, h.is) (record {
  payload = fixed32 h.number;
  has = refl;
  read = record {
    text = h.read.text;
    parts = h.read.parts;
    spelled = record { kind = sym is; spelled = h.read.spelled };
  };
})

back_to_varint : (n : ℕ) (w : WireType) (p : Payload) (x : ℕ) (old new : List ℕ) → p ≡ varint x
    → Reads old (IsPayload n w p) new → Reads old (IsSpelling x) new
back_to_varint n w p x old new is h =
    let k = subst (λ q. Reads old (IsPayload n w q) new) is h in
    record { text = k.text; parts = k.parts; spelled = k.spelled.spelled }

pub no_varint_number : NoVarintBesideFault → (n : ℕ) (w : WireType) (form : Form) (old : List ℕ)
    (e : DecodeError) → form ≡ forms.Varint → VarintFault old e → NoNumber form n w old
no_varint_number beside n w form old e form_is fault x new h =
    beside old new x e (back_to_varint n w h.payload x old new
    (subst (λ f. h.payload ≡ number_payload f x) form_is h.has) h.read) fault

-- what an error says
pub on_err_from : {T E Q : Type 0} {P : E → Type 0} (r : Result T E) → ((e : E) → P e → Q) → IfErr r P
    → OnErr r Q
on_err_from (Ok x) f h = tt
on_err_from (Err e) f h = f e h

-- ---- strings and bytes

pub back_to_bytes : (n : ℕ) (w : WireType) (p : Payload) (b : List ℕ) (old new : List ℕ) → p ≡ bytes b
    → Reads old (IsPayload n w p) new → Reads old (IsDelimited b) new
back_to_bytes n w p b old new is h =
    let k = subst (λ q. Reads old (IsPayload n w q) new) is h in
    record { text = k.text; parts = k.parts; spelled = k.spelled.spelled }

module _ (one : OneDelimited) (beside : NoDelimitedBesideFault) (n : ℕ) (w : WireType)
    (old : List ℕ) where
  no_payload_bytes : (IsText : List ℕ → Type 0) (e : DecodeError) → DelimitedFault None old e
      → NoScalar (length_delimited IsText) n w old
  no_payload_bytes IsText e fault v new h =
      beside None v old new e (back_to_bytes n w h.payload v old new h.sets.has h.read) tt fault

  pub no_text : (e : DecodeError) → StringRefusal old e → e ≢ OutOfMemory
      → NoScalar (length_delimited IsUtf8) n w old
  no_text e (inl (no_payload fault)) other = no_payload_bytes IsUtf8 e fault
  no_text e (inl (not_utf8 payload rest read not)) other = λ v new h.
      not (subst IsUtf8 (one v payload old new rest
      (back_to_bytes n w h.payload v old new h.sets.has h.read) read).0 h.sets.holds)
  no_text e (inr memory) other = absurd (other memory.0)

  pub no_bytes : (e : DecodeError) → BytesRefusal old e → e ≢ OutOfMemory
      → NoScalar (length_delimited (λ b. Unit {0})) n w old
  no_bytes e (inl fault) other = no_payload_bytes (λ b. Unit {0}) e fault
  no_bytes e (inr memory) other = absurd (other memory.0)
