-- Values that do not stand behind a tag.
use Rattle.std.proofs.Common.{ℕ, List, subst}
use Rattle.std.specs.Prelude.{None, IsUtf8}
use Rattle.wire_codec.specs.DecodeError.{DecodeError}
use Rattle.wire_codec.specs.Delimited.{DelimitedFault}
use Rattle.wire_codec.specs.StringPayload.{no_payload, not_utf8, StringFault}
use Rattle.wire_codec.specs.ValueMap.{ValueMap}
use Rattle.wire_codec.specs.VarintLaws.{OneDelimited, NoDelimitedBesideFault}
use Rattle.wire_codec.specs.WireType.{WireType}
use Rattle.wire_fields.proofs.Reading.{back_to_bytes}
use Rattle.wire_fields.specs.Numbers.{numeric, NoNumber}
use Rattle.wire_fields.specs.Scalar.{NoScalar}
use Rattle.wire_fields.specs.Texts.{length_delimited, string}
use Rattle.wire_fields.specs.declared.form.Form.{Form}

module _ (one : OneDelimited) (beside : NoDelimitedBesideFault) (n : ℕ) (w : WireType)
    (old : List ℕ) where
  pub no_delimited_value : (IsText : List ℕ → Type 0) (e : DecodeError)
      → DelimitedFault None old e → NoScalar (length_delimited IsText) n w old
  no_delimited_value IsText e fault v new h =
      beside None v old new e (back_to_bytes n w h.payload v old new h.sets.has h.read) tt fault

  pub no_string : (e : DecodeError) → StringFault old e → NoScalar string n w old
  no_string e (no_payload fault) = no_delimited_value IsUtf8 e fault
  no_string e (not_utf8 payload rest read not) = λ v new h.
      not (subst IsUtf8 (one v payload old new rest
      (back_to_bytes n w h.payload v old new h.sets.has h.read) read).0 h.sets.holds)

-- no number, and so no value of numbers
pub no_numeric : {T : Type 0} (form : Form) (map : ValueMap T) (n : ℕ) (w : WireType) (old : List ℕ)
    → NoNumber form n w old → NoScalar (numeric form map) n w old
no_numeric form map n w old none v new h =
    none h.sets.number new (record { payload = h.payload; has = h.sets.has; read = h.read })
