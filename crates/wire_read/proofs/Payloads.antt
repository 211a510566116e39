-- A payload behind a tag of its wire type.
use Rattle.std.proofs.Common.{◌≡◌, ℕ, ◌+◌, ◌≤◌, List, ◌++◌, length, take, drop, refl, sym, ap, ◌∙◌, subst, arith, append_assoc}
use Rattle.std.proofs.lemmas.List.{length-take-le, take-append-drop}
use Rattle.std.specs.Int.{w32, w64}
use Rattle.wire_base.specs.Delimited.{IsDelimited}
use Rattle.wire_base.specs.Fixed.{IsFixed}
use Rattle.wire_base.specs.Read.{Reads}
use Rattle.wire_base.specs.Varint.{IsSpelling}
use Rattle.wire_codec.specs.Reading.{ReadsValue}
use Rattle.wire_codec.specs.ValueMap as maps

pub fixed64_there : (v : ℕ) (old new : List ℕ) → ReadsValue (IsFixed w64) maps.fixed64 old v new
    → Reads old (IsFixed w64 v) new
fixed64_there v old new h = subst (λ v. Reads old (IsFixed w64 v) new) (sym h.is) h.read

pub fixed32_there : (v : ℕ) (old new : List ℕ) → ReadsValue (IsFixed w32) maps.fixed32 old v new
    → Reads old (IsFixed w32 v) new
fixed32_there v old new h = subst (λ v. Reads old (IsFixed w32 v) new) (sym h.is) h.read

-- a length, and as many bytes
pub delimited_there : (len : ℕ) (old mid payload rest : List ℕ) → Reads old (IsSpelling len) mid
    → len ≤ length mid → payload ≡ take len mid → rest ≡ drop len mid
    → Reads old (IsDelimited payload) rest
delimited_there len old mid payload rest h few front back = record {
  text = h.text ++ payload;
  parts = h.parts ∙ ap (λ t. h.text ++ t) whole ∙ sym (append_assoc h.text payload rest);
  spelled = record {
    text = h.text;
    parts = refl;
    spelled = subst (λ k. IsSpelling k h.text) (sym count) h.spelled;
  };
}
  where
    whole : mid ≡ payload ++ rest
    whole = sym (take-append-drop len mid) ∙ rw (front, back) refl

    count : length payload ≡ len
    count = ap length front ∙ length-take-le len mid few

pub payload_length : (len : ℕ) (mid payload : List ℕ) → len ≤ length mid → payload ≡ take len mid
    → 0 + length payload ≡ len
payload_length len mid payload few front =
    omega (arith, ap length front ∙ length-take-le len mid few)
