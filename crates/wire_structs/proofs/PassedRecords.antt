-- What passing over a payload tells, by its wire type.
use Rattle.std.proofs.Common.{◌≡◌, subst, ℕ, ◌<◌, ◌≤◌, List, length}
use Rattle.std.proofs.Common.{take, drop, Result, Ok, Err, refl, ap}
use Rattle.std.proofs.Common.{◌∙◌}
use Rattle.std.specs.Prelude.{OnOk}
use Rattle.wire_base.proofs.Decoded.{left_after-bytes}
use Rattle.wire_base.proofs.LimitsLaws.{left_after-both, left_after-nested}
use Rattle.wire_base.proofs.Payloads.{takes_varint, takes_fixed64, takes_fixed32, takes_bytes}
use Rattle.wire_base.proofs.Payloads.{takes_group}
use Rattle.wire_base.specs.Charge.{charge, payload_charge}
use Rattle.wire_base.specs.Fault.{PayloadFault}
use Rattle.wire_base.specs.FaultLaws.{NoPayloadBesideFault}
use Rattle.wire_base.specs.Taken.{TakesPayload}
use Rattle.wire_codec.specs.Taking.{TakesRecord, IsCharged, NotTaken}
use Rattle.wire_base.specs.Field.{varint, bytes, group}
use Rattle.wire_base.specs.Limits.{Limits, Fits, one_field, bytes_charge, nested, inner, outer}
use Rattle.wire_base.specs.Limits.{left_after}
use Rattle.wire_base.specs.Read.{Reads}
use Rattle.wire_base.specs.Varint.{IsSpelling}
use Rattle.wire_base.specs.declared.error.DecodeError.{DecodeError}
use Rattle.wire_base.specs.declared.tag.WireType.{WireType}
use Rattle.wire_base.specs.declared.tag.WireType.TheVariants as types
use Rattle.wire_structs.specs.Passed.{passes, IsPassedBy, IsGroupPassedBy}

module _ (l after : Limits) (n : ℕ) (w : WireType) (slot : Fits one_field l) where
  pub passes_varint : (v : ℕ) (old new : List ℕ) → w ≡ types.Varint → Reads old (IsSpelling v) new
      → after ≡ left_after l one_field → IsPassedBy l after n w old new
  passes_varint v old new kind h left =
      rw kind (varint v, takes_varint l n slot v old new h, left)

  pub passes_fixed64 : (r : Result (Unit {0}) DecodeError) (old new : List ℕ) → w ≡ types.Fixed64
      → OnOk r (new ≡ drop 8 old) → OnOk r (8 ≤ length old) → after ≡ left_after l one_field
      → OnOk r (IsPassedBy l after n w old new)
  passes_fixed64 (Ok u) old new kind e long left =
      rw kind (_, takes_fixed64 l n slot old new long e, left)
  passes_fixed64 (Err d) old new kind e long left = tt

  pub passes_fixed32 : (r : Result (Unit {0}) DecodeError) (old new : List ℕ) → w ≡ types.Fixed32
      → OnOk r (new ≡ drop 4 old) → OnOk r (4 ≤ length old) → after ≡ left_after l one_field
      → OnOk r (IsPassedBy l after n w old new)
  passes_fixed32 (Ok u) old new kind e long left =
      rw kind (_, takes_fixed32 l n slot old new long e, left)
  passes_fixed32 (Err d) old new kind e long left = tt

  pub passes_bytes : (left : Limits) (len : ℕ) (old mid new : List ℕ) → w ≡ types.LengthDelimited
      → left ≡ left_after l one_field → Reads old (IsSpelling len) mid → len ≤ length mid
      → Fits (bytes_charge len) (left_after l one_field) → after ≡ left_after left (bytes_charge
      len)
      → new ≡ drop len mid → IsPassedBy l after n w old new
  passes_bytes left len old mid new kind first h there room second e =
      rw kind (
        bytes (take len mid),
        takes_bytes l n slot len old mid new h there e room,
        left_after-bytes l left after len (take len mid) mid first second refl there,
      )

  pub passes_group : (left end : Limits) (old new : List ℕ) → w ≡ types.StartGroup
      → 0 < l.depth → left ≡ inner (left_after l one_field) → IsGroupPassedBy left end n old new
      → after ≡ outer end → IsPassedBy l after n w old new
  passes_group left end old new kind level is (fs, body, ended) up =
      rw kind (
        group fs,
        takes_group l n slot fs old new level (rw is at body),
        up ∙ ap outer ended ∙ ap (λ (m : Limits). outer (left_after m (charge fs))) is
            ∙ left_after-nested (left_after l one_field) (charge fs) level
            ∙ left_after-both l one_field (nested (charge fs)),
      )

-- ---- the record

pub passed_over : (l k : Limits) (n : ℕ) (w : WireType) (old new : List ℕ)
    → IsPassedBy l k n w old new → IsCharged l k (λ c. TakesRecord passes l n w tt old c tt new)
passed_over l k n w old new h = record {
  charge = payload_charge h.0;
  taken = record { payload = h.0; read = h.1; step = refl };
  left = h.2;
}

-- no payload that is passed over stands there
pub not_passed_over : NoPayloadBesideFault → (l : Limits) (n : ℕ) (w : WireType) (old : List ℕ)
    (e : DecodeError) → PayloadFault l n w old e → NotTaken (TakesRecord passes l n w tt old)
not_passed_over beside l n w old e fault c z new h =
    beside l n w old new e h.payload fault
    (subst (λ x. TakesPayload x l n w h.payload old new) h.step h.read)
