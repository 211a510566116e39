-- Bytes behind a tag that are one payload, and no other.
use Rattle.std.proofs.Common.{◌≡◌, ℕ, ◌^◌, ◌<◌, List, refl}
use Rattle.std.specs.Coded.{Coded, Coded-set, code_by, ×_prop, Π_prop, →_prop}
use mathlib.Core.HLevel.{Σ_prop_path}
use mathlib.Core.Logic.{∥∥₁_elim, ∥∥₁_prop}
use Rattle.wire_base.specs.Charge.{payload_charge}
use Rattle.wire_base.specs.Field.{Payload, varint, Fields, none, field}
use Rattle.wire_base.specs.FieldsCode.{fields_code}
use Rattle.wire_base.specs.Spells.{IsPayload}
use Rattle.wire_base.specs.declared.tag.WireType.{WireType}

-- the payload of the first record
abbrev first_payload : Fields → Payload
first_payload none = varint 0
first_payload (field n p rest) = p

abbrev pub payload_code : Coded Payload
payload_code = code_by Fields fields_code (λ p. field 0 p none) first_payload (λ p. refl)

-- the payload is within the limits of some context
abbrev pub IsCountable : Payload → Type 0
IsCountable p =
    ((payload_charge p).depth < 2 ^ 32) × ((payload_charge p).counts.unknown_fields < 2 ^ 64)

-- behind a tag (n, w) all of the text is one payload, which is within the limits of some context,
-- and no other
abbrev pub SpelledOnce : ℕ → WireType → List ℕ → Type 0
SpelledOnce n w text =
    (p : Payload) × (∥ IsPayload n w p text × IsCountable p ∥₁
    × ((q : Payload) → IsPayload n w q text → q ≡ p))

pub once_prop : (n : ℕ) (w : WireType) (text : List ℕ) → IsProp (SpelledOnce n w text)
once_prop n w text a b =
    Σ_prop_path
    (λ p. ×_prop ∥∥₁_prop (Π_prop (λ q. →_prop (Coded-set payload_code q p))))
    (∥∥₁_elim a.1.0 (Coded-set payload_code a.0 b.0) (λ h. b.1.1 a.0 h.0))
