-- What is passed over within limits, and what it leaves of them.
use Rattle.std.specs.Prelude.{◌≡◌, ℕ, List}
use Rattle.wire_base.specs.Charge.{charge, payload_charge}
use Rattle.wire_base.specs.Ending.{by_tag}
use Rattle.wire_base.specs.Field.{Payload, Fields}
use Rattle.wire_base.specs.Limits.{Limits, left_after}
use Rattle.wire_base.specs.Taken.{TakesPayload, TakesUntil}
use Rattle.wire_base.specs.declared.tag.WireType.{WireType}

-- behind a tag (n, w) a payload stands at the front of old within the limits, is charged as an
-- unknown field, and new is what follows
abbrev pub PassesUnknown : Limits → Limits → ℕ → WireType → List ℕ → List ℕ → Type 0
PassesUnknown before after n w old new =
    (p : Payload) × TakesPayload (payload_charge p) before n w p old new
    × (after ≡ left_after before (payload_charge p))

-- the body of a group of field number n stands at the front of old within the limits, is charged as
-- unknown fields, and new is what follows its end tag
abbrev pub PassesGroup : Limits → Limits → ℕ → List ℕ → List ℕ → Type 0
PassesGroup before after n old new =
    (fs : Fields) × TakesUntil (charge fs) before (by_tag n) fs old new
    × (after ≡ left_after before (charge fs))
