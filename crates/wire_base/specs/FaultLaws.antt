-- What holds of the faults of records. Each statement is proved as the contract of a law of
-- src/laws.rt.
use Rattle.std.specs.Prelude.{◌≡◌, ℕ, ◌⊎◌, List}
use Rattle.wire_base.specs.declared.error.DecodeError.{DecodeError}
use Rattle.wire_base.specs.declared.tag.WireType.{WireType}
use Rattle.wire_base.specs.Charge.{payload_charge, charge}
use Rattle.wire_base.specs.Ending.{Ending}
use Rattle.wire_base.specs.Fault.{PayloadFault, ListFault}
use Rattle.wire_base.specs.Field.{Payload, Fields}
use Rattle.wire_base.specs.Limits.{Limits}
use Rattle.wire_base.specs.Taken.{TakesPayload, TakesUntil}

abbrev pub NoPayloadBesideFault : Type 0
NoPayloadBesideFault =
    (l : Limits) (n : ℕ) (w : WireType) (bytes new : List ℕ) (e : DecodeError) (p : Payload)
    → PayloadFault l n w bytes e → TakesPayload (payload_charge p) l n w p bytes new → ⊥

abbrev pub NoListBesideFault : Type 0
NoListBesideFault =
    (l : Limits) (ending : Ending) (bytes new : List ℕ) (e : DecodeError) (fs : Fields)
    → ListFault l ending bytes e → TakesUntil (charge fs) l ending fs bytes new → ⊥

abbrev pub OnePayloadFault : Type 0
OnePayloadFault =
    (l : Limits) (n : ℕ) (w : WireType) (bytes : List ℕ) (e f : DecodeError)
    → PayloadFault l n w bytes e → PayloadFault l n w bytes f → e ≡ f

abbrev pub OneListFault : Type 0
OneListFault =
    (l : Limits) (ending : Ending) (bytes : List ℕ) (e f : DecodeError)
    → ListFault l ending bytes e → ListFault l ending bytes f → e ≡ f

-- a payload within the limits behind a tag (n, w), or why there is none
abbrev pub PayloadOrFault : Limits → ℕ → WireType → List ℕ → Type 0
PayloadOrFault l n w bytes =
    ((p : Payload) × (new : List ℕ) × TakesPayload (payload_charge p) l n w p bytes new)
    ⊎ ((e : DecodeError) × PayloadFault l n w bytes e)

abbrev pub PayloadOrFaultStands : Type 0
PayloadOrFaultStands = (l : Limits) (n : ℕ) (w : WireType) (bytes : List ℕ)
    → PayloadOrFault l n w bytes

-- a list within the limits that ends so, or why there is none
abbrev pub ListOrFault : Limits → Ending → List ℕ → Type 0
ListOrFault l ending bytes =
    ((fs : Fields) × (new : List ℕ) × TakesUntil (charge fs) l ending fs bytes new)
    ⊎ ((e : DecodeError) × ListFault l ending bytes e)

abbrev pub ListOrFaultStands : Type 0
ListOrFaultStands = (l : Limits) (ending : Ending) (bytes : List ℕ) → ListOrFault l ending bytes
