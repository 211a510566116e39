-- Unknown fields that are not kept.
use Rattle.std.proofs.Common.{◌≢◌, inl, inr, ℕ, List, subst}
use Rattle.wire_codec.specs.DecodeError.{DecodeError}
use Rattle.wire_codec.specs.DecodeError.TheVariants.{OutOfMemory}
use Rattle.wire_codec.specs.FaultLaws.{NoPayloadBesideFault}
use Rattle.wire_codec.specs.Field.{Fields}
use Rattle.wire_codec.specs.Limits.{Limits}
use Rattle.wire_codec.specs.Refusal.{PayloadRefusal}
use Rattle.wire_codec.specs.Taken.{TakesPayload}
use Rattle.wire_codec.specs.Taking.{TakesRecord, NotTaken}
use Rattle.wire_codec.specs.WireType.{WireType}
use Rattle.wire_fields.specs.Shape.{keeps}

pub not_kept : NoPayloadBesideFault → (l : Limits) (n : ℕ) (w : WireType) (m : Fields)
    (e : DecodeError) (old : List ℕ) → PayloadRefusal l n w old e → e ≢ OutOfMemory
    → NotTaken (TakesRecord keeps l n w m old)
not_kept beside l n w m e old (inl fault) other = λ c z new h.
    beside l n w old new e h.payload fault
    (subst (λ x. TakesPayload x l n w h.payload old new) h.step.0 h.read)
not_kept beside l n w m e old (inr memory) other = absurd (other memory.0)
