-- The payload of an embedded message, from its length to its end.
use Rattle.std.specs.Prelude.{◌↔◌, ℕ, List}
use Rattle.wire_codec.specs.Folds.{Step}
use Rattle.wire_codec.specs.Limits.{Limits, Charge}
use Rattle.wire_codec.specs.Nested.{TakesEmbedded}
use Rattle.wire_fields.specs.NestPayload.{Enters, TakesWithin}

-- behind a length, what is taken up to the end of the payload is the embedded message
abbrev pub PayloadsAreEmbedded : {V : Type 0} → Step V → Type 0
PayloadsAreEmbedded {V} takes =
    (l k : Limits) (m z : V) (old now new : List ℕ) (rest : ℕ) (c : Charge)
    → Enters l k old now rest
    → TakesWithin takes k rest m now c z new ↔ TakesEmbedded takes l m old c z new
