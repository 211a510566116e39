-- The unknown fields of a message are the records of its bytes that its fields do not own.
use Rattle.std.specs.Prelude.{◌≡◌, ◌≤◌, ℕ, List}
use Rattle.wire_codec.specs.Field.{Fields}
use Rattle.wire_codec.specs.Limits.{Limits}
use Rattle.wire_codec.specs.Taking.{Decodes}
use Rattle.wire_fields.specs.Shape.{Shape, two, unknown}
use Rattle.wire_structs.specs.Unknown.{OfUnknown}

-- Bytes that are a message of these fields, within some limits of no more than 100 levels, are
-- records, and those of them that its fields do not own are its unknown fields.
abbrev pub KeepsUnknown : {V : Type 0} → Shape V → Type 0
KeepsUnknown {V} fields =
    (l : Limits) (bytes : List ℕ) (m : V × Fields) → l.depth ≤ 100
    → Decodes (two fields unknown).takes l (two fields unknown).default bytes m
    → OfUnknown fields.owns bytes (λ fs. fs ≡ m.1)
