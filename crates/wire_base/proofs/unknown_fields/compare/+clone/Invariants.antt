use Rattle.std.proofs.Common.{◌≡◌, drop}
use Rattle.wire_base.specs.Field.{joined}
use Rattle.wire_base.specs.UnknownFields.{fields_of}
use Rattle.wire_base.proofs.unknown_fields.compare.+clone.Given as goal

-- the copies so far, and then what is left
abbrev pub invariant-UnknownFieldsClone::clone-loop-field : goal.invariant-UnknownFieldsClone::clone-loop-field
invariant-UnknownFieldsClone::clone-loop-field l =
    joined (fields_of l.fields.items) (fields_of (drop l.field-index l.field-items)) ≡ l.fn.self
