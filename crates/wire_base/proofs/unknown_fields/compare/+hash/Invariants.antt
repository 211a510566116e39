use Rattle.std.proofs.Common.{◌≡◌, drop}
use Rattle.std.specs.Prelude.{fold}
use Rattle.wire_base.specs.FieldsEq.{each_writes, fields_writes}
use Rattle.wire_base.specs.UnknownFields.{fields_of}
use Rattle.wire_base.proofs.unknown_fields.compare.+hash.Given as goal

-- what is written so far, and then what is left
abbrev pub invariant-UnknownFieldsHash::hash-loop-field : goal.invariant-UnknownFieldsHash::hash-loop-field
invariant-UnknownFieldsHash::hash-loop-field g l =
    fold g.H.Hasher.write l.state
    (each_writes
    (fields_of (drop l.field-index l.field-items))) ≡ fold g.H.Hasher.write l.fn.state
    (fields_writes l.fn.self)
