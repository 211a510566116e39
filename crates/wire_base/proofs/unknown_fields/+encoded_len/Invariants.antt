use Rattle.std.proofs.Common.{◌≡◌, ◌+◌, drop, length}
use Rattle.wire_base.specs.Text.{text_of, size}
use Rattle.wire_base.specs.UnknownFields.{fields_of}
use Rattle.wire_base.proofs.unknown_fields.+encoded_len.Given as goal

-- what is counted so far, and then what is left
abbrev pub invariant-UnknownFields::fields_len-loop-field : goal.invariant-UnknownFields::fields_len-loop-field
invariant-UnknownFields::fields_len-loop-field l =
    l.len + length (text_of (fields_of (drop l.field-index l.field-items))) ≡ size l.fn.self
