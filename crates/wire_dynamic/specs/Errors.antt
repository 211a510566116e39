-- What a fault of decoding is to a caller.
use Rattle.wire_base.specs.declared.error.DecodeError.{DecodeError}
use Rattle.wire_base.specs.declared.error.DecodeError.TheVariants as decode
use Rattle.wire_dynamic.specs.declared.error.SchemaError.{SchemaError}
use Rattle.wire_dynamic.specs.declared.error.SchemaError.TheVariants as errors

-- bytes that are no descriptor, or want of memory
abbrev pub decode_failed : DecodeError → SchemaError
decode_failed decode.OutOfMemory = errors.OutOfMemory
decode_failed e = errors.NotDecoded e
