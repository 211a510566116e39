-- Why bytes, or a message, are refused.
use Rattle.std.specs.Prelude.{◌≡◌, ◌≢◌, ℕ, List, Some}
use Rattle.wire_codec.specs.DecodeError.TheVariants.{OutOfMemory}
use Rattle.wire_codec.specs.Folds.{Step}
use Rattle.wire_codec.specs.Limits.{Limits}
use Rattle.wire_codec.specs.Taking.{Decodes, NotDecoded}
use Rattle.wire_required.specs.Missing.{Missing}
use Rattle.wire_required.specs.declared.error.ParseError.{ParseError}
use Rattle.wire_required.specs.declared.error.ParseError.TheVariants.{Decode, MissingRequiredField}

-- The bytes do not decode within the limits, or they decode to a message which, as its value is
-- seen, lacks the required field that the path leads to. Nothing is said of want of memory.
abbrev pub ParseIsRefused : {M V : Type 0} → Step V → Limits → V → (M → V) → (M → Missing) → List ℕ
    → ParseError → Type 0
ParseIsRefused takes l start view lacks bytes (Decode e) =
    e ≢ OutOfMemory → NotDecoded takes l start bytes
ParseIsRefused {M} takes l start view lacks bytes (MissingRequiredField path) =
    (m : M) × Decodes takes l start bytes (view m) × (lacks m ≡ Some path)

-- memory runs out, or what is missing is the required field that the path leads to
abbrev pub IsIncomplete : Missing → ParseError → Type 0
IsIncomplete missing (Decode e) = e ≡ OutOfMemory
IsIncomplete missing (MissingRequiredField path) = missing ≡ Some path
