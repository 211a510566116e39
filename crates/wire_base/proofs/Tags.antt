-- The error of a number that is no tag, case by case.
use Rattle.std.proofs.Common.{◌≡◌, ℕ, ◌%◌, ◌^◌, ◌<◌, ◌≤◌, Some, refl, arith}
use Rattle.std.proofs.lemmas.Bool.{le-leb, lt-leb, lt-ltb}
use Rattle.wire_base.specs.declared.error.DecodeError.TheVariants.{InvalidWireType, InvalidFieldNumber}
use Rattle.wire_base.specs.declared.tag.WireType.{WireType}
use Rattle.wire_base.specs.declared.tag.WireType.TheVariants.{Varint, Fixed64, LengthDelimited, StartGroup, EndGroup, Fixed32}
use Rattle.wire_base.specs.Tag.{tag_error, wire_number}

pub tag_error-large : (v : ℕ) → 2 ^ 32 ≤ v → tag_error v ≡ Some InvalidFieldNumber
tag_error-large v large = rw (le-leb (2 ^ 32) v large) refl

pub tag_error-type : (v : ℕ) → v < 2 ^ 32 → 5 < v % 8 → tag_error v ≡ Some (InvalidWireType (v % 8))
tag_error-type v small high = rw (lt-leb (2 ^ 32) v small, le-leb 6 (v % 8) high) refl

pub tag_error-zero : (v : ℕ) → v < 8 → v % 8 ≤ 5 → tag_error v ≡ Some InvalidFieldNumber
tag_error-zero v zero low =
    rw (lt-leb (2 ^ 32) v (omega arith), lt-leb 6 (v % 8) (omega arith), lt-ltb v 8 zero) refl

pub wire_number-below : (w : WireType) → wire_number w ≤ 5
wire_number-below Varint = omega arith
wire_number-below Fixed64 = omega arith
wire_number-below LengthDelimited = omega arith
wire_number-below StartGroup = omega arith
wire_number-below EndGroup = omega arith
wire_number-below Fixed32 = omega arith
