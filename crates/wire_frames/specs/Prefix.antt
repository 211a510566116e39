-- The prefix of a frame: how many bytes its payload has, and in gRPC's form whether it is
-- compressed.
use Rattle.std.specs.Prelude.{◌≡◌, ℕ, ◌<◌, ◌≤◌, Bool, true, false, List, [], ◌∷◌, length}
use Rattle.std.specs.Int.{w32, from_be_bytes}
use Rattle.wire_base.specs.declared.error.DecodeError.TheVariants.{UnexpectedEof, VarintTooLong}
use Rattle.wire_base.specs.Varint.{IsSpelling, VarintFault}
use Rattle.wire_frames.specs.declared.error.FrameError.{FrameError}
use Rattle.wire_frames.specs.declared.error.FrameError.TheVariants.{LengthTooLong, UnknownFlag}
use Rattle.wire_frames.specs.declared.frame.Framing.{Framing}
use Rattle.wire_frames.specs.declared.frame.Framing.TheVariants.{Delimited, Grpc}

-- the flag of a payload that is compressed, or is not
abbrev pub flag_of : Bool → ℕ
flag_of true = 1
flag_of false = 0

-- the text is a flag, and the length in four bytes, the highest first
pub record IsGrpcPrefix (compressed : Bool) (len : ℕ) (text : List ℕ) : Type 0 where
  pub number : List ℕ
  pub parts : text ≡ flag_of compressed ∷ number
  pub four : length number ≡ 4
  pub value : from_be_bytes w32 number ≡ len

-- the text is a prefix for a payload of so many bytes; a varint has no flag
abbrev pub IsPrefix : Framing → Bool → ℕ → List ℕ → Type 0
IsPrefix Delimited compressed len text = (compressed ≡ false) × IsSpelling len text
IsPrefix Grpc compressed len text = IsGrpcPrefix compressed len text

-- the first byte, if there is one, is a flag
abbrev pub HasFlag : List ℕ → Type 0
HasFlag [] = Unit {0}
HasFlag (flag ∷ bytes) = flag ≤ 1

-- the bytes end before a prefix does, and nothing is wrong with them
abbrev pub IsBegun : Framing → List ℕ → Type 0
IsBegun Delimited bytes = VarintFault bytes UnexpectedEof
IsBegun Grpc bytes = (length bytes < 5) × HasFlag bytes

-- no prefix stands at the front of these bytes, whatever follows them, with the error that says why
abbrev pub PrefixFault : Framing → List ℕ → FrameError → Type 0
PrefixFault Delimited bytes e = VarintFault bytes VarintTooLong × (e ≡ LengthTooLong)
PrefixFault Grpc bytes e = (flag : ℕ) × (more : List ℕ) × (bytes ≡ flag ∷ more) × (2 ≤ flag)
    × (e ≡ UnknownFlag flag)
