-- What the calls that write a frame do.
use Rattle.std.specs.Prelude.{◌≡◌, ℕ, ◌<◌, ◌≤◌, Bool, List, ◌∷◌, ◌++◌, length, Option, Result, OnOk, IsErrAnd}
use Rattle.std.specs.Int.{w32, to_be_bytes}
use Rattle.wire_base.specs.declared.error.EncodeError.{EncodeError}
use Rattle.wire_base.specs.declared.error.EncodeError.TheVariants.{MessageTooLarge}
use Rattle.wire_base.specs.Sink.{Held, Writes}
use Rattle.wire_frames.specs.Prefix.{flag_of}

-- a flag, the length in four bytes, the highest first, and the payload
abbrev pub grpc_text : Bool → List ℕ → List ℕ
grpc_text compressed payload =
    flag_of compressed ∷ (to_be_bytes w32 (length payload) ++ payload)

-- A text is written where the payload has at most so many bytes. Else the call is refused, and the
-- sink stays as it was.
pub record WritesFrame (greatest len : ℕ) (text : List ℕ) (old new : Held)
    (result : Result (Unit {0}) EncodeError) : Type 0 where
  pub within : OnOk result (len ≤ greatest)
  pub fits : len ≤ greatest → Writes text old new result
  pub too_large : greatest < len → IsErrAnd result (λ e. e ≡ MessageTooLarge) × (new ≡ old)
