-- Why the bytes of a payload are not handed out.
use Rattle.std.specs.Prelude.{◌≡◌, ◌⊎◌, ℕ, List, None}
use Rattle.wire_base.specs.declared.error.DecodeError.{DecodeError}
use Rattle.wire_base.specs.declared.error.DecodeError.TheVariants.{OutOfMemory}
use Rattle.wire_base.specs.Delimited.{IsDelimited, DelimitedFault}
use Rattle.wire_base.specs.Read.{Reads}

-- a length-delimited payload stood at the front of old, whatever its bytes, and new is what follows
-- it
abbrev pub PassesPayload : List ℕ → List ℕ → Type 0
PassesPayload old new = (payload : List ℕ) × Reads old (IsDelimited payload) new

-- a length-delimited payload stands at the front of these bytes as a whole
abbrev pub HasPayload : List ℕ → Type 0
HasPayload bytes = (rest : List ℕ) × PassesPayload bytes rest

-- the fault of the payload, or want of memory for one that is there
abbrev pub BytesRefusal : List ℕ → DecodeError → Type 0
BytesRefusal bytes e = DelimitedFault None bytes e ⊎ ((e ≡ OutOfMemory) × HasPayload bytes)
