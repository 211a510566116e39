-- What a contract sees of a `WirePayload`: its bytes, and whether they are its own.
use Rattle.std.specs.Prelude.{◌≡◌, ℕ, List, Bool, true, false}
use Rattle.wire_text.specs.declared.wire_payload.Source.{Source}
use Rattle.wire_text.specs.declared.wire_payload.Source.TheVariants.{Borrowed, Owned}
use Rattle.wire_text.specs.declared.wire_payload.WirePayload.{WirePayload}

abbrev pub source_bytes : Source → List ℕ
source_bytes (Borrowed bytes) = bytes.now
source_bytes (Owned bytes) = bytes

abbrev pub is_owned_source : Source → Bool
is_owned_source (Borrowed bytes) = false
is_owned_source (Owned bytes) = true

abbrev pub payload_bytes : WirePayload → List ℕ
payload_bytes payload = source_bytes payload.source

abbrev pub is_owned_payload : WirePayload → Bool
is_owned_payload payload = is_owned_source payload.source

-- the same bytes, lent or their own alike
abbrev pub IsSamePayload : WirePayload → WirePayload → Type 0
IsSamePayload source copy = (payload_bytes copy ≡ payload_bytes source)
    × (is_owned_payload copy ≡ is_owned_payload source)
