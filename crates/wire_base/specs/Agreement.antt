-- Calls that pass over or keep the same payload agree, and a payload that is cut off is short
-- input.
use Rattle.std.specs.Prelude.{◌≡◌, ◌≢◌, ◌⊎◌, ℕ, List, [], ◌++◌, Result, Err, IsOk, IfErr, MatchResult}
use Rattle.wire_base.specs.declared.error.DecodeError.{DecodeError}
use Rattle.wire_base.specs.declared.error.DecodeError.TheVariants.{OutOfMemory, UnexpectedEof, UnknownFieldLimitExceeded}
use Rattle.wire_base.specs.declared.tag.WireType.{WireType}
use Rattle.wire_base.specs.AgreementLaws.{HasRoomFor}
use Rattle.wire_base.specs.Charge.{payload_charge}
use Rattle.wire_base.specs.Fault.{PayloadFault}
use Rattle.wire_base.specs.Field.{Payload}
use Rattle.wire_base.specs.Limits.{Limits, uncounted}
use Rattle.wire_base.specs.Taken.{TakesPayload}

-- ---- passing over a payload, from the bytes old to the bytes new

-- where decoding with as many levels takes a payload, the call succeeds and leaves the same rest
abbrev pub FollowsDecoding : ℕ → ℕ → WireType → List ℕ → List ℕ → Result (Unit {0}) DecodeError
    → Type 0
FollowsDecoding levels n w old new result =
    (l : Limits) (p : Payload) (rest : List ℕ) → l.depth ≡ levels
    → TakesPayload (payload_charge p) l n w p old rest → IsOk result × (new ≡ rest)

-- where decoding refuses for another cause than slots and bytes, the call refuses with the same
-- error
abbrev pub RefusesAsDecoding : ℕ → ℕ → WireType → List ℕ → Result (Unit {0}) DecodeError → Type 0
RefusesAsDecoding levels n w old result =
    (l : Limits) (e : DecodeError) → l.depth ≡ levels → PayloadFault l n w old e
    → e ≢ UnknownFieldLimitExceeded → result ≡ Err e

-- ---- keeping a payload

-- with room for the bytes the call never wants for room
abbrev pub NeverWantsRoom : {T : Type 0} → Limits → List ℕ → Result T DecodeError → Type 0
NeverWantsRoom l old result =
    HasRoomFor l old → IfErr result (λ e. e ≢ UnknownFieldLimitExceeded)

-- with room for the bytes the call keeps the payload that skipping takes, or memory is refused
abbrev pub KeepsWhatIsSkipped : {T : Type 0} → (T → Payload) → Limits → ℕ → WireType → List ℕ
    → List ℕ → Result T DecodeError → Type 0
KeepsWhatIsSkipped payload_in l n w old new result =
    HasRoomFor l old → (p : Payload) (rest : List ℕ)
    → TakesPayload (payload_charge p) (uncounted l.depth) n w p old rest
    → MatchResult result (λ kept. (payload_in kept ≡ p) × (new ≡ rest)) (λ e. e ≡ OutOfMemory)

-- with room for the bytes the call refuses as skipping does, or memory is refused
abbrev pub RefusesAsSkipping : {T : Type 0} → Limits → ℕ → WireType → List ℕ
    → Result T DecodeError → Type 0
RefusesAsSkipping l n w old result =
    HasRoomFor l old → (e : DecodeError) → PayloadFault (uncounted l.depth) n w old e
    → MatchResult result (λ kept. ⊥) (λ f. (f ≡ e) ⊎ (f ≡ OutOfMemory))

-- ---- bytes that are missing, and bytes that follow

-- where the bytes are a payload within the limits but for some bytes at its end, the call answers
-- `UnexpectedEof`
abbrev pub IsShortWhereCut : {T : Type 0} → Limits → ℕ → WireType → List ℕ
    → Result T DecodeError → Type 0
IsShortWhereCut l n w old result =
    (p : Payload) (missing : List ℕ) → missing ≢ []
    → TakesPayload (payload_charge p) l n w p (old ++ missing) [] → result ≡ Err UnexpectedEof

-- the same of a call that keeps, where memory is not refused
abbrev pub IsShortOrWantsMemory : {T : Type 0} → Limits → ℕ → WireType → List ℕ
    → Result T DecodeError → Type 0
IsShortOrWantsMemory l n w old result =
    (p : Payload) (missing : List ℕ) → missing ≢ []
    → TakesPayload (payload_charge p) l n w p (old ++ missing) []
    → MatchResult result (λ kept. ⊥) (λ e. (e ≡ UnexpectedEof) ⊎ (e ≡ OutOfMemory))

-- a refusal but for short input is the fault of these bytes, whatever bytes follow them
abbrev pub StaysRefused : {T : Type 0} → (List ℕ → DecodeError → Type 0) → List ℕ
    → Result T DecodeError → Type 0
StaysRefused Fault old result =
    IfErr result (λ e. e ≢ UnexpectedEof → (more : List ℕ) → Fault (old ++ more) e)

-- a fault of a payload, or want of memory
abbrev pub FaultOrMemory : Limits → ℕ → WireType → List ℕ → DecodeError → Type 0
FaultOrMemory l n w bytes e = PayloadFault l n w bytes e ⊎ (e ≡ OutOfMemory)
