-- A type of one's own for string fields: a text of at most 64 bytes.
use Rattle.std.specs.Prelude.{◌≡◌, ℕ, Bool, true, false, List, length, Err, MatchBool, nat_lt}
use Rattle.std.proofs.Common.{refl}
use Rattle.wire_base.specs.declared.error.DecodeError.TheVariants.{MessageTooLarge}
use Rattle.wire_text.specs.FromWire.{Answer, AreSameAnswers, IsByBytes, answers_text}
use Rattle.wire_text.specs.FromWireLaws.{answers_text_by_bytes}

-- a payload of more bytes is too large, and any other is taken where it is a text
abbrev pub answers_short : List ℕ → Answer → Type 0
answers_short payload answer =
    MatchBool (nat_lt 64 (length payload)) (answer ≡ Err MessageTooLarge)
    (answers_text payload answer)

same_answer : (large : Bool) (payload : List ℕ) (one other : Answer)
    → MatchBool large (one ≡ Err MessageTooLarge) (answers_text payload one)
    → MatchBool large (other ≡ Err MessageTooLarge) (answers_text payload other)
    → AreSameAnswers one other
same_answer true payload one other x y = rw (x, y) refl
same_answer false payload one other x y = answers_text_by_bytes payload one other x y

pub answers_short_by_bytes : IsByBytes answers_short
answers_short_by_bytes payload one other =
    same_answer (nat_lt 64 (length payload)) payload one other
