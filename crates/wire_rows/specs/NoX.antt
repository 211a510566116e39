-- A type of the rows: a text that does not begin with an x.
use Rattle.std.proofs.Common.{sym, ◌∙◌}
use Rattle.std.specs.Prelude.{◌≡◌, ℕ, Bool, true, false, List, [], ◌∷◌, Err, MatchBool, nat_eq}
use Rattle.std.specs.Borrow.{Bor}
use Rattle.std.specs.List.{starts_with}
use Rattle.wire_codec.specs.DecodeError.TheVariants.{Custom}
use Rattle.wire_codec.specs.FromWire.{Answer, AreSameAnswers, IsByBytes, answers_text}
use Rattle.wire_codec.specs.FromWireLaws.{answers_text_by_bytes}

-- the refusal with the text x
abbrev pub IsCustomX : Answer → Type 0
IsCustomX answer = (text : Bor (List ℕ)) × (answer ≡ Err (Custom text)) × (text.now ≡ 120 ∷ [])

abbrev pub answers_no_x : List ℕ → Answer → Type 0
answers_no_x payload answer =
    MatchBool (starts_with nat_eq payload (120 ∷ [])) (IsCustomX answer)
    (answers_text payload answer)

same_custom : (one other : Answer) → IsCustomX one → IsCustomX other → AreSameAnswers one other
same_custom one other x y = rw (x.1, y.1) (x.2 ∙ sym y.2)

same_answer : (begins : Bool) (payload : List ℕ) (one other : Answer)
    → MatchBool begins (IsCustomX one) (answers_text payload one)
    → MatchBool begins (IsCustomX other) (answers_text payload other)
    → AreSameAnswers one other
same_answer true payload one other = same_custom one other
same_answer false payload one other = answers_text_by_bytes payload one other

pub answers_no_x_by_bytes : IsByBytes answers_no_x
answers_no_x_by_bytes payload one other =
    same_answer (starts_with nat_eq payload (120 ∷ [])) payload one other
