-- Steps through an array or an object.
use Rattle.std.specs.Prelude.{◌≡◌, ℕ, ◌≤◌, false, List, [], ◌∷◌, drop}
use Rattle.wire_json.specs.declared.container.Next.{Next}
use Rattle.wire_json.specs.declared.container.Next.TheVariants.{Item, End}
use Rattle.wire_json.specs.declared.fault.FaultKind.{FaultKind}
use Rattle.wire_json.specs.declared.fault.FaultKind.TheVariants.{Syntax}
use Rattle.wire_json.specs.Answer.{IsBehind}
use Rattle.wire_json.specs.Bytes.{begins, is_byte, past_space}

-- Behind the bracket or brace that opens it, what closes it stands behind white space, or something
-- else does.
abbrev pub FirstItem : ℕ → List ℕ → List ℕ → Next → Type 0
FirstItem close text inside (Item place) =
    (drop place text ≡ past_space inside) × (begins (is_byte close) (past_space inside) ≡ false)
FirstItem close text inside (End after) = past_space inside ≡ close ∷ drop after text

-- Behind an item, what closes it or a comma stands behind white space, and behind the comma and
-- white space what follows.
abbrev pub NextItem : ℕ → List ℕ → List ℕ → Next → Type 0
NextItem close text behind (Item place) =
    (next : List ℕ) × (past_space behind ≡ 44 ∷ next) × (drop place text ≡ past_space next)
NextItem close text behind (End after) = past_space behind ≡ close ∷ drop after text

-- Behind an item neither a comma stands nor what closes it.
pub record NoNext (close : ℕ) (behind : List ℕ) (k : FaultKind) (left : List ℕ) : Type 0 where
  pub kind : k ≡ Syntax
  pub place : left ≡ past_space behind
  pub no_comma : begins (is_byte 44) (past_space behind) ≡ false
  pub no_close : begins (is_byte close) (past_space behind) ≡ false

-- no such bracket or brace stands here
pub record NotOpen (open_with : ℕ) (old : List ℕ) (k : FaultKind) (left : List ℕ) : Type 0 where
  pub kind : k ≡ Syntax
  pub place : left ≡ old
  pub other : begins (is_byte open_with) old ≡ false

-- behind a name no colon stands
abbrev pub NoColon : List ℕ → FaultKind → List ℕ → Type 0
NoColon behind k left =
    (k ≡ Syntax) × (left ≡ past_space behind)
    × (begins (is_byte 58) (past_space behind) ≡ false)

-- a place to go on at lies behind this one, and the end of the array or object in the text
abbrev pub NextIsBehind : ℕ → Next → List ℕ → Type 0
NextIsBehind at (Item place) text = at ≤ place
NextIsBehind at (End after) text = IsBehind at after text

-- a comma, where an array or an object goes on
abbrev pub separator : Next → List ℕ
separator (Item place) = 44 ∷ []
separator (End after) = []
