-- Where a text does not go on: the first fault from the left, with what is wrong and the bytes left
-- at it.
use Rattle.std.specs.Prelude.{◌≡◌, ◌≢◌, ℕ, suc, ◌≤◌, true, false, List, [], ◌∷◌, codes, Option, Some, None, Err}
use Rattle.wire_json.specs.declared.fault.FaultKind.{FaultKind}
use Rattle.wire_json.specs.declared.fault.FaultKind.TheVariants.{Syntax, TooDeep}
use Rattle.wire_json.specs.declared.kind.Kind.{Kind}
use Rattle.wire_json.specs.declared.kind.Kind.TheVariants as kinds
use Rattle.wire_json.specs.Bytes.{begins, is_byte, past_space, word_end}
use Rattle.wire_json.specs.Json.{Json, depth}
use Rattle.wire_json.specs.Kind.{kind_begun}
use Rattle.wire_json.specs.Number.{number_end}
use Rattle.wire_json.specs.Reading.{ReadsValue}
use Rattle.wire_json.specs.Text.{ReadsUnescaped, ReadsChar, ReadsString, ReadsName, escape_at}

-- characters, and then neither a character nor the closing quotation mark
pub data CharsFault : List ℕ → FaultKind → List ℕ → Type 0 where
  no_char : {old : List ℕ}
      → begins (is_byte 34) old ≡ false → begins (is_byte 92) old ≡ false
      → ((c : ℕ) (new : List ℕ) → ReadsUnescaped c old new → ⊥) → CharsFault old Syntax old
  bad_escape : {old : List ℕ} {k : FaultKind} {left : List ℕ}
      → begins (is_byte 92) old ≡ true → escape_at old ≡ Err (k, left) → CharsFault old k left
  past_char : {old : List ℕ} {k : FaultKind} {left : List ℕ} (c : ℕ) (rest : List ℕ)
      → ReadsChar c old rest → CharsFault rest k left → CharsFault old k left

-- no string stands here
pub data QuoteFault : List ℕ → FaultKind → List ℕ → Type 0 where
  no_quote : {old : List ℕ} → begins (is_byte 34) old ≡ false → QuoteFault old Syntax old
  in_string : {old : List ℕ} {k : FaultKind} {left : List ℕ} (inside : List ℕ)
      → old ≡ 34 ∷ inside → CharsFault inside k left → QuoteFault old k left

-- no name and colon stand here
pub data NameFault : List ℕ → FaultKind → List ℕ → Type 0 where
  no_name : {old : List ℕ} {k : FaultKind} {left : List ℕ}
      → QuoteFault old k left → NameFault old k left
  no_colon : {old : List ℕ} (name behind : List ℕ) → ReadsString name old behind
      → begins (is_byte 58) (past_space behind) ≡ false
      → NameFault old Syntax (past_space behind)

-- the word of a kind that has one
abbrev pub word_of : Kind → Option (List ℕ)
word_of kinds.Null = Some (codes "null")
word_of kinds.True = Some (codes "true")
word_of kinds.False = Some (codes "false")
word_of kinds.Number = None
word_of kinds.String = None
word_of kinds.Array = None
word_of kinds.Object = None

mutual
  -- no value that nests at most so deep stands here
  pub data ValueFault : ℕ → List ℕ → FaultKind → List ℕ → Type 0 where
    no_value : {l : ℕ} {old : List ℕ} → kind_begun old ≡ None → ValueFault l old Syntax old
    bad_word : {l : ℕ} {old left : List ℕ} (kind : Kind) (word : List ℕ)
        → kind_begun old ≡ Some kind → word_of kind ≡ Some word → word_end word old ≡ Err left
        → ValueFault l old Syntax left
    bad_number : {l : ℕ} {old left : List ℕ}
        → kind_begun old ≡ Some kinds.Number → number_end old ≡ Err left
        → ValueFault l old Syntax left
    bad_string : {l : ℕ} {old : List ℕ} {k : FaultKind} {left : List ℕ}
        → kind_begun old ≡ Some kinds.String → QuoteFault old k left → ValueFault l old k left
    deep_array : {l : ℕ} {old : List ℕ}
        → l ≡ 0 → kind_begun old ≡ Some kinds.Array → ValueFault l old TooDeep old
    deep_object : {l : ℕ} {old : List ℕ}
        → l ≡ 0 → kind_begun old ≡ Some kinds.Object → ValueFault l old TooDeep old
    in_array : {l : ℕ} {old : List ℕ} {k : FaultKind} {left : List ℕ} (inner : ℕ)
        (inside : List ℕ) → l ≡ suc inner → old ≡ 91 ∷ inside
        → ElementsFault inner inside k left → ValueFault l old k left
    in_object : {l : ℕ} {old : List ℕ} {k : FaultKind} {left : List ℕ} (inner : ℕ)
        (inside : List ℕ) → l ≡ suc inner → old ≡ 123 ∷ inside
        → MembersFault inner inside k left → ValueFault l old k left

  -- behind `[` neither `]` stands nor elements and `]`
  pub data ElementsFault : ℕ → List ℕ → FaultKind → List ℕ → Type 0 where
    first_element : {l : ℕ} {old : List ℕ} {k : FaultKind} {left : List ℕ}
        → begins (is_byte 93) (past_space old) ≡ false → ValueFault l (past_space old) k left
        → ElementsFault l old k left
    past_element : {l : ℕ} {old : List ℕ} {k : FaultKind} {left : List ℕ} (e : Json)
        (rest : List ℕ) → ReadsValue e (past_space old) rest → depth e ≤ l
        → MoreElementsFault l rest k left → ElementsFault l old k left

  -- behind an element neither `]` stands nor a comma, elements and `]`
  pub data MoreElementsFault : ℕ → List ℕ → FaultKind → List ℕ → Type 0 where
    no_comma : {l : ℕ} {old : List ℕ} → begins (is_byte 44) (past_space old) ≡ false
        → begins (is_byte 93) (past_space old) ≡ false
        → MoreElementsFault l old Syntax (past_space old)
    next_element : {l : ℕ} {old : List ℕ} {k : FaultKind} {left : List ℕ} (next : List ℕ)
        → past_space old ≡ 44 ∷ next → ValueFault l (past_space next) k left
        → MoreElementsFault l old k left
    past_next : {l : ℕ} {old : List ℕ} {k : FaultKind} {left : List ℕ} (next : List ℕ) (e : Json)
        (rest : List ℕ) → past_space old ≡ 44 ∷ next → ReadsValue e (past_space next) rest
        → depth e ≤ l → MoreElementsFault l rest k left → MoreElementsFault l old k left

  -- no member stands here: a name, a colon and a value
  pub data MemberFault : ℕ → List ℕ → FaultKind → List ℕ → Type 0 where
    bad_name : {l : ℕ} {old : List ℕ} {k : FaultKind} {left : List ℕ}
        → NameFault old k left → MemberFault l old k left
    bad_value : {l : ℕ} {old : List ℕ} {k : FaultKind} {left : List ℕ} (name value : List ℕ)
        → ReadsName name old value → ValueFault l value k left → MemberFault l old k left

  -- behind `{` neither `}` stands nor members and `}`
  pub data MembersFault : ℕ → List ℕ → FaultKind → List ℕ → Type 0 where
    first_member : {l : ℕ} {old : List ℕ} {k : FaultKind} {left : List ℕ}
        → begins (is_byte 125) (past_space old) ≡ false → MemberFault l (past_space old) k left
        → MembersFault l old k left
    past_member : {l : ℕ} {old : List ℕ} {k : FaultKind} {left : List ℕ} (name : List ℕ)
        (value : List ℕ) (e : Json) (rest : List ℕ) → ReadsName name (past_space old) value
        → ReadsValue e value rest → depth e ≤ l → MoreMembersFault l rest k left
        → MembersFault l old k left

  -- behind a member neither `}` stands nor a comma, members and `}`
  pub data MoreMembersFault : ℕ → List ℕ → FaultKind → List ℕ → Type 0 where
    no_comma_or_brace : {l : ℕ} {old : List ℕ} → begins (is_byte 44) (past_space old) ≡ false
        → begins (is_byte 125) (past_space old) ≡ false
        → MoreMembersFault l old Syntax (past_space old)
    next_member : {l : ℕ} {old : List ℕ} {k : FaultKind} {left : List ℕ} (next : List ℕ)
        → past_space old ≡ 44 ∷ next → MemberFault l (past_space next) k left
        → MoreMembersFault l old k left
    past_next_member : {l : ℕ} {old : List ℕ} {k : FaultKind} {left : List ℕ} (next : List ℕ)
        (name value : List ℕ) (e : Json) (rest : List ℕ) → past_space old ≡ 44 ∷ next
        → ReadsName name (past_space next) value → ReadsValue e value rest → depth e ≤ l
        → MoreMembersFault l rest k left → MoreMembersFault l old k left

-- the text is no value that nests at most so deep, with white space round it
pub data TextFault : ℕ → List ℕ → FaultKind → List ℕ → Type 0 where
  in_value : {l : ℕ} {text : List ℕ} {k : FaultKind} {left : List ℕ}
      → ValueFault l (past_space text) k left → TextFault l text k left
  behind_value : {l : ℕ} {text : List ℕ} (json : Json) (rest : List ℕ)
      → ReadsValue json (past_space text) rest → depth json ≤ l
      → past_space rest ≢ [] → TextFault l text Syntax (past_space rest)
