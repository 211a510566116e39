-- How values, and the items of arrays and objects, lie to a byte of a text. The byte is told by
-- `left`: so many bytes stand from it on, and none at the end of the text.
use Rattle.std.specs.Prelude.{◌≡◌, ℕ, suc, ◌≤◌, false, List, ◌∷◌, length}
use Rattle.wire_json.specs.Bytes.{begins, is_byte, past_space}
use Rattle.wire_json.specs.Json.{Json, depth}
use Rattle.wire_json.specs.Reading.{ReadsValue}
use Rattle.wire_json.specs.Text.{ReadsName}

-- A value is over before the byte: it is read, nests at most so deep, and leaves the byte.
pub record IsOver (levels left : ℕ) (old rest : List ℕ) : Type 0 where
  pub json : Json
  pub reads : ReadsValue json old rest
  pub fits : depth json ≤ levels
  pub leaves : left ≤ length rest

-- no value is over before the byte
abbrev pub LastsFor : ℕ → ℕ → List ℕ → Type 0
LastsFor levels left old = (rest : List ℕ) → IsOver levels left old rest → ⊥

-- A value holds the byte: it begins at it or before it, and is not over before it. What never ends
-- as a value holds each byte behind its first.
pub record HoldsByte (levels left : ℕ) (old : List ℕ) : Type 0 where
  pub begun : left ≤ length old
  pub lasts : LastsFor levels left old

-- a member is over before the byte: its name, a colon and its value
pub record IsMemberOver (levels left : ℕ) (old rest : List ℕ) : Type 0 where
  pub name : List ℕ
  pub value : List ℕ
  pub named : ReadsName name old value
  pub over : IsOver levels left value rest

-- Behind the bracket or brace that opens it and past commas, an array or an object comes to the
-- item at this index, with these bytes from it on. Each item before it is over.
pub data ReachesItem (open_with close : ℕ) (Over : List ℕ → List ℕ → Type 0) (old : List ℕ)
    : ℕ → List ℕ → Type 0 where
  first : (inside : List ℕ) → old ≡ open_with ∷ inside
      → begins (is_byte close) (past_space inside) ≡ false
      → ReachesItem open_with close Over old 0 (past_space inside)
  next : (index : ℕ) (item rest behind : List ℕ)
      → ReachesItem open_with close Over old index item → Over item rest
      → past_space rest ≡ 44 ∷ behind
      → ReachesItem open_with close Over old (suc index) (past_space behind)
