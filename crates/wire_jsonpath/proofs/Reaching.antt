-- To which items of an array or an object a text comes.
use Rattle.std.proofs.Common.{◌≡◌, ◌⊎◌, inl, inr, ℕ, ◌<◌, false, List, ◌∷◌, sym, ap, ◌∙◌, subst, arith}
use Rattle.std.proofs.lemmas.Bool.{cases_lt, cases_order}
use Rattle.wire_json.specs.Bytes.{begins, is_byte, past_space}
use Rattle.wire_json.proofs.OneReading.{one_tail}
use Rattle.wire_jsonpath.specs.Items.{ReachesItem, first, next}

-- what is over leaves one rest
abbrev pub LeavesOne : (List ℕ → List ℕ → Type 0) → Type 0
LeavesOne Over = (old x y : List ℕ) → Over old x → Over old y → x ≡ y

-- an item is over, and a comma stands behind it
pub record GoesOn (Over : List ℕ → List ℕ → Type 0) (item : List ℕ) : Type 0 where
  pub rest : List ℕ
  pub behind : List ℕ
  pub over : Over item rest
  pub comma : past_space rest ≡ 44 ∷ behind

-- the array or the object is opened, and not closed at once
pub record IsOpen (open_with close : ℕ) (old : List ℕ) : Type 0 where
  pub inside : List ℕ
  pub opens : old ≡ open_with ∷ inside
  pub other : begins (is_byte close) (past_space inside) ≡ false

module _ (o c : ℕ) (Over : List ℕ → List ℕ → Type 0) (old : List ℕ) where
  pub opened : (i : ℕ) (x : List ℕ) → ReachesItem o c Over old i x → IsOpen o c old
  opened i x (first inside opens other) = record { inside = inside; opens = opens; other = other }
  opened i x (next k z rest behind before over comma) = opened k z before

  pub one_item : LeavesOne Over → (i j : ℕ) (x y : List ℕ) → ReachesItem o c Over old i x
      → ReachesItem o c Over old j y → i ≡ j → x ≡ y
  one_item one i j x y (first inside opens other) (first within opening another) same =
      ap past_space (one_tail o old inside within opens opening)
  one_item one i j x y (first inside opens other) (next k z rest behind before over comma) same =
      absurd (omega (arith, same))
  one_item one i j x y (next k z rest behind before over comma) (first inside opens other) same =
      absurd (omega (arith, same))
  one_item one i j x y (next k z rest behind before over comma)
      (next m w left further earlier ends mark) same =
      let item : z ≡ w = one_item one k m z w before earlier (omega (arith, same)) in
      let P : List ℕ → Type 0 = λ a. Over a rest in
      let both : rest ≡ left = one w rest left (subst P item over) ends in
      ap past_space (one_tail 44 (past_space left) behind further (ap past_space (sym both) ∙ comma)
      mark)

  -- behind an item before another one the text goes on
  pub goes_on : LeavesOne Over → (i j : ℕ) (x y : List ℕ) → ReachesItem o c Over old i x
      → ReachesItem o c Over old j y → i < j → GoesOn Over x
  goes_on one i j x y here (first inside opens other) below = absurd (omega (arith, below))
  goes_on one i j x y here (next k z rest behind before over comma) below =
      elim (cases_lt i k) as (λ _. GoesOn Over x) [
        | inl less ↦ goes_on one i k x z here before less
        | inr more ↦
            let same : x ≡ z = one_item one i k x z here before (omega (arith, more, below)) in
            let P : List ℕ → Type 0 = λ a. GoesOn Over a in
            subst P (sym same)
            (record { rest = rest; behind = behind; over = over; comma = comma })
      ]

  -- where it does not go on, each other item is one before it
  pub stops : LeavesOne Over → (i j : ℕ) (x y : List ℕ) → ReachesItem o c Over old i x
      → ReachesItem o c Over old j y → (GoesOn Over x → ⊥) → GoesOn Over y ⊎ (x ≡ y)
  stops one i j x y here there halt =
      elim (cases_order i j) as (λ _. GoesOn Over y ⊎ (x ≡ y)) [
        | inl same ↦ inr (one_item one i j x y here there same)
        | inr (inl less) ↦ absurd (halt (goes_on one i j x y here there less))
        | inr (inr more) ↦ inl (goes_on one j i y x there here more)
      ]

  -- the text does not go on behind two items
  pub one_end : LeavesOne Over → (i j : ℕ) (x y : List ℕ) → ReachesItem o c Over old i x
      → ReachesItem o c Over old j y → (GoesOn Over x → ⊥) → (GoesOn Over y → ⊥) → i ≡ j
  one_end one i j x y here there halt none =
      elim (cases_order i j) as (λ _. i ≡ j) [
        | inl same ↦ same
        | inr (inl less) ↦ absurd (halt (goes_on one i j x y here there less))
        | inr (inr more) ↦ absurd (none (goes_on one j i y x there here more))
      ]
