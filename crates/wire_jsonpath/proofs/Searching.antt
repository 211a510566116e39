-- Where the search in an array or an object has come to.
use Rattle.std.proofs.Common.{◌≡◌, ℕ, suc, ◌-◌, ◌<◌, ◌≤◌, false, List, ◌∷◌, Result, Ok, Err, length, drop, refl, sym, ap, ◌∙◌, subst, arith}
use Rattle.std.specs.Prelude.{IfOk, IfErr}
use Rattle.wire_json.specs.declared.container.Next.{Next}
use Rattle.wire_json.specs.declared.container.Next.TheVariants.{Item, End}
use Rattle.wire_json.specs.declared.fault.Fault.{Fault}
use Rattle.wire_json.specs.Bytes.{begins, is_byte, past_space}
use Rattle.wire_json.specs.Container.{FirstItem, NextItem, NextIsBehind, NoNext, NotOpen}
use Rattle.wire_json.proofs.Beside.{not_begun}
use Rattle.wire_json.proofs.OneReading.{one_tail}
use Rattle.wire_jsonpath.specs.Items.{IsMemberOver, IsOver, ReachesItem, first, next}
use Rattle.wire_jsonpath.specs.Places.{NoElementHolds, NoMemberHolds}
use Rattle.wire_jsonpath.proofs.Holding.{no_array, no_element, no_member, no_object, value_leaves_one, member_leaves_one, same_value}
use Rattle.wire_jsonpath.proofs.Reaching.{GoesOn, LeavesOne}

-- how much of the text is ahead, and no less than 1 but at the end
abbrev pub ahead : List ℕ → Result Next Fault → ℕ
ahead text (Ok (Item place)) = suc (length text - place)
ahead text (Ok (End after)) = 0
ahead text (Err fault) = 0

-- the text does not go on behind an item
pub no_comma : (Over : List ℕ → List ℕ → Type 0) (item rest : List ℕ) → LeavesOne Over
    → Over item rest → begins (is_byte 44) (past_space rest) ≡ false → GoesOn Over item → ⊥
no_comma Over item rest one over none goes =
    let same = one item goes.rest rest goes.over over in
    not_begun 44 (past_space rest) goes.behind (ap past_space (sym same) ∙ goes.comma) refl none

pub closed : (close : ℕ) (rest after : List ℕ) → past_space rest ≡ close ∷ after
    → begins (is_byte 44) (close ∷ after) ≡ false → begins (is_byte 44) (past_space rest) ≡ false
closed close rest after is other = ap (begins (is_byte 44)) is ∙ other

-- ---- arrays

abbrev pub ElementsSo : ℕ → ℕ → List ℕ → List ℕ → ℕ → Result Next Fault → Type 0
ElementsSo levels left text old index (Ok (Item place)) =
    ReachesItem 91 93 (IsOver levels left) old index (drop place text) × (index ≤ place)
ElementsSo levels left text old index (Ok (End after)) = NoElementHolds levels left old
ElementsSo levels left text old index (Err fault) = NoElementHolds levels left old

module _ (levels left : ℕ) (text old : List ℕ) where
  pub at_element : (index : ℕ) (r : Result Next Fault) (to : Next) (place : ℕ) → r ≡ Ok to
      → to ≡ Item place → ElementsSo levels left text old index r
      → ElementsSo levels left text old index (Ok (Item place))
  at_element index r to place is there so =
      let P : Result Next Fault → Type 0 = λ x. ElementsSo levels left text old index x in
      let Q : Next → Type 0 = λ x. ElementsSo levels left text old index (Ok x) in
      subst Q there (subst P is so)

  -- how an array is opened here
  abbrev pub OpensArray : Next → Type 0
  OpensArray to = (inside : List ℕ) × (old ≡ 91 ∷ inside) × FirstItem 93 text inside to

  pub array_begun : (r : Result Next Fault) → IfOk r OpensArray
      → IfErr r (λ fault. NotOpen 91 old fault.kind (drop fault.at text))
      → ElementsSo levels left text old 0 r
  array_begun (Ok (Item place)) (inside, opens, (here, other)) bad =
      let P : List ℕ → Type 0 = λ a. ReachesItem 91 93 (IsOver levels left) old 0 a in
      (subst P (sym here) (first inside opens other), omega arith)
  array_begun (Ok (End after)) (inside, opens, close) bad =
      no_array levels left old (λ within opening other.
      let same = one_tail 91 old inside within opens opening in
      not_begun 93 (past_space within) (drop after text) (ap past_space (sym same) ∙ close) refl
      other)
  array_begun (Err fault) ok bad =
      no_array levels left old
      (λ within opening other. not_begun 91 old within opening refl bad.other)

  module _ (index place after : ℕ)
      (here : ReachesItem 91 93 (IsOver levels left) old index (drop place text))
      (over : IsOver levels left (drop place text) (drop after text)) where
    ended : begins (is_byte 44) (past_space (drop after text)) ≡ false
        → NoElementHolds levels left old
    ended none =
        no_element levels left old index (drop place text) here
        (no_comma (IsOver levels left) (drop place text) (drop after text)
        (value_leaves_one levels left) over none)
        (λ holds. holds.lasts (drop after text) over)

    pub array_further : (more : ℕ) (r : Result Next Fault) → more ≡ suc index → index < after
        → IfOk r (NextItem 93 text (drop after text)) → IfOk r (λ to. NextIsBehind after to text)
        → IfErr r (λ fault. NoNext 93 (drop after text) fault.kind (drop fault.at text))
        → ElementsSo levels left text old more r
    array_further more (Ok (Item further)) is below (behind, comma, there) onward bad =
        let P : List ℕ → Type 0 = λ a. ReachesItem 91 93 (IsOver levels left) old (suc index) a in
        let Q : ℕ → Type 0 = λ n.
        ReachesItem 91 93 (IsOver levels left) old n (drop further text) in (
          subst Q (sym is) (subst P (sym there)
              (next index (drop place text) (drop after text) behind here over comma)),
          omega (arith, is, below, onward),
        )
    array_further more (Ok (End end)) is below close onward bad =
        ended (closed 93 (drop after text) (drop end text) close refl)
    array_further more (Err fault) is below ok onward bad = ended bad.no_comma

-- ---- objects

abbrev pub MembersSo : ℕ → ℕ → List ℕ → List ℕ → Result Next Fault → Type 0
MembersSo levels left text old (Ok (Item place)) =
    (index : ℕ) × ReachesItem 123 125 (IsMemberOver levels left) old index (drop place text)
MembersSo levels left text old (Ok (End after)) = NoMemberHolds levels left old
MembersSo levels left text old (Err fault) = NoMemberHolds levels left old

module _ (levels left : ℕ) (text old : List ℕ) where
  pub at_member : (r : Result Next Fault) (to : Next) (place : ℕ) → r ≡ Ok to → to ≡ Item place
      → MembersSo levels left text old r → MembersSo levels left text old (Ok (Item place))
  at_member r to place is there so =
      let P : Result Next Fault → Type 0 = λ x. MembersSo levels left text old x in
      let Q : Next → Type 0 = λ x. MembersSo levels left text old (Ok x) in
      subst Q there (subst P is so)

  -- how an object is opened here
  abbrev pub OpensObject : Next → Type 0
  OpensObject to = (inside : List ℕ) × (old ≡ 123 ∷ inside) × FirstItem 125 text inside to

  pub object_begun : (r : Result Next Fault) → IfOk r OpensObject
      → IfErr r (λ fault. NotOpen 123 old fault.kind (drop fault.at text))
      → MembersSo levels left text old r
  object_begun (Ok (Item place)) (inside, opens, (here, other)) bad =
      let P : List ℕ → Type 0 = λ a. ReachesItem 123 125 (IsMemberOver levels left) old 0 a in
      (0, subst P (sym here) (first inside opens other))
  object_begun (Ok (End after)) (inside, opens, close) bad =
      no_object levels left old (λ within opening other.
      let same = one_tail 123 old inside within opens opening in
      not_begun 125 (past_space within) (drop after text) (ap past_space (sym same) ∙ close) refl
      other)
  object_begun (Err fault) ok bad =
      no_object levels left old
      (λ within opening other. not_begun 123 old within opening refl bad.other)

  module _ (index place after : ℕ)
      (here : ReachesItem 123 125 (IsMemberOver levels left) old index (drop place text))
      (over : IsMemberOver levels left (drop place text) (drop after text)) where
    ended_member : begins (is_byte 44) (past_space (drop after text)) ≡ false
        → NoMemberHolds levels left old
    ended_member none =
        no_member levels left old index (drop place text) here
        (no_comma (IsMemberOver levels left) (drop place text) (drop after text)
        (member_leaves_one levels left) over none)
        (λ name value named holds.
        holds.lasts (drop after text)
        (same_value levels left name value (drop place text) (drop after text) named over))

    pub object_further : (r : Result Next Fault) → IfOk r (NextItem 125 text (drop after text))
        → IfErr r (λ fault. NoNext 125 (drop after text) fault.kind (drop fault.at text))
        → MembersSo levels left text old r
    object_further (Ok (Item further)) (behind, comma, there) bad =
        let P : List ℕ → Type 0 = λ a.
        ReachesItem 123 125 (IsMemberOver levels left) old (suc index) a in (
          suc index,
          subst P (sym there)
              (next index (drop place text) (drop after text) behind here over comma),
        )
    object_further (Ok (End end)) close bad =
        ended_member (closed 125 (drop after text) (drop end text) close refl)
    object_further (Err fault) ok bad = ended_member bad.no_comma
