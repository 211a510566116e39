-- Which elements and members hold a byte.
use Rattle.std.proofs.Common.{◌≡◌, inl, inr, ℕ, ◌<◌, false, List, ◌∷◌, length, sym, ap, subst, arith}
use Rattle.wire_json.specs.declared.fault.FaultKind.{FaultKind}
use Rattle.wire_json.specs.Bytes.{begins, is_byte, past_space}
use Rattle.wire_json.specs.Fault.{ValueFault}
use Rattle.wire_json.specs.Json.{Json}
use Rattle.wire_json.specs.Reading.{ReadsValue}
use Rattle.wire_json.specs.Text.{ReadsName}
use Rattle.wire_json.proofs.Beside.{no_value_beside_fault_lemma}
use Rattle.wire_json.proofs.OneReading.{one_head, one_name, one_value_lemma}
use Rattle.wire_jsonpath.specs.Items.{HoldsByte, IsMemberOver, IsOver, LastsFor, ReachesItem}
use Rattle.wire_jsonpath.specs.Path.{TreeStep, element, member}
use Rattle.wire_jsonpath.specs.Places.{LeadsTo, to_element, to_member, NoElementHolds, NoMemberHolds, NothingHolds}
use Rattle.wire_jsonpath.proofs.Reaching.{GoesOn, LeavesOne, one_end, one_item, opened, stops}

module _ (levels left : ℕ) where
  pub value_leaves_one : LeavesOne (IsOver levels left)
  value_leaves_one old x y h g = (one_value_lemma h.json g.json old x y h.reads g.reads).1

  -- what is over behind the byte is not over before it
  pub lasts_past : (json : Json) (old rest : List ℕ) → ReadsValue json old rest
      → length rest < left → LastsFor levels left old
  lasts_past json old rest reads short other over =
      let same = (one_value_lemma json over.json old rest other reads over.reads).1 in
      omega (arith, ap length same, over.leaves, short)

  pub lasts_broken : (old : List ℕ) (k : FaultKind) (here : List ℕ) → ValueFault levels old k here
      → LastsFor levels left old
  lasts_broken old k here fault other over =
      no_value_beside_fault_lemma levels over.json old other k here over.reads over.fits fault

  -- a member and its value are over at once
  pub same_value : (name value item rest : List ℕ) → ReadsName name item value
      → IsMemberOver levels left item rest → IsOver levels left value rest
  same_value name value item rest named h =
      let same = (one_name h.name name item h.value value h.named named).1 in
      let P : List ℕ → Type 0 = λ a. IsOver levels left a rest in
      subst P same h.over

  pub member_leaves_one : LeavesOne (IsMemberOver levels left)
  member_leaves_one old x y h g =
      value_leaves_one h.value x y h.over (same_value h.name h.value old y h.named g)

  pub element_lasts : (x : List ℕ) → HoldsByte levels left x → GoesOn (IsOver levels left) x → ⊥
  element_lasts x holds goes = holds.lasts goes.rest goes.over

  pub member_lasts : (name item value : List ℕ) → ReadsName name item value
      → HoldsByte levels left value → GoesOn (IsMemberOver levels left) item → ⊥
  member_lasts name item value named holds goes =
      holds.lasts goes.rest (same_value name value item goes.rest named goes.over)

  module _ (old : List ℕ) where
    -- the search for an element ends here
    pub no_element : (i : ℕ) (x : List ℕ) → ReachesItem 91 93 (IsOver levels left) old i x
        → (GoesOn (IsOver levels left) x → ⊥) → (HoldsByte levels left x → ⊥)
        → NoElementHolds levels left old
    no_element i x here halt free index inner (to_element j y there holds) =
        elim (stops 91 93 (IsOver levels left) old value_leaves_one i j x y here there halt)
        as (λ _. ⊥) [
          | inl goes ↦ element_lasts y holds goes
          | inr same ↦
              let P : List ℕ → Type 0 = λ a. HoldsByte levels left a in
              free (subst P (sym same) holds)
        ]

    pub no_member : (i : ℕ) (x : List ℕ) → ReachesItem 123 125 (IsMemberOver levels left) old i x
        → (GoesOn (IsMemberOver levels left) x → ⊥)
        → ((name value : List ℕ) → ReadsName name x value → HoldsByte levels left value → ⊥)
        → NoMemberHolds levels left old
    no_member i x here halt free name inner (to_member j y a value there named holds) =
        elim (stops 123 125 (IsMemberOver levels left) old member_leaves_one i j x y here there
        halt)
        as (λ _. ⊥) [
          | inl goes ↦ member_lasts a y value named holds goes
          | inr same ↦
              let P : List ℕ → Type 0 = λ z. ReadsName a z value in
              free a value (subst P (sym same) named) holds
        ]

    -- no array is opened here, or one that is closed at once
    pub no_array : ((inside : List ℕ) → old ≡ 91 ∷ inside
        → begins (is_byte 93) (past_space inside) ≡ false → ⊥) → NoElementHolds levels left old
    no_array shut index inner (to_element j y there holds) =
        let open_here = opened 91 93 (IsOver levels left) old j y there in
        shut open_here.inside open_here.opens open_here.other

    pub no_object : ((inside : List ℕ) → old ≡ 123 ∷ inside
        → begins (is_byte 125) (past_space inside) ≡ false → ⊥) → NoMemberHolds levels left old
    no_object shut name inner (to_member j y a value there named holds) =
        let open_here = opened 123 125 (IsMemberOver levels left) old j y there in
        shut open_here.inside open_here.opens open_here.other

    pub nothing : NoElementHolds levels left old → NoMemberHolds levels left old
        → NothingHolds levels left old
    nothing elements members (element index) inner leads = elements index inner leads
    nothing elements members (member name) inner leads = members name inner leads

    two_kinds : (i j : ℕ) (x y : List ℕ) → ReachesItem 91 93 (IsOver levels left) old i x
        → ReachesItem 123 125 (IsMemberOver levels left) old j y → ⊥
    two_kinds i j x y here there =
        let a = opened 91 93 (IsOver levels left) old i x here in
        let b = opened 123 125 (IsMemberOver levels left) old j y there in
        let same = one_head 91 123 old a.inside b.inside a.opens b.opens in
        omega (arith, same)

    pub one_step : (s t : TreeStep) (x y : List ℕ) → LeadsTo levels left old s x
        → LeadsTo levels left old t y → (s ≡ t) × (x ≡ y)
    one_step s t x y (to_element i a here holds) (to_element j b there held) =
        let same = one_end 91 93 (IsOver levels left) old value_leaves_one i j a b here there
        (element_lasts a holds) (element_lasts b held) in
        let item = one_item 91 93 (IsOver levels left) old value_leaves_one i j a b here there
        same in
        (ap element same, item)
    one_step s t x y (to_element i a here holds) (to_member j b name value there named held) =
        absurd (two_kinds i j a b here there)
    one_step s t x y (to_member i a name value here named holds) (to_element j b there held) =
        absurd (two_kinds j i b a there here)
    one_step s t x y (to_member i a name value here named holds)
        (to_member j b other inner there naming held) =
        let index = one_end 123 125 (IsMemberOver levels left) old member_leaves_one i j a b here
        there (member_lasts name a value named holds) (member_lasts other b inner naming held) in
        let item = one_item 123 125 (IsMemberOver levels left) old member_leaves_one i j a b here
        there index in
        let P : List ℕ → Type 0 = λ z. ReadsName name z value in
        let both = one_name name other b value inner (subst P item named) naming in
        (ap member both.0, both.1)
