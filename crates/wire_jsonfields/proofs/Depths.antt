-- How many levels what is written has.
use Rattle.std.proofs.Common.{◌≡◌, ℕ, suc, ◌≤◌, List, [], ◌∷◌, Option, Some, None, inl, inr, refl, ap, arith}
use Rattle.std.specs.List.{AllByRecursion}
use Rattle.wire_json.specs.Json.{Json, null, array, object, Elements, no_element, element, Members, no_member, member, depth, elements_depth, members_depth}
use Rattle.wire_jsonfields.specs.Fields.{IsSomeTree}
use Rattle.wire_jsonfields.specs.Flat.{AreFlat, flat_tree}
use Rattle.wire_jsonfields.specs.Levels.{NestsWithin}
use Rattle.wire_jsonfields.specs.Lists.{AreTrees, IsListTree}
use Rattle.wire_jsonfields.specs.Maps.{AreEntryTrees, IsMapTree}
use Rattle.wire_jsonfields.specs.Messages.{IsFieldTree, members_joined}
use Rattle.wire_jsonfields.specs.Oneofs.{IsMemberTree}

-- a scalar has no more levels than there may be
pub flat_within : {V : Type 0} (Tree : V → Json → Type 0) → AreFlat Tree → (levels : ℕ) (v : V)
    → NestsWithin levels Tree v
flat_within Tree flat levels v json is =
    let none = flat v json is in
    omega (arith, none)

-- ---- kinds

module _ {V : Type 0} (Tree : V → Json → Type 0) (levels : ℕ) where
  pub some_within : ((v : V) → NestsWithin levels Tree v) → (o : Option V)
      → NestsWithin levels (IsSomeTree Tree) o
  some_within h (Some v) json is = h v json is
  some_within h None json is =
      let flat = flat_tree null refl json is in
      omega (arith, flat)

  elements_within : (vs : List V) (es : Elements) → AllByRecursion (NestsWithin levels Tree) vs
      → AreTrees Tree vs es → elements_depth es ≤ levels
  elements_within [] no_element h t = omega arith
  elements_within (v ∷ vs) (element e es) h t =
      let first = h.0 e t.0 in
      let more = elements_within vs es h.1 t.1 in
      omega (arith, first, more)
  elements_within [] (element e es) h t = absurd t
  elements_within (v ∷ vs) no_element h t = absurd t

  pub list_within : (vs : List V) → AllByRecursion (NestsWithin levels Tree) vs
      → NestsWithin (suc levels) (IsListTree Tree) vs
  list_within vs h json (es, trees, is) =
      let deep = elements_within vs es h trees in
      let same : depth json ≡ depth (array es) = ap depth is in
      omega (arith, deep, same)

  module _ {K : Type 0} (name : K → List ℕ) where
    entries_within : (m : List (K × V)) (ms : Members)
        → AllByRecursion (λ e. NestsWithin levels Tree e.1) m → AreEntryTrees name Tree m ms
        → members_depth ms ≤ levels
    entries_within [] no_member h t = omega arith
    entries_within (e ∷ es) (member text json ms) h t =
        let first = h.0 json t.1 in
        let more = entries_within es ms h.1 t.2 in
        omega (arith, first, more)
    entries_within [] (member text json ms) h t = absurd t
    entries_within (e ∷ es) no_member h t = absurd t

    pub map_within : (m : List (K × V)) → AllByRecursion (λ e. NestsWithin levels Tree e.1) m
        → NestsWithin (suc levels) (IsMapTree name Tree) m
    map_within m h json (ms, trees, is) =
        let deep = entries_within m ms h trees in
        let same : depth json ≡ depth (object ms) = ap depth is in
        omega (arith, deep, same)

-- ---- messages

depth_of_one : (name : List ℕ) (e : Json) (levels : ℕ) (ms : Members) → depth e ≤ levels
    → ms ≡ member name e no_member → members_depth ms ≤ levels
depth_of_one name e levels ms deep is =
    let same : members_depth ms ≡ members_depth (member name e no_member) = ap members_depth is in
    omega (arith, deep, same)

pub none_within : (levels : ℕ) (ms : Members) → ms ≡ no_member → members_depth ms ≤ levels
none_within levels ms is =
    let same : members_depth ms ≡ 0 = ap members_depth is in
    omega (arith, same)

module _ {V : Type 0} (Tree : V → Json → Type 0) (name : List ℕ) (levels : ℕ) (v : V)
    (ms : Members) (within : NestsWithin levels Tree v) where
  pub member_within : IsMemberTree Tree name v ms → members_depth ms ≤ levels
  member_within (e, is, one) = depth_of_one name e levels ms (within e is) one

  pub field_within : (absent : V) → IsFieldTree absent Tree name v ms → members_depth ms ≤ levels
  field_within absent (inl (is, none)) = none_within levels ms none
  field_within absent (inr (other, (e, is, one))) = depth_of_one name e levels ms (within e is) one

pub joined_within : (levels : ℕ) (ms others : Members) → members_depth ms ≤ levels
    → members_depth others ≤ levels → members_depth (members_joined ms others) ≤ levels
joined_within levels no_member others h k = k
joined_within levels (member n e ms) others h k =
    let more = joined_within levels ms others (omega (arith, h)) k in
    omega (arith, h, more)
