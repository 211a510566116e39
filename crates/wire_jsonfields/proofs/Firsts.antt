-- A search for the first entry of which something holds.
use Rattle.std.proofs.Common.{◌≡◌, ℕ, ◌+◌, ◌<◌, ◌≤◌, List, ◌∷◌, length, drop, slice_index_or, inl, inr, refl, subst}
use Rattle.wire_jsonfields.specs.declared.object.PlacedMember.{PlacedMember}
use Rattle.wire_jsonfields.specs.Firsts.{HoldsOfNone, StandsFirst}
use Rattle.wire_jsonfields.proofs.MapReads.{next_member, no_members_left}

module _ (Holds : PlacedMember → Type 0) (entries : List PlacedMember) where
  -- it holds of none before these
  pub record NoneBefore (left : List PlacedMember) : Type 0 where
    pub first : (entry : PlacedMember) (behind : List PlacedMember) → StandsFirst Holds left entry behind
        → StandsFirst Holds entries entry behind
    pub none : HoldsOfNone Holds left → HoldsOfNone Holds entries

  pub at_start : NoneBefore entries
  at_start = record { first = λ entry behind h. h; none = λ h. h }

  past_one : (entry : PlacedMember) (left : List PlacedMember) → NoneBefore (entry ∷ left) → (Holds entry → ⊥)
      → NoneBefore left
  past_one entry left s other = record {
    first = λ e behind h. s.first e behind (inr (other, h));
    none = λ h. s.none (other, h);
  }

  pub past_index : (i : ℕ) (item : PlacedMember) → i < length entries
      → item ≡ slice_index_or entries i item → NoneBefore (drop i entries)
      → (Holds item → ⊥) → NoneBefore (drop (i + 1) entries)
  past_index i item within is s other =
      past_one item (drop (i + 1) entries)
      (subst NoneBefore (next_member entries i item within is) s) other

  pub found_at : (i : ℕ) (item : PlacedMember) → i < length entries
      → item ≡ slice_index_or entries i item → NoneBefore (drop i entries) → Holds item
      → StandsFirst Holds entries item (drop (i + 1) entries)
  found_at i item within is s holds =
      let here = subst NoneBefore (next_member entries i item within is) s in
      here.first item (drop (i + 1) entries) (inl (holds, refl, refl))

  pub none_at_all : (i : ℕ) → length entries ≤ i → NoneBefore (drop i entries)
      → HoldsOfNone Holds entries
  none_at_all i past s =
      let here = subst NoneBefore (no_members_left entries i past) s in
      here.none tt
