-- Members whose names are known.
use Rattle.std.proofs.Common.{ℕ, List, [], ◌∷◌, sym, subst}
use Rattle.std.specs.Cow.{cow_str_bytes}
use Rattle.wire_json.specs.Json.{Members, no_member, member}
use Rattle.wire_jsonfields.specs.declared.object.PlacedMember.{PlacedMember}
use Rattle.wire_jsonfields.specs.Fields.{EachKnown}
use Rattle.wire_jsonfields.specs.Objects.{ArePlaced}

module _ (Known : List ℕ → Type 0) (text : List ℕ) where
  -- the members before these are known, so all are where what is left is
  pub record Checked (rest : List PlacedMember) (ms : Members) : Type 0 where
    pub left : Members
    pub are : ArePlaced text rest left
    pub whole : EachKnown Known left → EachKnown Known ms
    pub behind : EachKnown Known ms → EachKnown Known left

  pub from_first : (entries : List PlacedMember) (ms : Members) → ArePlaced text entries ms
      → Checked entries ms
  from_first entries ms h = record { left = ms; are = h; whole = λ k. k; behind = λ k. k }

  step : (entry : PlacedMember) (rest : List PlacedMember) (ms left : Members)
      → ArePlaced text (entry ∷ rest) left → (EachKnown Known left → EachKnown Known ms)
      → (EachKnown Known ms → EachKnown Known left) → Known (cow_str_bytes entry.name)
      → Checked rest ms
  step entry rest ms no_member are whole behind known = absurd are
  step entry rest ms (member name e left) are whole behind known = record {
    left = left;
    are = are.2;
    whole = λ k. whole (subst Known are.0 known, k);
    behind = λ k. (behind k).1;
  }

  pub known_next : (entry : PlacedMember) (rest : List PlacedMember) (ms : Members) → Checked (entry ∷ rest) ms
      → Known (cow_str_bytes entry.name) → Checked rest ms
  known_next entry rest ms s known = step entry rest ms s.left s.are s.whole s.behind known

  stop : (entry : PlacedMember) (rest : List PlacedMember) (left : Members)
      → ArePlaced text (entry ∷ rest) left → EachKnown Known left
      → Known (cow_str_bytes entry.name)
  stop entry rest no_member are k = absurd are
  stop entry rest (member name e left) are k = subst Known (sym are.0) k.0

  pub not_known : (entry : PlacedMember) (rest : List PlacedMember) (ms : Members) → Checked (entry ∷ rest) ms
      → (Known (cow_str_bytes entry.name) → ⊥) → EachKnown Known ms → ⊥
  not_known entry rest ms s other k = other (stop entry rest s.left s.are (s.behind k))

  all_left : (left : Members) → ArePlaced text [] left → EachKnown Known left
  all_left no_member are = tt
  all_left (member name e left) are = absurd are

  pub all_known : (ms : Members) → Checked [] ms → EachKnown Known ms
  all_known ms s = s.whole (all_left s.left s.are)
