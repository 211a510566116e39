-- How many of the open groups the schema lacks.
use Rattle.std.specs.Prelude.{◌≡◌, ℕ, suc, ◌+◌, List, [], ◌∷◌, length, Option, None, Some, IfSome, IfNone}
use Rattle.std.proofs.Common.{ap, arith, refl, subst, sym, ◌∙◌}
use Rattle.wire_base.specs.Items.{Item, start, end, whole}
use Rattle.wire_read.specs.declared.event.Value.{Value}
use Rattle.wire_read.specs.Reading.{At, Moves, item}
use Rattle.wire_dynamic.specs.declared.schema.Schema.{Schema}
use Rattle.wire_dynamic.specs.Walks.{count_unknown, innermost, unknown_groups}
use Rattle.wire_dynamic.proofs.Open.{none_within}

-- none where the type of the message that stands innermost is known
pub none_unknown : (s : Schema) (root : ℕ) (groups : List ℕ) (place : ℕ)
    → innermost s root groups ≡ Some place → unknown_groups s root groups ≡ 0
none_unknown s root [] place known = refl
none_unknown s root (n ∷ outside) place known =
    ap (λ (m : Option ℕ). count_unknown m (unknown_groups s root outside)) known

-- one more within a group that is lacking
pub one_unknown : (s : Schema) (root n : ℕ) (outside : List ℕ)
    → innermost s root (n ∷ outside) ≡ None
    → unknown_groups s root (n ∷ outside) ≡ suc (unknown_groups s root outside)
one_unknown s root n outside lacking =
    ap (λ (m : Option ℕ). count_unknown m (unknown_groups s root outside)) lacking

-- what stands in one that is lacking is lacking too
pub still_unknown : (s : Schema) (root n : ℕ) (outside : List ℕ)
    → innermost s root outside ≡ None
    → unknown_groups s root (n ∷ outside) ≡ suc (unknown_groups s root outside)
still_unknown s root n outside lacking =
    one_unknown s root n outside (none_within s root (n ∷ []) outside lacking)

-- an item that leads where the schema lacks the innermost group leaves those that it has
moved : (s : Schema) (root : ℕ) (i : Item) (a b : At) (behind : List ℕ) (known : ℕ)
    → Moves i a behind b → known + unknown_groups s root a.groups ≡ length a.groups
    → innermost s root b.groups ≡ None → known + unknown_groups s root b.groups ≡ length b.groups
moved s root (start n) a b behind known (opens, is, groups, limits) counts lacking =
    let here : innermost s root (n ∷ a.groups) ≡ None =
    ap (innermost s root) (sym groups) ∙ lacking in
    omega (
      arith,
      counts,
      ap length groups,
      ap (unknown_groups s root) groups,
      one_unknown s root n a.groups here,
    )
moved s root (end n) a b behind known (tag, is, groups, limits) counts lacking =
    omega (
      arith,
      counts,
      ap length groups,
      ap (unknown_groups s root) groups,
      still_unknown s root n b.groups lacking,
    )
moved s root (whole n p) a b behind known (tag, taken, flat, groups, left) counts lacking =
    omega (arith, counts, ap length groups, ap (unknown_groups s root) groups)

-- how many the schema has behind an event
pub known_behind : (s : Schema) (root n : ℕ) (v : Value) (a b : At) (behind : List ℕ)
    (known : ℕ) (innermost_is : Option ℕ) (now : ℕ)
    → Moves (item n v) a behind b → known + unknown_groups s root a.groups ≡ length a.groups
    → innermost_is ≡ innermost s root b.groups
    → IfSome innermost_is (λ _. now ≡ length b.groups) → IfNone innermost_is (now ≡ known)
    → now + unknown_groups s root b.groups ≡ length b.groups
known_behind s root n v a b behind known None now moves counts is some none =
    subst (λ (x : ℕ). x + unknown_groups s root b.groups ≡ length b.groups) (sym none)
    (moved s root (item n v) a b behind known moves counts (sym is))
known_behind s root n v a b behind known (Some place) now moves counts is some none =
    omega (arith, some, none_unknown s root b.groups place (sym is))
