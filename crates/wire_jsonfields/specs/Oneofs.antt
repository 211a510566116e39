-- Oneofs: of several members at most one has a value.
use Rattle.std.proofs.Common.{◌≡◌, ◌⊎◌, inl, inr, ℕ, List, Option, Some, None, sym, ◌∙◌}
use Rattle.wire_json.specs.Json.{Json, Members, no_member, member}
use Rattle.wire_jsonfields.specs.OneValues.{SayOne}

-- the value of one or of the other, but not of both
abbrev pub IsOneOfTwo : {V W : Type 0} → Option V → Option W → Option (V ⊎ W) → Type 0
IsOneOfTwo None None x = x ≡ None
IsOneOfTwo (Some v) None x = x ≡ Some (inl v)
IsOneOfTwo None (Some w) x = x ≡ Some (inr w)
IsOneOfTwo (Some v) (Some w) x = ⊥

-- what members say of a oneof of two, of which the second may be a oneof itself
abbrev pub EitherSays : {V W : Type 0} → (Members → Option V → Type 0)
    → (Members → Option W → Type 0) → Members → Option (V ⊎ W) → Type 0
EitherSays {V} {W} P Q ms x =
    (v : Option V) × (w : Option W) × P ms v × Q ms w × IsOneOfTwo v w x

one_of_two : {V W : Type 0} (v : Option V) (w : Option W) (x y : Option (V ⊎ W))
    → IsOneOfTwo v w x → IsOneOfTwo v w y → x ≡ y
one_of_two None None x y p q = p ∙ sym q
one_of_two (Some v) None x y p q = p ∙ sym q
one_of_two None (Some w) x y p q = p ∙ sym q
one_of_two (Some v) (Some w) x y p q = absurd p

pub one_either : {V W : Type 0} (P : Members → Option V → Type 0) (Q : Members → Option W → Type 0)
    → SayOne P → SayOne Q → SayOne (EitherSays P Q)
one_either P Q p q ms x y (a, b, h, k, is) (c, d, m, n, same) =
    one_of_two c d x y (rw (p ms a c h m, q ms b d k n) at is) same

-- ---- what is written

-- a member of this name
abbrev pub IsMemberTree : {V : Type 0} → (V → Json → Type 0) → List ℕ → V → Members → Type 0
IsMemberTree Tree name v ms = (e : Json) × Tree v e × (ms ≡ member name e no_member)

-- the member of the one that there is
abbrev pub EitherTrees : {V W : Type 0} → (V → Members → Type 0) → (W → Members → Type 0) → V ⊎ W
    → Members → Type 0
EitherTrees P Q (inl v) ms = P v ms
EitherTrees P Q (inr w) ms = Q w ms

abbrev pub OneofTrees : {V : Type 0} → (V → Members → Type 0) → Option V → Members → Type 0
OneofTrees Trees None ms = ms ≡ no_member
OneofTrees Trees (Some v) ms = Trees v ms
