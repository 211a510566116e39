-- What is written of a message is read as that message.
use Rattle.std.proofs.Common.{◌≡◌, ◌≢◌, ℕ, zero, suc, ◌<◌, Bool, true, false, ◌&&◌, nat_lt, slice_index, arith, List, [], ◌∷◌, ◌++◌, inl, inr, refl, sym, ap, subst}
use Rattle.std.proofs.lemmas.Bool.Decides.{nat_tests}
use Rattle.std.proofs.lemmas.Str.{IsUtf8-from_ascii}
use Rattle.std.specs.Prelude.{IsUtf8, IsAscii}
use Rattle.wire_json.specs.Json.{Json, null, boolean, number, string, array, object, Members, no_member, member, AreLawfulMembers}
use Rattle.wire_jsonfields.specs.Back.{IsBack}
use Rattle.wire_jsonfields.specs.Fields.{EachKnown, MeansUnlessNull, ValuesMean}
use Rattle.wire_jsonfields.specs.Messages.{IsFieldTree, members_joined}
use Rattle.wire_jsonfields.specs.Objects.{AreValuesOf}

-- ---- names

abbrev pub all_ascii : List ℕ → Bool
all_ascii [] = true
all_ascii (b ∷ bytes) = nat_lt b 128 && all_ascii bytes

both_true : (a b : Bool) → (a && b) ≡ true → (a ≡ true) × (b ≡ true)
both_true true b h = (refl, h)
both_true false b h = absurd cc

each_ascii : (bytes : List ℕ) → all_ascii bytes ≡ true → IsAscii bytes
each_ascii [] h = λ i. omega arith
each_ascii (b ∷ bytes) h =
    let (first, rest) = both_true (nat_lt b 128) (all_ascii bytes) h in
    let more = each_ascii bytes rest in
    let small : b < 128 = grind (arith, nat_tests) in
    λ i. at i small more
  where
    at : (i : ℕ) → b < 128 → IsAscii bytes → slice_index (b ∷ bytes) i < 128
    at zero small more = small
    at (suc i) small more = more i

-- a name of ASCII
pub name_is_text : (name : List ℕ) → all_ascii name ≡ true → IsUtf8 name
name_is_text name h = IsUtf8-from_ascii name (each_ascii name h)

-- ---- members behind others

pub lawful_joined : (ms others : Members) → AreLawfulMembers ms → AreLawfulMembers others
    → AreLawfulMembers (members_joined ms others)
lawful_joined no_member others h k = k
lawful_joined (member n e ms) others h k = (h.0, h.1, lawful_joined ms others h.2 k)

pub known_joined : (Known : List ℕ → Type 0) (ms others : Members) → EachKnown Known ms
    → EachKnown Known others → EachKnown Known (members_joined ms others)
known_joined Known no_member others h k = k
known_joined Known (member n e ms) others h k = (h.0, known_joined Known ms others h.1 k)

pub values_joined : (Named : List ℕ → Type 0) (ms others : Members) (xs ys : List Json)
    → AreValuesOf Named ms xs → AreValuesOf Named others ys
    → AreValuesOf Named (members_joined ms others) (xs ++ ys)
values_joined Named no_member others xs ys p q =
    subst (λ (l : List Json). AreValuesOf Named others (l ++ ys)) (sym p) q
values_joined Named (member n e ms) others xs ys (inl (mine, (rest, is, p))) q =
    inl (
      mine,
      (
        rest ++ ys,
        ap (λ (l : List Json). l ++ ys) is,
        values_joined Named ms others rest ys p q,
      ),
    )
values_joined Named (member n e ms) others xs ys (inr (other, p)) q =
    inr (other, values_joined Named ms others xs ys p q)

-- a value that is not `null`
module _ {V : Type 0} (default : V) (Means : Json → V → Type 0) where
  pub unless_null : (e : Json) (v : V) → (e ≡ null → ⊥) → Means e v → MeansUnlessNull default Means e v
  unless_null null v other m = absurd (other refl)
  unless_null (boolean b) v other m = m
  unless_null (number text) v other m = m
  unless_null (string bytes) v other m = m
  unless_null (array es) v other m = m
  unless_null (object ms) v other m = m

-- ---- one field

module _ {V : Type 0} (absent : V) (Means : Json → V → Type 0) (Tree : V → Json → Type 0)
    (name : List ℕ) (v : V) (ms : Members) (tree : IsFieldTree absent Tree name v ms) where
  pub field_lawful : IsUtf8 name → ((e : Json) → v ≢ absent → Tree v e → IsBack Means e v)
      → AreLawfulMembers ms
  field_lawful utf8 back = by_tree tree
    where
      by_tree : IsFieldTree absent Tree name v ms → AreLawfulMembers ms
      by_tree (inl (is, none)) = subst AreLawfulMembers (sym none) tt
      by_tree (inr (other, (e, is, one))) =
          subst AreLawfulMembers (sym one) (utf8, (back e other is).lawful, tt)

  pub field_known : (Known : List ℕ → Type 0) → Known name → EachKnown Known ms
  field_known Known known = by_tree tree
    where
      by_tree : IsFieldTree absent Tree name v ms → EachKnown Known ms
      by_tree (inl (is, none)) = subst (EachKnown Known) (sym none) tt
      by_tree (inr (other, (e, is, one))) = subst (EachKnown Known) (sym one) (known, tt)

  -- the values of its own name
  pub field_values : (Named : List ℕ → Type 0) → Named name
      → ((e : Json) → v ≢ absent → Tree v e → IsBack Means e v)
      → (values : List Json) × AreValuesOf Named ms values × ValuesMean absent Means values v
  field_values Named mine back = by_tree tree
    where
      P : List Json → Members → Type 0
      P values l = AreValuesOf Named l values

      by_tree : IsFieldTree absent Tree name v ms
          → (values : List Json) × AreValuesOf Named ms values × ValuesMean absent Means values v
      by_tree (inl (is, none)) = ([], subst (P []) (sym none) refl, is)
      by_tree (inr (other, (e, is, one))) =
          let b = back e other is in (
            e ∷ [],
            subst (P (e ∷ [])) (sym one) (inl (mine, ([], refl, refl))),
            unless_null absent Means e v b.present b.means,
          )
