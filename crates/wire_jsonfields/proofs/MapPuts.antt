-- The text of a map, entry by entry.
use Rattle.std.proofs.Common.{◌≡◌, ℕ, Bool, true, false, List, [], ◌∷◌, ◌++◌, refl, sym, ap, ◌∙◌, subst, append_assoc, append-nil}
use Rattle.wire_json.specs.Json.{Json, Members, no_member, member}
use Rattle.wire_json.specs.Written.{written}
use Rattle.wire_jsonfields.specs.Maps.{AreEntryTrees, IsMapTree}
use Rattle.wire_jsonfields.specs.Messages.{members_joined, text_of_members}
use Rattle.wire_jsonfields.proofs.Membering.{Begun, begun, not_first, with_field, written_whole}

-- the entries before those that are left have their text
pub record MapPut {K V : Type 0} (name : K → List ℕ) (Tree : V → Json → Type 0)
    (all left : List (K × V)) (old out : List ℕ) (first : Bool) : Type 0 where
  pub done : List (K × V)
  pub ms : Members
  pub parts : all ≡ done ++ left
  pub trees : AreEntryTrees name Tree done ms
  pub text : Begun old out first ms

module _ {K V : Type 0} (name : K → List ℕ) (Tree : V → Json → Type 0) where
  trees_more : (es : List (K × V)) (ms : Members) (e : K × V) (json : Json)
      → AreEntryTrees name Tree es ms → Tree e.1 json
      → AreEntryTrees name Tree (es ++ e ∷ []) (members_joined ms (member (name e.0) json no_member))
  trees_more [] no_member e json h t = (refl, t, tt)
  trees_more (d ∷ es) (member n j ms) e json h t = (h.0, h.1, trees_more es ms e json h.2 t)
  trees_more [] (member n j ms) e json h t = absurd h
  trees_more (d ∷ es) no_member e json h t = absurd h

  module _ (all : List (K × V)) (old : List ℕ) where
    pub map_begun : (out : List ℕ) → out ≡ old ++ 123 ∷ [] → MapPut name Tree all all old out true
    map_begun out put = record {
      done = [];
      ms = no_member;
      parts = refl;
      trees = tt;
      text = begun old out put;
    }

    pub map_more : (here left : List (K × V)) (e : K × V) (out : List ℕ) (first : Bool)
        → MapPut name Tree all here old out first → here ≡ e ∷ left → (json : Json)
        → Tree e.1 json → (new : List ℕ)
        → new ≡ out ++ text_of_members first (member (name e.0) json no_member)
        → MapPut name Tree all left old new false
    map_more here left e out first s is json tree new put = record {
      done = s.done ++ e ∷ [];
      ms = members_joined s.ms (member (name e.0) json no_member);
      parts = s.parts ∙ ap (λ (l : List (K × V)). s.done ++ l) is
          ∙ sym (append_assoc s.done (e ∷ []) left);
      trees = trees_more s.done s.ms e json s.trees tree;
      text = with_field old out first s.ms new false (member (name e.0) json no_member) s.text put
          (not_first first);
    }

    pub map_whole : (left : List (K × V)) (out : List ℕ) (first : Bool)
        → MapPut name Tree all left old out first → left ≡ [] → (new : List ℕ)
        → new ≡ out ++ 125 ∷ []
        → (json : Json) × IsMapTree name Tree all json × (new ≡ old ++ written json)
    map_whole left out first s none new put =
        let is : all ≡ s.done =
        s.parts ∙ ap (λ (l : List (K × V)). s.done ++ l) none ∙ append-nil s.done in
        let P : List (K × V) → Type 0 = λ l. AreEntryTrees name Tree l s.ms in
        written_whole (AreEntryTrees name Tree) all old out first s.ms s.text
        (subst P (sym is) s.trees) new put
