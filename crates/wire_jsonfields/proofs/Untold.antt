-- What holds a value that has no text has none.
use Rattle.std.proofs.Common.{◌≡◌, ◌≢◌, ℕ, Bool, List, [], ◌∷◌, ◌++◌, Option, Some, None, refl, subst}
use Rattle.std.proofs.lemmas.Result.{IfErr-weaker}
use Rattle.std.specs.Prelude.{Result, IfErr, option_map}
use Rattle.wire_json.specs.Json.{Json, Elements, no_element, element, Members, no_member, member}
use Rattle.wire_protojson.specs.declared.refusal.WriteError.{WriteError}
use Rattle.wire_protojson.specs.declared.refusal.WriteError.TheVariants.{OutOfMemory}
use Rattle.wire_jsonfields.specs.Choices.{either_seen}
use Rattle.wire_jsonfields.specs.Lists.{AreTrees, IsListTree}
use Rattle.wire_jsonfields.specs.Maps.{AreEntryTrees, IsMapTree}
use Rattle.wire_jsonfields.specs.Oneofs.{EitherTrees, OneofTrees}
use Rattle.wire_jsonfields.specs.Told.{HasNoTree}
use Rattle.wire_jsonfields.proofs.ListPuts.{ListPut}
use Rattle.wire_jsonfields.proofs.MapPuts.{MapPut}

module _ {V : Type 0} (Tree : V → Json → Type 0) where
  no_elements : (done : List V) (v : V) (left : List V) (es : Elements) → HasNoTree Tree v
      → AreTrees Tree (done ++ v ∷ left) es → ⊥
  no_elements [] v left (element e es) none h = none e h.0
  no_elements [] v left no_element none h = absurd h
  no_elements (w ∷ done) v left (element e es) none h = no_elements done v left es none h.1
  no_elements (w ∷ done) v left no_element none h = absurd h

  pub list_untold : (all left : List V) (v : V) (old out : List ℕ) (first : Bool)
      → ListPut Tree all (v ∷ left) old out first → HasNoTree Tree v
      → HasNoTree (IsListTree Tree) all
  list_untold all left v old out first s none json (es, trees, is) =
      no_elements s.done v left es none
      (subst (λ (l : List V). AreTrees Tree l es) s.parts trees)

module _ {K V : Type 0} (name : K → List ℕ) (Tree : V → Json → Type 0) where
  no_entries : (done : List (K × V)) (e : K × V) (left : List (K × V)) (ms : Members)
      → HasNoTree Tree e.1 → AreEntryTrees name Tree (done ++ e ∷ left) ms → ⊥
  no_entries [] e left (member n j ms) none h = none j h.1
  no_entries [] e left no_member none h = absurd h
  no_entries (d ∷ done) e left (member n j ms) none h = no_entries done e left ms none h.2
  no_entries (d ∷ done) e left no_member none h = absurd h

  pub map_untold : (all here left : List (K × V)) (e : K × V) (old out : List ℕ) (first : Bool)
      → MapPut name Tree all here old out first → here ≡ e ∷ left → HasNoTree Tree e.1
      → HasNoTree (IsMapTree name Tree) all
  map_untold all here left e old out first s is none json (ms, trees, same) =
      no_entries s.done e left ms none
      (subst (λ (l : List (K × V)). AreEntryTrees name Tree (s.done ++ l) ms) is
      (subst (λ (l : List (K × V)). AreEntryTrees name Tree l ms) s.parts trees))

module _ {V W : Type 0} (P : V → Members → Type 0) (Q : W → Members → Type 0) where
  pub this_untold : (o : Option V) (p : Option W) → o ≢ None → HasNoTree (OneofTrees P) o
      → HasNoTree (OneofTrees (EitherTrees P Q)) (either_seen o p)
  this_untold None p some none = absurd (some refl)
  this_untold (Some v) p some none = λ ms h. none ms h

  pub that_untold : (o : Option V) (p : Option W) → o ≡ None → HasNoTree (OneofTrees Q) p
      → HasNoTree (OneofTrees (EitherTrees P Q)) (either_seen o p)
  that_untold (Some v) p is none = absurd cc
  that_untold None (Some w) is none = λ ms h. none ms h
  that_untold None None is none = λ ms h. none ms h

-- a member of a oneof, of what is held where the oneof is that
held_untold : {B A V : Type 0} (Trees : V → Members → Type 0) (now : B → A) (view : A → V)
    (found : Option B) (held : Option A) → option_map now found ≡ held
    → HasNoTree (OneofTrees Trees) (option_map (λ h. view (now h)) found)
    → HasNoTree (OneofTrees Trees) (option_map view held)
held_untold Trees now view None held is none =
    subst (λ o. HasNoTree (OneofTrees Trees) (option_map view o)) is none
held_untold Trees now view (Some h) held is none =
    subst (λ o. HasNoTree (OneofTrees Trees) (option_map view o)) is none

pub chosen_untold : {B A V T : Type 0} (Trees : V → Members → Type 0) (now : B → A) (view : A → V)
    (found : Option B) (held : Option A) → option_map now found ≡ held → (r : Result T WriteError)
    → IfErr r (λ e. e ≢ OutOfMemory
    → HasNoTree (OneofTrees Trees) (option_map (λ h. view (now h)) found))
    → IfErr r (λ e. e ≢ OutOfMemory → HasNoTree (OneofTrees Trees) (option_map view held))
chosen_untold Trees now view found held is r untold =
    IfErr-weaker r _ _ (λ e h other. held_untold Trees now view found held is (h other)) untold
