-- The text of a list, element by element.
use Rattle.std.proofs.Common.{◌≡◌, ℕ, zero, suc, ◌+◌, ◌<◌, ◌≤◌, Bool, true, false, List, [], ◌∷◌, ◌++◌, length, map, drop, slice_index_or, refl, sym, ap, ◌∙◌, subst, arith, append_assoc, append-nil}
use Rattle.std.proofs.Math.Seq.{drop-cons}
use Rattle.wire_json.specs.Compact.{Extends}
use Rattle.wire_json.specs.Json.{Json, array, Elements, no_element, element}
use Rattle.wire_json.specs.Written.{written, written_elements, written_more}
use Rattle.wire_jsonfields.specs.Messages.{comma_unless}
use Rattle.wire_jsonfields.specs.Lists.{AreTrees, IsListTree, elements_behind, elements_joined, elements_text, is_no_element}

-- what extends what extends the text extends it
pub extends_more : (old mid new : List ℕ) → Extends old mid → Extends mid new → Extends old new
extends_more old mid new (a, is) (b, more) =
    (a ++ b, more ∙ ap (λ (l : List ℕ). l ++ b) is ∙ append_assoc old a b)

behind_more : (es : Elements) (e : Json) → elements_behind (elements_joined es (element e no_element))
    ≡ elements_behind es ++ (44 ∷ (written e ++ []))
behind_more no_element e = refl
behind_more (element j es) e =
    ap (λ (l : List ℕ). 44 ∷ (written j ++ l)) (behind_more es e)
    ∙ ap (λ (l : List ℕ). 44 ∷ l)
    (sym (append_assoc (written j) (elements_behind es) (44 ∷ (written e ++ []))))

text_more : (es : Elements) (e : Json) → is_no_element es ≡ false
    → elements_text (elements_joined es (element e no_element))
    ≡ elements_text es ++ (44 ∷ (written e ++ []))
text_more no_element e some = absurd cc
text_more (element j es) e some =
    ap (λ (l : List ℕ). written j ++ l) (behind_more es e)
    ∙ sym (append_assoc (written j) (elements_behind es) (44 ∷ (written e ++ [])))

text_one : (es : Elements) (e : Json) → is_no_element es ≡ true
    → elements_text (elements_joined es (element e no_element)) ≡ written e ++ []
text_one no_element e none = refl
text_one (element j es) e none = absurd cc

no_text : (es : Elements) → is_no_element es ≡ true → elements_text es ≡ []
no_text no_element none = refl
no_text (element j es) none = absurd cc

not_empty : (es : Elements) (e : Json)
    → false ≡ is_no_element (elements_joined es (element e no_element))
not_empty no_element e = refl
not_empty (element j es) e = refl

more_closed : (es : Elements) → written_more es ≡ elements_behind es ++ 93 ∷ []
more_closed no_element = refl
more_closed (element e es) =
    ap (λ (l : List ℕ). 44 ∷ (written e ++ l)) (more_closed es)
    ∙ ap (λ (l : List ℕ). 44 ∷ l) (sym (append_assoc (written e) (elements_behind es) (93 ∷ [])))

all_closed : (es : Elements) → written_elements es ≡ elements_text es ++ 93 ∷ []
all_closed no_element = refl
all_closed (element e es) =
    ap (λ (l : List ℕ). written e ++ l) (more_closed es)
    ∙ sym (append_assoc (written e) (elements_behind es) (93 ∷ []))

trees_more : {V : Type 0} (Tree : V → Json → Type 0) (vs : List V) (es : Elements) (v : V) (e : Json)
    → AreTrees Tree vs es → Tree v e
    → AreTrees Tree (vs ++ v ∷ []) (elements_joined es (element e no_element))
trees_more Tree [] no_element v e h t = (t, tt)
trees_more Tree (w ∷ vs) (element j es) v e h t = (h.0, trees_more Tree vs es v e h.1 t)
trees_more Tree [] (element j es) v e h t = absurd h
trees_more Tree (w ∷ vs) no_element v e h t = absurd h

-- the values before those that are left have their text
pub record ListPut {V : Type 0} (Tree : V → Json → Type 0) (all left : List V)
    (old out : List ℕ) (first : Bool) : Type 0 where
  pub done : List V
  pub es : Elements
  pub parts : all ≡ done ++ left
  pub trees : AreTrees Tree done es
  pub text : out ≡ old ++ (91 ∷ elements_text es)
  pub none : first ≡ is_no_element es

module _ {V : Type 0} (Tree : V → Json → Type 0) (all : List V) (old : List ℕ) where
  pub list_begun : (out : List ℕ) → out ≡ old ++ 91 ∷ [] → ListPut Tree all all old out true
  list_begun out put = record {
    done = [];
    es = no_element;
    parts = refl;
    trees = tt;
    text = put;
    none = refl;
  }

  module _ (left : List V) (v : V) (out : List ℕ) (first : Bool)
      (s : ListPut Tree all (v ∷ left) old out first) (e : Json) (tree : Tree v e)
      (mid new : List ℕ) (put : new ≡ mid ++ written e) where
    grown : Elements
    grown = elements_joined s.es (element e no_element)

    text_is : elements_text grown ≡ elements_text grown → new ≡ old ++ (91 ∷ elements_text grown)
        → ListPut Tree all left old new false
    unfolding grown
    text_is h text = record {
      done = s.done ++ v ∷ [];
      es = elements_joined s.es (element e no_element);
      parts = s.parts ∙ sym (append_assoc s.done (v ∷ []) left);
      trees = trees_more Tree s.done s.es v e s.trees tree;
      text = text;
      none = not_empty s.es e;
    }

    put_first : first ≡ true → mid ≡ out → ListPut Tree all left old new false
    unfolding grown
    put_first is same =
        let none = sym s.none ∙ is in
        text_is refl (put ∙ ap (λ (l : List ℕ). l ++ written e) (same ∙ s.text)
        ∙ ap (λ (l : List ℕ). (old ++ (91 ∷ l)) ++ written e) (no_text s.es none)
        ∙ append_assoc old (91 ∷ []) (written e)
        ∙ ap (λ (l : List ℕ). old ++ (91 ∷ l))
        (sym (append-nil (written e)) ∙ sym (text_one s.es e none)))

    put_next : first ≡ false → mid ≡ out ++ 44 ∷ [] → ListPut Tree all left old new false
    unfolding grown
    put_next is comma =
        let some = sym s.none ∙ is in
        text_is refl (put ∙ ap (λ (l : List ℕ). l ++ written e) comma
        ∙ append_assoc out (44 ∷ []) (written e)
        ∙ ap (λ (l : List ℕ). l ++ (44 ∷ written e)) s.text
        ∙ append_assoc old (91 ∷ elements_text s.es) (44 ∷ written e)
        ∙ ap (λ (l : List ℕ). old ++ (91 ∷ (elements_text s.es ++ (44 ∷ l))))
        (sym (append-nil (written e)))
        ∙ ap (λ (l : List ℕ). old ++ (91 ∷ l)) (sym (text_more s.es e some)))

    pub put_one : (b : Bool) → first ≡ b → mid ≡ out ++ comma_unless b
        → ListPut Tree all left old new false
    put_one true is comma = put_first is (comma ∙ append-nil out)
    put_one false is comma = put_next is comma

  pub list_whole : (out : List ℕ) (first : Bool) (new : List ℕ) → ListPut Tree all [] old out first
      → new ≡ out ++ 93 ∷ []
      → (json : Json) × IsListTree Tree all json × (new ≡ old ++ written json)
  list_whole out first new s put = (
    array s.es,
    (
      s.es,
      subst (λ (l : List V). AreTrees Tree l s.es) (sym (s.parts ∙ append-nil s.done)) s.trees,
      refl,
    ),
    put ∙ ap (λ (l : List ℕ). l ++ 93 ∷ []) s.text
        ∙ append_assoc old (91 ∷ elements_text s.es) (93 ∷ [])
        ∙ ap (λ (l : List ℕ). old ++ (91 ∷ l)) (sym (all_closed s.es)),
  )

-- ---- at an index

pub value_next : {A V : Type 0} (view : A → V) (list : List A) (i : ℕ) (item : A)
    → i < length list → item ≡ slice_index_or list i item
    → map view (drop i list) ≡ view item ∷ map view (drop (i + 1) list)
value_next view list i item within is =
    let next : suc i ≡ i + 1 = omega arith in
    ap (map view) (drop-cons list i item within)
    ∙ ap (λ x. view x ∷ map view (drop (suc i) list)) (sym is)
    ∙ ap (λ (k : ℕ). view item ∷ map view (drop k list)) next

drop_past : {A : Type 0} (xs : List A) (k : ℕ) → length xs ≤ k → drop k xs ≡ []
drop_past [] zero h = refl
drop_past [] (suc k) h = refl
drop_past (x ∷ xs) zero h = absurd (omega (arith, h))
drop_past (x ∷ xs) (suc k) h = drop_past xs k (omega (arith, h))

pub none_left : {A V : Type 0} (view : A → V) (list : List A) (i : ℕ) → length list ≤ i
    → map view (drop i list) ≡ []
none_left view list i past = ap (map view) (drop_past list i past)
