-- The elements of a list so far.
use Rattle.std.proofs.Common.{◌≡◌, ℕ, ◌-◌, ◌≤◌, true, false, List, [], ◌∷◌, ◌++◌, map, drop, refl, sym, ap, ◌∙◌, subst, arith}
use Rattle.wire_json.specs.declared.container.Next.{Next}
use Rattle.wire_json.specs.declared.container.Next.TheVariants.{Item, End}
use Rattle.wire_json.specs.declared.fault.FaultKind.{FaultKind}
use Rattle.wire_json.specs.Bytes.{begins, is_byte, past_space}
use Rattle.wire_json.specs.Container.{FirstItem, NextItem, NoNext, NotOpen}
use Rattle.wire_json.specs.Json.{Json, null, boolean, number, string, array, object, Elements, no_element, element, depth, elements_depth}
use Rattle.wire_json.specs.Reading.{ReadsValue, ReadsElements, ReadsMoreElements}
use Rattle.wire_json.proofs.OneReading.{one_value_lemma}
use Rattle.wire_jsonfields.specs.Levels.{NothingMeant}
use Rattle.wire_jsonfields.specs.Lists.{EachMeans, ListMeans, elements_joined}

joined_more : (so : Elements) (e : Json) (es : Elements)
    → elements_joined (elements_joined so (element e no_element)) es
    ≡ elements_joined so (element e es)
joined_more no_element e es = refl
joined_more (element j so) e es = ap (element j) (joined_more so e es)

joined_nothing : (so : Elements) → elements_joined so no_element ≡ so
joined_nothing no_element = refl
joined_nothing (element j so) = ap (element j) (joined_nothing so)

-- Elements were read from the start on, and one stands at the item: it and what follows it make
-- all, and whatever is read from the start on passes here.
pub record AtElement (start item : List ℕ) (so : Elements) : Type 0 where
  pub whole : (e : Json) (es : Elements) (rest new : List ℕ) → ReadsValue e item rest
      → ReadsMoreElements es rest new → ReadsElements (elements_joined so (element e es)) start new
  pub only : (all : Elements) (new : List ℕ) → ReadsElements all start new
      → (e : Json) × (es : Elements) × (rest : List ℕ)
      × (all ≡ elements_joined so (element e es)) × ReadsValue e item rest
      × ReadsMoreElements es rest new

-- the same behind an element
pub record BehindElement (start rest : List ℕ) (so : Elements) : Type 0 where
  pub whole : (es : Elements) (new : List ℕ) → ReadsMoreElements es rest new
      → ReadsElements (elements_joined so es) start new
  pub only : (all : Elements) (new : List ℕ) → ReadsElements all start new
      → (es : Elements) × (all ≡ elements_joined so es) × ReadsMoreElements es rest new

closes : (b : ℕ) (old new : List ℕ) → old ≡ b ∷ new → begins (is_byte b) (b ∷ new) ≡ true
    → begins (is_byte b) old ≡ false → ⊥
closes b old new is begun other =
    let same : begins (is_byte b) old ≡ begins (is_byte b) (b ∷ new) = ap (begins (is_byte b)) is in
    absurd (unlike (sym other ∙ same ∙ begun))
  where
    unlike : false ≡ true → ⊥
    unlike h = absurd cc

pub at_first : (start : List ℕ) → begins (is_byte 93) (past_space start) ≡ false
    → AtElement start (past_space start) no_element
at_first start other = record {
  whole = λ e es rest new reads more. (rest, reads, more);
  only = λ all new reads. first all new reads;
}
  where
    first : (all : Elements) (new : List ℕ) → ReadsElements all start new
        → (e : Json) × (es : Elements) × (rest : List ℕ)
        × (all ≡ elements_joined no_element (element e es)) × ReadsValue e (past_space start) rest
        × ReadsMoreElements es rest new
    first no_element new close = absurd (closes 93 (past_space start) new close refl other)
    first (element e es) new (rest, reads, more) = (e, es, rest, refl, reads, more)

pub behind_one : (start item : List ℕ) (so : Elements) (e : Json) (rest : List ℕ)
    → AtElement start item so → ReadsValue e item rest
    → BehindElement start rest (elements_joined so (element e no_element))
behind_one start item so e rest s reads = record {
  whole = λ es new more.
      let P : Elements → Type 0 = λ all. ReadsElements all start new in
      subst P (sym (joined_more so e es)) (s.whole e es rest new reads more);
  only = λ all new h.
      let (f, es, behind, is, again, more) = s.only all new h in
      let same = one_value_lemma f e item behind rest again reads in
      let P : List ℕ → Type 0 = λ l. ReadsMoreElements es l new in (
        es,
        is ∙ ap (λ (j : Json). elements_joined so (element j es)) same.0 ∙ sym (joined_more so e es),
        subst P same.1 more,
      );
}

one_next : (n : ℕ) (old x y : List ℕ) → old ≡ n ∷ x → old ≡ n ∷ y → x ≡ y
one_next n old x y p q = cc

two_next : (old x y : List ℕ) → old ≡ 44 ∷ x → old ≡ 93 ∷ y → ⊥
two_next old x y p q = absurd (unlike (sym p ∙ q))
  where
    unlike : 44 ∷ x ≡ 93 ∷ y → ⊥
    unlike h = absurd cc

pub at_next : (start rest : List ℕ) (so : Elements) (next : List ℕ) → BehindElement start rest so
    → past_space rest ≡ 44 ∷ next → AtElement start (past_space next) so
at_next start rest so next s comma = record {
  whole = λ e es behind new reads more.
      s.whole (element e es) new (next, behind, comma, reads, more);
  only = λ all new h.
      let (es, is, more) = s.only all new h in
      further all new es is more;
}
  where
    further : (all : Elements) (new : List ℕ) (es : Elements) → all ≡ elements_joined so es
        → ReadsMoreElements es rest new → (e : Json) × (others : Elements) × (left : List ℕ)
        × (all ≡ elements_joined so (element e others)) × ReadsValue e (past_space next) left
        × ReadsMoreElements others left new
    further all new no_element is close = absurd (two_next (past_space rest) next new comma close)
    further all new (element e es) is (place, left, again, reads, more) =
        let same = one_next 44 (past_space rest) place next again comma in
        let P : List ℕ → Type 0 = λ l. ReadsValue e (past_space l) left in
        (e, es, left, is, subst P same reads, more)

-- ---- places of a text

abbrev pub ListSofar : List ℕ → List ℕ → Next → Elements → Type 0
ListSofar text start (Item place) so = AtElement start (drop place text) so
ListSofar text start (End after) so = ReadsElements so start (drop after text)

pub list_opened : (text start : List ℕ) (next : Next) → FirstItem 93 text start next
    → ListSofar text start next no_element
list_opened text start (Item place) (here, other) =
    let P : List ℕ → Type 0 = λ item. AtElement start item no_element in
    subst P (sym here) (at_first start other)
list_opened text start (End after) close = close

pub list_goes_on : (text start : List ℕ) (so : Elements) (place after : ℕ) (e : Json)
    → AtElement start (drop place text) so → ReadsValue e (drop place text) (drop after text)
    → (next : Next) → NextItem 93 text (drop after text) next
    → ListSofar text start next (elements_joined so (element e no_element))
list_goes_on text start so place after e s reads (Item next_place) (next, comma, here) =
    let all = elements_joined so (element e no_element) in
    let P : List ℕ → Type 0 = λ item. AtElement start item all in
    let behind = behind_one start (drop place text) so e (drop after text) s reads in
    subst P (sym here) (at_next start (drop after text) all next behind comma)
list_goes_on text start so place after e s reads (End end) close =
    let all = elements_joined so (element e no_element) in
    let behind = behind_one start (drop place text) so e (drop after text) s reads in
    let P : Elements → Type 0 = λ es. ReadsElements es start (drop end text) in
    subst P (joined_nothing all) (behind.whole no_element (drop end text) close)

-- ---- meanings

pub one_meant_more : {V : Type 0} (Means : Json → V → Type 0) (so : Elements) (vs : List V)
    (e : Json) (v : V) → EachMeans Means so vs → Means e v
    → EachMeans Means (elements_joined so (element e no_element)) (vs ++ v ∷ [])
one_meant_more Means no_element [] e v h m = (m, tt)
one_meant_more Means (element j so) (w ∷ vs) e v h m =
    (h.0, one_meant_more Means so vs e v h.1 m)
one_meant_more Means no_element (w ∷ vs) e v h m = absurd h
one_meant_more Means (element j so) [] e v h m = absurd h

-- an element within a list means a value of its own
meant_at : {V : Type 0} (Means : Json → V → Type 0) (so : Elements) (e : Json) (es : Elements)
    (vs : List V) → EachMeans Means (elements_joined so (element e es)) vs → (v : V) × Means e v
meant_at Means no_element e es [] h = absurd h
meant_at Means no_element e es (v ∷ vs) h = (v, h.0)
meant_at Means (element j so) e es [] h = absurd h
meant_at Means (element j so) e es (v ∷ vs) h = meant_at Means so e es vs h.1

depth_at : (so : Elements) (e : Json) (es : Elements)
    → depth e ≤ elements_depth (elements_joined so (element e es))
depth_at no_element e es = omega arith
depth_at (element j so) e es =
    let deep = depth_at so e es in
    omega (arith, deep)

pub depth_more : (so : Elements) (e : Json) (n : ℕ) → elements_depth so ≤ n → depth e ≤ n
    → elements_depth (elements_joined so (element e no_element)) ≤ n
depth_more no_element e n h fits = omega (arith, fits)
depth_more (element j so) e n h fits =
    let more = depth_more so e n (omega (arith, h)) fits in
    omega (arith, h, more)

pub map_more : {A B : Type 0} (f : A → B) (xs : List A) (x : A)
    → map f (xs ++ x ∷ []) ≡ map f xs ++ f x ∷ []
map_more f [] x = refl
map_more f (y ∷ xs) x = ap (λ (l : List _). f y ∷ l) (map_more f xs x)

-- ---- refusals

module _ {V : Type 0} (Means : Json → V → Type 0) (levels : ℕ) (old : List ℕ) where
  -- only an array means a list
  pub no_list : ((es : Elements) (vs : List V) (new : List ℕ) → ReadsValue (array es) old new
      → depth (array es) ≤ levels → EachMeans Means es vs → ⊥)
      → NothingMeant levels (ListMeans Means) old
  no_list none = λ vs new read. by_tree read.0 vs new read.1 read.2 read.3
    where
      by_tree : (json : Json) (vs : List V) (new : List ℕ) → ReadsValue json old new
          → depth json ≤ levels → ListMeans Means json vs → ⊥
      by_tree (array es) vs new reads fits means = none es vs new reads fits means
      by_tree null vs new reads fits means = means
      by_tree (boolean b) vs new reads fits means = means
      by_tree (number text) vs new reads fits means = means
      by_tree (string bytes) vs new reads fits means = means
      by_tree (object ms) vs new reads fits means = means

  pub none_so_deep : levels ≡ 0 → NothingMeant levels (ListMeans Means) old
  none_so_deep none = no_list (λ es vs new reads fits means. omega (arith, none, fits))

  pub not_opened : (k : FaultKind) (left : List ℕ) → NotOpen 91 old k left
      → NothingMeant levels (ListMeans Means) old
  not_opened k left h = no_list (λ es vs new reads fits means.
      closes 91 old reads.0 reads.1 refl h.other)

  pub no_array : (begins (is_byte 91) old ≡ false) → NothingMeant levels (ListMeans Means) old
  no_array h = no_list (λ es vs new reads fits means. closes 91 old reads.0 reads.1 refl h)

  module _ (inside : List ℕ) (opens : old ≡ 91 ∷ inside) (so : Elements) where
    inner : (es : Elements) (new : List ℕ) → ReadsValue (array es) old new
        → ReadsElements es inside new
    inner es new (place, again, reads) =
        let same = one_next 91 old place inside again opens in
        let P : List ℕ → Type 0 = λ l. ReadsElements es l new in
        subst P same reads

    pub element_refused : (item : List ℕ) → AtElement inside item so
        → NothingMeant (levels - 1) Means item → NothingMeant levels (ListMeans Means) old
    element_refused item s nothing = no_list (λ all vs new reads fits means.
        let (e, es, rest, is, read, more) = s.only all new (inner all new reads) in
        let P : Elements → Type 0 = λ l. EachMeans Means l vs in
        let (v, m) = meant_at Means so e es vs (subst P is means) in
        let deep = depth_at so e es in
        let long = ap elements_depth is in
        nothing v rest (e, read, omega (arith, fits, deep, long), m))

    pub list_stops : (place rest : List ℕ) (e : Json) → AtElement inside place so
        → ReadsValue e place rest → (k : FaultKind) (left : List ℕ) → NoNext 93 rest k left
        → NothingMeant levels (ListMeans Means) old
    list_stops place rest e s reads k left h = no_list (λ all vs new whole fits means.
        let behind = behind_one inside place so e rest s reads in
        let (es, is, more) = behind.only all new (inner all new whole) in
        stuck es new more)
      where
        stuck : (es : Elements) (new : List ℕ) → ReadsMoreElements es rest new → ⊥
        stuck no_element new close = closes 93 (past_space rest) new close refl h.no_close
        stuck (element f es) new (next, left, comma, read, more) =
            closes 44 (past_space rest) next comma refl h.no_comma
