-- The elements of an array so far.
use Rattle.std.proofs.Common.{◌≡◌, ℕ, suc, ◌-◌, ◌≤◌, false, List, [], ◌∷◌, ◌++◌, length, drop, refl, sym, subst, ◌∙◌, append_assoc, append-nil, arith}
use Rattle.wire_json.specs.declared.container.Next.{Next}
use Rattle.wire_json.specs.declared.container.Next.TheVariants.{Item, End}
use Rattle.wire_json.specs.declared.fault.FaultKind.{FaultKind}
use Rattle.wire_json.specs.declared.fault.FaultKind.TheVariants.{Syntax}
use Rattle.wire_json.specs.Bytes.{begins, is_byte, past_space}
use Rattle.wire_json.specs.Container.{FirstItem, NextItem, NoNext, separator}
use Rattle.wire_json.specs.Fault.{no_comma, ValueFault, ElementsFault, MoreElementsFault, first_element, past_element, next_element, past_next}
use Rattle.wire_json.specs.Json.{Json, depth, Elements, no_element, element, elements_depth}
use Rattle.wire_json.specs.Reading.{ReadsValue, ReadsElements, ReadsMoreElements}
use Rattle.wire_json.specs.Written.{written, written_elements, written_more}

-- the elements from the start on, up to new, with their compact text
pub record Whole (l : ℕ) (start new text : List ℕ) : Type 0 where
  pub elements : Elements
  pub reads : ReadsElements elements start new
  pub fits : elements_depth elements ≤ l
  pub written_is : written_elements elements ≡ text

-- Elements with this compact text were read from the start on, and an element stands at the item:
-- it and what follows it make all, and a fault of it or behind it is one of all.
pub record AtElement (l : ℕ) (start item text : List ℕ) : Type 0 where
  pub read : (e : Json) (es : Elements) (rest new : List ℕ) → ReadsValue e item rest → depth e ≤ l
      → ReadsMoreElements es rest new → elements_depth es ≤ l
      → Whole l start new (text ++ (written e ++ written_more es))
  pub fault : (k : FaultKind) (left : List ℕ) → ValueFault l item k left
      → ElementsFault l start k left
  pub past : (e : Json) (rest : List ℕ) → ReadsValue e item rest → depth e ≤ l → (k : FaultKind)
      (left : List ℕ) → MoreElementsFault l rest k left → ElementsFault l start k left

-- the same behind an element
pub record BehindElement (l : ℕ) (start rest text : List ℕ) : Type 0 where
  pub read : (es : Elements) (new : List ℕ) → ReadsMoreElements es rest new → elements_depth es ≤ l
      → Whole l start new (text ++ written_more es)
  pub fault : (k : FaultKind) (left : List ℕ) → MoreElementsFault l rest k left
      → ElementsFault l start k left

pub at_first : (l : ℕ) (start : List ℕ) → begins (is_byte 93) (past_space start) ≡ false
    → AtElement l start (past_space start) []
at_first l start other = record {
  read = λ e es rest new h fits more fit. record {
    elements = element e es;
    reads = (rest, h, more);
    fits = omega arith;
    written_is = refl;
  };
  fault = λ k left h. first_element other h;
  past = λ e rest h fits k left f. past_element e rest h fits f;
}

pub behind_one : (l : ℕ) (start item text : List ℕ) (e : Json) (rest : List ℕ)
    → AtElement l start item text → ReadsValue e item rest → depth e ≤ l
    → BehindElement l start rest (text ++ written e)
behind_one l start item text e rest s h fits = record {
  read = λ es new more fit.
      let all = s.read e es rest new h fits more fit in
      record {
        elements = all.elements;
        reads = all.reads;
        fits = all.fits;
        written_is = all.written_is ∙ sym (append_assoc text (written e) (written_more es));
      };
  fault = λ k left f. s.past e rest h fits k left f;
}

pub at_next : (l : ℕ) (start rest text next : List ℕ) → BehindElement l start rest text
    → past_space rest ≡ 44 ∷ next → AtElement l start (past_space next) (text ++ 44 ∷ [])
at_next l start rest text next s comma = record {
  read = λ e es behind new h fits more fit.
      let all = s.read (element e es) new (next, behind, comma, h, more) (omega arith) in
      record {
        elements = all.elements;
        reads = all.reads;
        fits = all.fits;
        written_is = all.written_is
            ∙ sym (append_assoc text (44 ∷ []) (written e ++ written_more es));
      };
  fault = λ k left h. s.fault k left (next_element next comma h);
  past = λ e behind h fits k left f. s.fault k left (past_next next e behind comma h fits f);
}

pub none_at_all : (l : ℕ) (start new : List ℕ) → past_space start ≡ 93 ∷ new
    → Whole l start new (93 ∷ [])
none_at_all l start new close = record {
  elements = no_element;
  reads = close;
  fits = omega arith;
  written_is = refl;
}

pub no_more : (l : ℕ) (start rest text new : List ℕ) → BehindElement l start rest text
    → past_space rest ≡ 93 ∷ new → Whole l start new (text ++ 93 ∷ [])
no_more l start rest text new s close = s.read no_element new close (omega arith)

-- ---- places of a text

-- what was read where an array goes on so
abbrev pub State : ℕ → List ℕ → List ℕ → Next → List ℕ → Type 0
State l text start (Item place) written_text = AtElement l start (drop place text) written_text
State l text start (End after) written_text =
    Whole l start (drop after text) (written_text ++ 93 ∷ [])

pub opened : (l : ℕ) (text start : List ℕ) (next : Next) → FirstItem 93 text start next
    → State l text start next []
opened l text start (Item place) (here, other) =
    let P : List ℕ → Type 0 = λ item. AtElement l start item [] in
    subst P (sym here) (at_first l start other)
opened l text start (End after) close = none_at_all l start (drop after text) close

-- how much of the text is left there, and no less than 1 but at the end
abbrev pub left_at : List ℕ → Next → ℕ
left_at text (Item place) = suc (length text - place)
left_at text (End after) = 0

module _ (l : ℕ) (text start written_text : List ℕ) (place after : ℕ) (e : Json)
    (s : AtElement l start (drop place text) written_text)
    (reads : ReadsValue e (drop place text) (drop after text)) (fits : depth e ≤ l) where
  behind : BehindElement l start (drop after text) (written_text ++ written e)
  behind = behind_one l start (drop place text) written_text e (drop after text) s reads fits

  pub goes_on : (next : Next) → NextItem 93 text (drop after text) next
      → State l text start next ((written_text ++ written e) ++ separator next)
  goes_on (Item next_place) (next, comma, here) =
      let P : List ℕ → Type 0 = λ item.
      AtElement l start item ((written_text ++ written e) ++ 44 ∷ []) in
      subst P (sym here) (at_next l start (drop after text) (written_text ++ written e) next behind comma)
  goes_on (End end) close =
      let P : List ℕ → Type 0 = λ t. Whole l start (drop end text) (t ++ 93 ∷ []) in
      subst P (sym (append-nil (written_text ++ written e)))
      (no_more l start (drop after text) (written_text ++ written e) (drop end text) behind close)

  pub stops : (k : FaultKind) (left : List ℕ) → NoNext 93 (drop after text) k left
      → ElementsFault l start k left
  stops k left h =
      let P : FaultKind → List ℕ → Type 0 = λ x here. MoreElementsFault l (drop after text) x here in
      behind.fault k left
      (subst (λ (x : FaultKind). P x left) (sym h.kind)
      (subst (λ (here : List ℕ). P Syntax here) (sym h.place) (no_comma h.no_comma h.no_close)))
