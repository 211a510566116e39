-- A list of unknown fields, one record at a time.
use Rattle.std.proofs.Common.{◌≡◌, ℕ, suc, ◌+◌, ◌<◌, ◌≤◌, Bool, true, false, ◌==◌, ◌&&◌, eqb, ◌≢◌, List, [], ◌∷◌, ◌++◌, length, get_or, drop, refl, sym, ap, ◌∙◌, append_assoc, add-one, arith}
use Rattle.std.proofs.lemmas.Bool.{eqb-true, and_right}
use Rattle.std.specs.Prelude.{IsTrue, ◌↔◌}
use Rattle.std.specs.List.{items_where_true}
use Rattle.std.proofs.Math.ListN.{drop_of_length-le}
use Rattle.std.proofs.Math.Seq.{drop-cons}
use Rattle.wire_base.specs.declared.unknown_fields.UnknownField.{UnknownField}
use Rattle.wire_base.specs.Field.{Payload, Fields, none, field, joined, count_top, type_of}
use Rattle.wire_base.specs.FieldsEq.{payload_eq, fields_eq}
use Rattle.wire_base.specs.InRange.{AreFitting, AreNumbered, IsPayloadFitting}
use Rattle.wire_base.specs.Tag.{tag_text}
use Rattle.wire_base.specs.Text.{text_of, payload_text, record_text}
use Rattle.wire_base.specs.UnknownFields.{payload_of, fields_of, one_record}
use Rattle.wire_base.proofs.JoinedLaws.{joined_assoc}

pub count_top-fields_of : (fs : List UnknownField) → count_top (fields_of fs) ≡ length fs
count_top-fields_of [] = refl
count_top-fields_of (f ∷ fs) = ap suc (count_top-fields_of fs)

pub fields_of-append : (fs gs : List UnknownField)
    → fields_of (fs ++ gs) ≡ joined (fields_of fs) (fields_of gs)
fields_of-append [] gs = refl
fields_of-append (f ∷ fs) gs = ap (field f.number (payload_of f.value)) (fields_of-append fs gs)

-- the records from a place on begin with the record there
pub fields_of-drop : (fs : List UnknownField) (i : ℕ) (f : UnknownField) → i < length fs
    → f ≡ get_or fs i f
    → fields_of (drop i fs) ≡ field f.number (payload_of f.value) (fields_of (drop (i + 1) fs))
fields_of-drop fs i f lt at = ap fields_of (drop-cons fs i f lt) ∙ rw (← at, add-one) refl

pub text_of-field : (n : ℕ) (p : Payload) (rest : Fields)
    → text_of (field n p rest) ≡ record_text n p ++ text_of rest
text_of-field n p rest =
    sym (append_assoc (tag_text n (type_of p)) (payload_text n p) (text_of rest))

-- a list is empty where its records are none
pub is_empty-fields_of : (fs : List UnknownField) (b : Bool) → b ≡ eqb (length fs) 0 → IsTrue b
    ↔ (fields_of fs ≡ none)
is_empty-fields_of [] b e = rw e (λ t. refl, λ t. refl)
is_empty-fields_of (f ∷ fs) b e = rw e (λ t. absurd (omega (arith, eqb-true _ 0 t)), λ t. cc)

-- the text from a place on begins with that of the record there
pub text_of-at : (fs : List UnknownField) (i : ℕ) (f : UnknownField) → i < length fs
    → f ≡ get_or fs i f
    → text_of (fields_of (drop i fs)) ≡ record_text f.number (payload_of f.value) ++ text_of
    (fields_of (drop (i + 1) fs))
text_of-at fs i f lt at = ap text_of (fields_of-drop fs i f lt at)
    ∙ text_of-field f.number (payload_of f.value) (fields_of (drop (i + 1) fs))

-- the test of two lists from a place on is that of the records there, and of what follows them
pub fields_eq-at : (fs gs : List UnknownField) (i : ℕ) (f g : UnknownField) → i < length fs
    → i < length gs → f ≡ get_or fs i f → g ≡ get_or gs i g
    → fields_eq (fields_of (drop i fs)) (fields_of (drop i gs)) ≡ (f.number == g.number) &&
    (payload_eq (payload_of f.value) (payload_of g.value) && fields_eq
    (fields_of (drop (i + 1) fs)) (fields_of (drop (i + 1) gs)))
fields_eq-at fs gs i f g lt lt' at at' =
    rw (fields_of-drop fs i f lt at, fields_of-drop gs i g lt' at') refl

-- lists of two lengths are not equal
pub fields_eq-length : (fs gs : List UnknownField) → length fs ≢ length gs
    → fields_eq (fields_of fs) (fields_of gs) ≡ false
fields_eq-length [] [] ne = absurd (ne refl)
fields_eq-length [] (g ∷ gs) ne = refl
fields_eq-length (f ∷ fs) [] ne = refl
fields_eq-length (f ∷ fs) (g ∷ gs) ne =
    and_right _ _ (and_right _ _ (fields_eq-length fs gs (λ e. ne (ap suc e))))

-- one copy more, of the record at a place
pub joined-copy : (items copies : List UnknownField) (i : ℕ) (f copy : UnknownField)
    (whole : Fields) → i < length items → f ≡ get_or items i f → one_record copy ≡ one_record f
    → joined (fields_of copies) (fields_of (drop i items)) ≡ whole
    → joined (fields_of (copies ++ copy ∷ [])) (fields_of (drop (i + 1) items)) ≡ whole
joined-copy items copies i f copy whole lt at same so_far =
    let rest = fields_of (drop (i + 1) items) in
    ap (λ (fs : Fields). joined fs rest) (fields_of-append copies (copy ∷ []))
    ∙ joined_assoc (fields_of copies) (one_record copy) rest
    ∙ ap (λ (fs : Fields). joined (fields_of copies) (joined fs rest)) same
    ∙ ap (λ (fs : Fields). joined (fields_of copies) fs) (sym (fields_of-drop items i f lt at))
    ∙ so_far

-- behind the last place there are no records
pub fields_of-end : (fs : List UnknownField) (i : ℕ) → length fs ≤ i → fields_of (drop i fs) ≡ none
fields_of-end fs i past = ap fields_of (drop_of_length-le fs past)

-- a record that is equal leaves the test to the rest, and one that isn't decides it
same_so_far : (x y rest : Bool) → (x && (y && true)) ≡ true → (x && (y && rest)) ≡ rest
same_so_far true true rest e = refl
same_so_far true false rest e = absurd cc
same_so_far false y rest e = absurd cc

other_here : (x y rest : Bool) → (x && (y && true)) ≡ false → (x && (y && rest)) ≡ false
other_here true true rest e = absurd cc
other_here true false rest e = refl
other_here false y rest e = refl

pub fields_eq-more : (fs gs : List UnknownField) (i : ℕ) (f g : UnknownField) → i < length fs
    → i < length gs → f ≡ get_or fs i f → g ≡ get_or gs i g
    → fields_eq (one_record f) (one_record g) ≡ true
    → fields_eq (fields_of (drop i fs)) (fields_of (drop i gs)) ≡ fields_eq
    (fields_of (drop (i + 1) fs)) (fields_of (drop (i + 1) gs))
fields_eq-more fs gs i f g lt lt' at at' same = fields_eq-at fs gs i f g lt lt' at at'
    ∙ same_so_far _ _ _ same

pub fields_eq-other : (fs gs : List UnknownField) (i : ℕ) (f g : UnknownField) → i < length fs
    → i < length gs → f ≡ get_or fs i f → g ≡ get_or gs i g
    → fields_eq (one_record f) (one_record g) ≡ false
    → fields_eq (fields_of (drop i fs)) (fields_of (drop i gs)) ≡ false
fields_eq-other fs gs i f g lt lt' at at' other = fields_eq-at fs gs i f g lt lt' at at'
    ∙ other_here _ _ _ other

-- ---- numbers that fit

-- one record more whose numbers fit
pub AreFitting-append : (fs : List UnknownField) (f : UnknownField) → AreFitting (fields_of fs)
    → IsPayloadFitting (payload_of f.value) → AreFitting (fields_of (fs ++ f ∷ []))
AreFitting-append [] f h k = (k, tt)
AreFitting-append (g ∷ fs) f h k = (h.0, AreFitting-append fs f h.1 k)

-- the records that a test keeps
pub AreFitting-kept : (bs : List Bool) (fs : List UnknownField) → AreFitting (fields_of fs)
    → AreFitting (fields_of (items_where_true bs fs))
AreFitting-kept [] fs h = tt
AreFitting-kept (b ∷ bs) [] h = tt
AreFitting-kept (true ∷ bs) (f ∷ fs) h = (h.0, AreFitting-kept bs fs h.1)
AreFitting-kept (false ∷ bs) (f ∷ fs) h = AreFitting-kept bs fs h.1

pub AreNumbered-kept : (bs : List Bool) (fs : List UnknownField) → AreNumbered (fields_of fs)
    → AreNumbered (fields_of (items_where_true bs fs))
AreNumbered-kept [] fs h = tt
AreNumbered-kept (b ∷ bs) [] h = tt
AreNumbered-kept (true ∷ bs) (f ∷ fs) h = (h.0, h.1, AreNumbered-kept bs fs h.2)
AreNumbered-kept (false ∷ bs) (f ∷ fs) h = AreNumbered-kept bs fs h.2
