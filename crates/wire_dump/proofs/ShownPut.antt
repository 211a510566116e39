-- What is put with a schema is the lines of records.
use Rattle.std.proofs.Common.{◌≡◌, ℕ, ◌+◌, ◌-◌, ◌<◌, Bool, true, false, ◌||◌, List, [], ◌∷◌, ◌++◌, suc, length, map, take, refl, sym, ap, ◌∙◌, append_assoc, append-nil, arith, length-append}
use Rattle.wire_dump.specs.declared.output.Output.{Output}
use Rattle.wire_dump.specs.declared.output.Typed.{Typed}
use Rattle.wire_dump.specs.Places.{Line, printed, range_text, all_width}
use Rattle.wire_dump.specs.Shown.{PutsSpans, PutsText, each_printed, has_note, shown, width_of}
use Rattle.wire_dump.specs.Shows.{Span, line_span, noted, span_of}

-- ---- lists of spans

pub shown-append : (o : Bool) (place : ℕ) (xs ys : List Span)
    → shown o place (xs ++ ys) ≡ shown o place xs ++ shown o (place + width_of xs) ys
shown-append o place [] ys =
    let same : place ≡ place + 0 = omega arith in
    ap (λ (x : ℕ). shown o x ys) same
shown-append o place (s ∷ xs) ys =
    let mid = place + s.width in
    let each = each_printed o place mid s.texts in
    let same : mid + width_of xs ≡ place + (s.width + width_of xs) = omega arith in
    ap (λ (x : List ℕ). each ++ x) (shown-append o mid xs ys)
    ∙ sym (append_assoc each (shown o mid xs) (shown o (mid + width_of xs) ys))
    ∙ ap (λ (x : ℕ). (each ++ shown o mid xs) ++ shown o x ys) same

pub width-append : (xs ys : List Span) → width_of (xs ++ ys) ≡ width_of xs + width_of ys
width-append [] ys = omega arith
width-append (s ∷ xs) ys = omega (arith, width-append xs ys)

or_assoc : (a b c : Bool) → ((a || b) || c) ≡ (a || (b || c))
or_assoc true b c = refl
or_assoc false b c = refl

pub or_false : (a : Bool) → (a || false) ≡ a
or_false true = refl
or_false false = refl

pub or_true : (a : Bool) → (a || true) ≡ true
or_true true = refl
or_true false = refl

pub note-append : (xs ys : List Span) → has_note (xs ++ ys) ≡ (has_note xs || has_note ys)
note-append [] ys = refl
note-append (s ∷ xs) ys =
    ap (λ (x : Bool). s.has_note || x) (note-append xs ys)
    ∙ sym (or_assoc s.has_note (has_note xs) (has_note ys))

both_false : (a b : Bool) → a ≡ false → b ≡ false → (a || b) ≡ false
both_false true b e f = cc
both_false false b e f = f

-- lines behind lines
pub puts_more : (t : Typed) (place at : ℕ) (First Second Both : List Span → Type 0)
    (one two : List ℕ) (old : List ℕ) (before : Bool) (mid : List ℕ) (half : Bool) (new : List ℕ)
    (after : Bool) (first : PutsText t place First one old before mid half)
    → at ≡ place + length one → (second : PutsText t at Second two mid half new after)
    → Both (first.spans ++ second.spans)
    → PutsText t place Both (one ++ two) old before new after
puts_more t place at First Second Both one two old before mid half new after first at_is second
    are =
    let o = t.has_offsets in
    let here : at ≡ place + width_of first.spans = omega (arith, at_is, first.covers) in
    record {
      spans = first.spans ++ second.spans;
      are = are;
      covers = omega (
        arith,
        first.covers,
        second.covers,
        width-append first.spans second.spans,
        length-append one two,
      );
      written = second.written
          ∙ ap (λ (x : List ℕ). x ++ shown o at second.spans) first.written
          ∙ append_assoc old (shown o place first.spans) (shown o at second.spans)
          ∙ ap (λ (x : ℕ). old ++ (shown o place first.spans ++ shown o x second.spans)) here
          ∙ ap (λ (x : List ℕ). old ++ x) (sym (shown-append o place first.spans second.spans));
      kept = second.kept
          ∙ ap (λ (x : Bool). x || has_note second.spans) first.kept
          ∙ or_assoc before (has_note first.spans) (has_note second.spans)
          ∙ ap (λ (x : Bool). before || x) (sym (note-append first.spans second.spans));
      strict = λ e. note-append first.spans second.spans
          ∙ both_false (has_note first.spans) (has_note second.spans) (first.strict e)
          (second.strict e);
    }

-- one line without a note
pub one_line : (t : Typed) (place : ℕ) (Are : List Span → Type 0) (text line old : List ℕ)
    (before : Bool) (new : Output) → Are (line_span text line)
    → new.text.items ≡ old ++ (range_text t.has_offsets place (place + length text) ++ line)
    → new.has_note ≡ before
    → PutsSpans t place Are text old before new
one_line t place Are text line old before new are e kept = record {
  spans = line_span text line;
  are = are;
  covers = omega arith;
  written = e ∙ ap (λ (x : List ℕ). old ++ x)
      (ap (λ (x : List ℕ). range_text t.has_offsets place (place + length text) ++ x)
      (sym (append-nil line))
      ∙ sym (append-nil (range_text t.has_offsets place (place + length text) ++ (line ++ []))));
  kept = kept ∙ sym (or_false before);
  strict = λ _. refl;
}

-- ---- lines without a schema

pub plain-printed : (o : Bool) (place : ℕ) (ls : List Line)
    → shown o place (map span_of ls) ≡ printed o place ls
plain-printed o place [] = refl
plain-printed o place (l ∷ ls) =
    let r = range_text o place (place + l.width) in
    let rest = shown o (place + l.width) (map span_of ls) in
    append_assoc r (l.text ++ []) rest
    ∙ ap (λ (x : List ℕ). r ++ (x ++ rest)) (append-nil l.text)
    ∙ ap (λ (x : List ℕ). r ++ (l.text ++ x)) (plain-printed o (place + l.width) ls)

pub plain-width : (ls : List Line) → width_of (map span_of ls) ≡ all_width ls
plain-width [] = refl
plain-width (l ∷ ls) = ap (λ (x : ℕ). l.width + x) (plain-width ls)

pub plain-note : (ls : List Line) → has_note (map span_of ls) ≡ false
plain-note [] = refl
plain-note (l ∷ ls) = plain-note ls

-- ---- a note

pub noted-width : (note : List ℕ) (ls : List Line) → width_of (noted note ls) ≡ all_width ls
noted-width note [] = refl
noted-width note (l ∷ []) = refl
noted-width note (l ∷ (m ∷ ls)) = ap (λ (x : ℕ). l.width + x) (noted-width note (m ∷ ls))

-- the last line has a byte
abbrev pub EndsFull : List Line → Type 0
EndsFull [] = ⊥
EndsFull (l ∷ []) = 0 < length l.text
EndsFull (l ∷ (m ∷ ls)) = EndsFull (m ∷ ls)

pub noted-note : (note : List ℕ) (ls : List Line) → EndsFull ls → has_note (noted note ls) ≡ true
noted-note note [] full = absurd full
noted-note note (l ∷ []) full = refl
noted-note note (l ∷ (m ∷ ls)) full = noted-note note (m ∷ ls) full

pub full_printed : (o : Bool) (place : ℕ) (ls : List Line) → EndsFull ls
    → 0 < length (printed o place ls)
full_printed o place [] full = absurd full
full_printed o place (l ∷ []) full =
    let r = range_text o place (place + l.width) in
    omega (arith, full, length-append r (l.text ++ []), length-append l.text [])
full_printed o place (l ∷ (m ∷ ls)) full =
    let r = range_text o place (place + l.width) in
    let rest = printed o (place + l.width) (m ∷ ls) in
    omega (
      arith,
      full_printed o (place + l.width) (m ∷ ls) full,
      length-append r (l.text ++ rest),
      length-append l.text rest,
    )

-- all but the last byte of a text behind another
pub but_last : (a b : List ℕ) → 0 < length b
    → take (length (a ++ b) - 1) (a ++ b) ≡ a ++ take (length b - 1) b
but_last [] b some = refl
but_last (x ∷ a) b some =
    let size : length (a ++ b) ≡ length a + length b = length-append a b in
    let is : length (x ∷ (a ++ b)) - 1 ≡ suc (length (a ++ b) - 1) = omega (arith, size, some) in
    ap (λ (k : ℕ). take k (x ∷ (a ++ b))) is
    ∙ ap (λ (xs : List ℕ). x ∷ xs) (but_last a b some)

pub noted-printed : (o : Bool) (place : ℕ) (note : List ℕ) (ls : List Line) → EndsFull ls
    → shown o place (noted note ls)
    ≡ take (length (printed o place ls) - 1) (printed o place ls) ++ note
noted-printed o place note [] full = absurd full
noted-printed o place note (l ∷ []) full =
    let r = range_text o place (place + l.width) in
    let cut = take (length l.text - 1) l.text in
    let whole : l.text ++ [] ≡ l.text = append-nil l.text in
    append-nil (r ++ ((cut ++ note) ++ []))
    ∙ ap (λ (x : List ℕ). r ++ x) (append-nil (cut ++ note))
    ∙ sym (append_assoc r cut note)
    ∙ ap (λ (x : List ℕ). x ++ note) (sym (but_last r l.text full))
    ∙ ap (λ (x : List ℕ). take (length (r ++ x) - 1) (r ++ x) ++ note) (sym whole)
noted-printed o place note (l ∷ (m ∷ ls)) full =
    let r = range_text o place (place + l.width) in
    let mid = place + l.width in
    let rest = printed o mid (m ∷ ls) in
    let cut = take (length rest - 1) rest in
    let tail = shown o mid (noted note (m ∷ ls)) in
    let some = full_printed o mid (m ∷ ls) full in
    append_assoc r (l.text ++ []) tail
    ∙ ap (λ (x : List ℕ). r ++ (x ++ tail)) (append-nil l.text)
    ∙ ap (λ (x : List ℕ). r ++ (l.text ++ x)) (noted-printed o mid note (m ∷ ls) full)
    ∙ ap (λ (x : List ℕ). r ++ x) (sym (append_assoc l.text cut note))
    ∙ sym (append_assoc r (l.text ++ cut) note)
    ∙ ap (λ (x : List ℕ). x ++ note) (sym (append_assoc r l.text cut))
    ∙ ap (λ (x : List ℕ). x ++ note) (sym (but_last (r ++ l.text) rest some))
    ∙ ap (λ (x : List ℕ). take (length x - 1) x ++ note) (append_assoc r l.text rest)
