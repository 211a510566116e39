-- What is put of a record that does not fit its field.
use Rattle.std.proofs.Common.{◌≡◌, ℕ, ◌+◌, ◌-◌, Bool, true, false, ◌||◌, List, ◌++◌, length, take, refl, sym, ap, ◌∙◌, subst, append_assoc, append-nil, arith, codes, Option, None, Some, [], ◌∷◌, map}
use Rattle.wire_read.specs.declared.event.Value.{Value}
use Rattle.wire_read.specs.declared.event.Value.TheVariants as values
use Rattle.wire_read.specs.Reading.{item}
use Rattle.wire_dynamic.specs.declared.field.Field.{Field}
use Rattle.wire_dynamic.specs.declared.field.Kind.{Kind}
use Rattle.wire_dynamic.specs.declared.field.Kind.TheVariants as kinds
use Rattle.wire_dynamic.specs.declared.schema.Schema.{Schema}
use Rattle.wire_dump.specs.declared.layout.Layout.{Layout}
use Rattle.wire_dump.specs.declared.layout.Margin.{Margin}
use Rattle.wire_dump.specs.declared.output.Output.{Output}
use Rattle.wire_dump.specs.declared.output.Typed.{Typed}
use Rattle.wire_dump.specs.Dumped.{ItemLines, Prints}
use Rattle.wire_dump.specs.Lines.{end_line, opening}
use Rattle.wire_dump.specs.Places.{printed, range_text}
use Rattle.wire_dump.specs.Shown.{IsRecord, ItemSpans, PutsSpans, has_note, event_payload}
use Rattle.wire_dump.specs.Shows.{FitsField, ShowsRecord, group_line, group_opening, guessed, line_span, note_of, noted, span_of, type_cause, unfit, with_note}
use Rattle.wire_dump.proofs.ShownPut.{but_last, full_printed, noted-note, noted-printed, noted-width, or_false, or_true, plain-note, plain-printed, plain-width}
use Rattle.wire_dump.proofs.ShownRecord.{line_full, record_full, record_lines}

pub unfit_put : (t : Typed) (d b k n place : ℕ) (f : Field) (v : Value)
    (text old mid cause : List ℕ) (before : Bool) (new : Output) (y : Layout)
    → y ≡ record { has_offsets = t.has_offsets; level = k; budget = b }
    → IsRecord n (event_payload v) text → (FitsField d f (event_payload v) → ⊥)
    → t.is_strict ≡ false
    → Prints y place (ItemLines y 0 (item n v) text) text old mid
    → new.text.items ≡ take (length mid - 1) mid ++ note_of f cause
    → new.has_note ≡ true
    → PutsSpans t place (ShowsRecord t.schema.now d b k (Some f) n (event_payload v) text) text old
    before new
unfit_put t d b k n place f v text old mid cause before new y y_is is never loose puts e kept =
    let o = t.has_offsets in
    let z : Layout = record { has_offsets = o; level = k; budget = b } in
    let h = subst (λ (x : Layout). Prints x place (ItemLines x 0 (item n v) text) text old mid)
    y_is puts in
    let shows = record_lines z n v text h.lines is h.are in
    let full = record_full b k n (event_payload v) text h.lines shows in
    let note = note_of f cause in
    let put = printed o place h.lines in
    let cut = take (length put - 1) put in
    let spans = noted note h.lines in
    let note_is : has_note spans ≡ true = noted-note note h.lines full in
    record {
      spans = spans;
      are = unfit h.lines cause is.flat never shows refl;
      covers = noted-width note h.lines ∙ h.covers;
      written = e ∙ ap (λ (x : List ℕ). take (length x - 1) x ++ note) h.written
          ∙ ap (λ (x : List ℕ). x ++ note) (but_last old put (full_printed o place h.lines full))
          ∙ append_assoc old cut note
          ∙ ap (λ (x : List ℕ). old ++ x) (sym (noted-printed o place note h.lines full));
      kept = kept ∙ sym (or_true before) ∙ ap (λ (x : Bool). before || x) (sym note_is);
      strict = λ yes. absurd (cc (yes, loose));
    }

-- ---- groups that a field of another kind has

abbrev NotGroup : Kind → Type 0
NotGroup kind = (place : ℕ) → kind ≡ kinds.Group place → ⊥

other_group : (s : Schema) (level n : ℕ) (kind : Kind) (f : Field) (text : List ℕ)
    → NotGroup kind
    → group_line s level n kind f text
    ≡ record {
      width = length text;
      texts = with_note (note_of f type_cause) (opening level n) ∷ [];
      has_note = true;
    } ∷ []
other_group s level n kinds.Double f text other = refl
other_group s level n kinds.Float f text other = refl
other_group s level n kinds.Int64 f text other = refl
other_group s level n kinds.Uint64 f text other = refl
other_group s level n kinds.Int32 f text other = refl
other_group s level n kinds.Fixed64 f text other = refl
other_group s level n kinds.Fixed32 f text other = refl
other_group s level n kinds.Bool f text other = refl
other_group s level n kinds.Text f text other = refl
other_group s level n (kinds.Group place) f text other = absurd (other place refl)
other_group s level n (kinds.Message place) f text other = refl
other_group s level n kinds.Blob f text other = refl
other_group s level n kinds.Uint32 f text other = refl
other_group s level n (kinds.Enum place) f text other = refl
other_group s level n kinds.Sfixed32 f text other = refl
other_group s level n kinds.Sfixed64 f text other = refl
other_group s level n kinds.Sint32 f text other = refl
other_group s level n kinds.Sint64 f text other = refl

pub group_noted : (t : Typed) (place level n : ℕ) (f : Field) (found : Option Field)
    (text old mid : List ℕ) (before : Bool) (new : Output) (m : Margin)
    → found ≡ Some f → NotGroup f.kind → t.is_strict ≡ false
    → m ≡ record { is_shown = t.has_offsets; start = place; end = place + length text }
    → mid ≡ old ++ (range_text m.is_shown m.start m.end ++ opening level n)
    → new.text.items ≡ take (length mid - 1) mid ++ note_of f type_cause
    → new.has_note ≡ true
    → PutsSpans t place (λ spans. spans ≡ group_opening t.schema.now level n found text) text old
    before new
group_noted t place level n f found text old mid before new m is other loose m_is opened e kept =
    let note = note_of f type_cause in
    let r = range_text t.has_offsets place (place + length text) in
    let line = opening level n in
    let cut = take (length line - 1) line in
    let begun : mid ≡ (old ++ r) ++ line =
    opened ∙ ap (λ (x : Margin). old ++ (range_text x.is_shown x.start x.end ++ line)) m_is
    ∙ sym (append_assoc old r line) in
    record {
      spans = record {
        width = length text;
        texts = with_note note line ∷ [];
        has_note = true;
      } ∷ [];
      are = sym (ap (λ (x : Option Field). group_opening t.schema.now level n x text) is
          ∙ other_group t.schema.now level n f.kind f text other);
      covers = omega arith;
      written = e ∙ ap (λ (x : List ℕ). take (length x - 1) x ++ note) begun
          ∙ ap (λ (x : List ℕ). x ++ note)
          (but_last (old ++ r) line (line_full level n (codes " {")))
          ∙ append_assoc (old ++ r) cut note
          ∙ append_assoc old r (cut ++ note)
          ∙ ap (λ (x : List ℕ). old ++ (r ++ x)) (sym (append-nil (cut ++ note)))
          ∙ ap (λ (x : List ℕ). old ++ x) (sym (append-nil (r ++ ((cut ++ note) ++ []))));
      kept = kept ∙ sym (or_true before);
      strict = λ yes. absurd (cc (yes, loose));
    }

-- a record that the schema lacks
pub guessed_put : (t : Typed) (d b k n place : ℕ) (v : Value) (found : Option Field)
    (text old : List ℕ) (before : Bool) (new : Output) (y : Layout)
    → y ≡ record { has_offsets = t.has_offsets; level = k; budget = b } → found ≡ None
    → IsRecord n (event_payload v) text
    → Prints y place (ItemLines y 0 (item n v) text) text old new.text.items
    → new.has_note ≡ before
    → PutsSpans t place (ShowsRecord t.schema.now d b k found n (event_payload v) text) text old
    before new
guessed_put t d b k n place v found text old before new y y_is lacks is puts kept =
    let o = t.has_offsets in
    let z : Layout = record { has_offsets = o; level = k; budget = b } in
    let h = subst (λ (x : Layout). Prints x place (ItemLines x 0 (item n v) text) text old
    new.text.items) y_is puts in
    let shows = record_lines z n v text h.lines is h.are in
    let spans = map span_of h.lines in
    record {
      spans = spans;
      are = subst (λ (x : Option Field). ShowsRecord t.schema.now d b k x n (event_payload v) text
          spans) (sym lacks) (guessed h.lines is.flat shows refl);
      covers = plain-width h.lines ∙ h.covers;
      written = h.written ∙ ap (λ (x : List ℕ). old ++ x) (sym (plain-printed o place h.lines));
      kept = kept ∙ sym (or_false before)
          ∙ ap (λ (x : Bool). before || x) (sym (plain-note h.lines));
      strict = λ _. plain-note h.lines;
    }

-- the end of a group
pub end_lines : (s : Schema) (d b k count n : ℕ) (found : Option Field) (v : Value)
    (text : List ℕ) → v ≡ values.GroupEnd
    → ItemSpans s d b k count found (item n v) text (line_span text (end_line (k + count)))
end_lines s d b k count n found v text e =
    subst (λ (w : Value). ItemSpans s d b k count found (item n w) text
    (line_span text (end_line (k + count)))) (sym e) refl
