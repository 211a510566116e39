-- Records that stay where they were read, as they are written.
use Rattle.std.proofs.Common.{◌≡◌, ℕ, suc, ◌+◌, ◌<◌, ◌≤◌, List, [], ◌∷◌, ◌++◌, length, drop}
use Rattle.std.proofs.Common.{get_or, sym, ap, ◌∙◌, append_assoc}
use Rattle.std.proofs.Common.{add-one, drop-cons}
use Rattle.std.proofs.lemmas.List.{drop_all}
use Rattle.std.specs.Coded.{Coded-set, coded_ℕ}
use Rattle.std.specs.Prelude.{Option, Some, None, IsSomeAnd}
use Rattle.std.specs.Option.{unwrap_or}
use mathlib.Core.Logic.{∥∥₁_elim}
use Rattle.wire_base.specs.Items.{Item, SpellsItems}
use Rattle.wire_base.specs.TagView.{tag_number, tag_type}
use Rattle.wire_base.specs.Text.{record_text, text_of}
use Rattle.wire_fields.specs.Numbers.{in_64_bits}
use Rattle.wire_views.specs.Spans.{span_fields}
use Rattle.wire_views.specs.Tokens.{IsLeftOf, shortest_items}
use Rattle.wire_views.specs.declared.span.UnknownSpan.{UnknownSpan}
use Rattle.wire_views.proofs.ItemTexts.{left_items}

-- ---- one record

-- what was counted of the items that stand there
abbrev Counts : UnknownSpan → Option ℕ → Type 0
Counts s r = (i : Item) (items : List Item) (rest : List ℕ)
    → IsLeftOf (tag_number s.tag) (tag_type s.tag) i s.payload.now rest → SpellsItems items rest
    → IsSomeAnd r (λ len. len ≡ in_64_bits (length (shortest_items (i ∷ items))))

value_of : (r : Option ℕ) (n : ℕ) → IsSomeAnd r (λ len. len ≡ n) → unwrap_or r 0 ≡ n
value_of None n h = absurd h
value_of (Some len) n h = h

pub counted_span : (s : UnknownSpan) (r : Option ℕ) (len : ℕ) → Counts s r → len ≡ unwrap_or r 0
    → len ≡ in_64_bits (length (record_text (tag_number s.tag) s.spelled.0))
counted_span s r len counts is =
    let n = tag_number s.tag in
    let text = record_text n s.spelled.0 in
    ∥∥₁_elim s.spelled.1.0 (Coded-set coded_ℕ len (in_64_bits (length text)))
    (λ h. let l = left_items n (tag_type s.tag) s.spelled.0 s.payload.now h.0 in
    is ∙ value_of r (in_64_bits (length (shortest_items (l.item ∷ l.items))))
    (counts l.item l.items l.rest l.left l.spelled)
    ∙ ap (λ t. in_64_bits (length t)) l.same)

-- ---- one behind another

text_split : (s : UnknownSpan) (spans : List UnknownSpan) → text_of (span_fields (s ∷ spans))
    ≡ record_text (tag_number s.tag) s.spelled.0 ++ text_of (span_fields spans)
text_split s spans = sym (append_assoc _ _ (text_of (span_fields spans)))

-- the next record, and those behind it
pub next_span : (spans : List UnknownSpan) (i : ℕ) (s : UnknownSpan) → i < length spans
    → s ≡ get_or spans i s → text_of (span_fields (drop i spans))
    ≡ record_text (tag_number s.tag) s.spelled.0 ++ text_of (span_fields (drop (i + 1) spans))
next_span spans i s within is =
    let front : drop i spans ≡ s ∷ drop (i + 1) spans = rw (add-one, drop-cons spans i s)
    (ap (λ (x : UnknownSpan). x ∷ drop (suc i) spans) (sym is)) in
    ap (λ xs. text_of (span_fields xs)) front ∙ text_split s (drop (i + 1) spans)

pub no_span : (spans : List UnknownSpan) (i : ℕ) → length spans ≤ i
    → text_of (span_fields (drop i spans)) ≡ []
no_span spans i past = ap (λ xs. text_of (span_fields xs)) (drop_all i spans past)
