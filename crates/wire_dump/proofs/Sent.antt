-- What goes out in parts.
use Rattle.std.proofs.Common.{◌≡◌, ℕ, Bool, List, [], ◌++◌, Option, None, Some, sym, ap, ◌∙◌, subst, append_assoc, append-nil}
use Rattle.std.specs.Io.KnownBytes.{Appends}
use Rattle.wire_dump.specs.declared.layout.Layout.{Layout}
use Rattle.wire_dump.specs.declared.output.Typed.{Typed}
use Rattle.wire_dump.specs.Dumped.{Prints}
use Rattle.wire_dump.specs.Parts.{InParts}
use Rattle.wire_dump.specs.Places.{Line, printed}
use Rattle.wire_dump.specs.Shown.{PutsText, shown}
use Rattle.wire_dump.specs.Shows.{Span}

appends_nothing : (held : Option (List ℕ)) → Appends held held []
appends_nothing None = tt
appends_nothing (Some xs) = sym (append-nil xs)

appends_twice : (a b c : Option (List ℕ)) (xs ys : List ℕ) → Appends a b xs → Appends b c ys
    → Appends a c (xs ++ ys)
appends_twice None b c xs ys h k = tt
appends_twice (Some p) None c xs ys h k = absurd h
appends_twice (Some p) (Some q) None xs ys h k = absurd k
appends_twice (Some p) (Some q) (Some r) xs ys h k =
    k ∙ ap (λ (x : List ℕ). x ++ ys) h ∙ append_assoc p xs ys

-- nothing has gone out yet
pub none_sent : (held : Option (List ℕ)) (left : List ℕ) (Are : List ℕ → Type 0) → Are left
    → InParts held held left Are
none_sent held left Are are = ([], appends_nothing held, are)

-- all of it goes out
pub all_sent : (before behind : Option (List ℕ)) (all : List ℕ) → Appends before behind all
    → InParts before behind [] (λ (x : List ℕ). x ≡ all)
all_sent before behind all h = (all, h, append-nil all)

-- some of what stands behind that which went out goes out
pub more_sent : (a b c : Option (List ℕ)) (sent new left : List ℕ) (Are : List ℕ → Type 0)
    → Appends a b sent → InParts b c left (λ (x : List ℕ). x ≡ new) → Are (sent ++ new)
    → InParts a c left Are
more_sent a b c sent new left Are h (more, gone, is) are =
    let same : sent ++ new ≡ (sent ++ more) ++ left =
    ap (λ (x : List ℕ). sent ++ x) (sym is) ∙ sym (append_assoc sent more left) in
    (sent ++ more, appends_twice a b c sent more h gone, subst Are same are)

-- ---- lines behind what went out

pub lines_behind : (y : Layout) (at : ℕ) (Are : List Line → Type 0) (text sent old new : List ℕ)
    → Prints y at Are text old new → Prints y at Are text (sent ++ old) (sent ++ new)
lines_behind y at Are text sent old new h = record {
  lines = h.lines;
  are = h.are;
  covers = h.covers;
  written = ap (λ (x : List ℕ). sent ++ x) h.written
      ∙ sym (append_assoc sent old (printed y.has_offsets at h.lines));
}

pub spans_behind : (t : Typed) (at : ℕ) (Are : List Span → Type 0) (text sent old : List ℕ)
    (before : Bool) (new : List ℕ) (after : Bool) → PutsText t at Are text old before new after
    → PutsText t at Are text (sent ++ old) before (sent ++ new) after
spans_behind t at Are text sent old before new after h = record {
  spans = h.spans;
  are = h.are;
  covers = h.covers;
  written = ap (λ (x : List ℕ). sent ++ x) h.written
      ∙ sym (append_assoc sent old (shown t.has_offsets at h.spans));
  kept = h.kept;
  strict = h.strict;
}
