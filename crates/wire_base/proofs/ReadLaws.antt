-- Readings, one behind the other.
use Rattle.std.proofs.Common.{◌≡◌, ℕ, ◌≤◌, List, ◌++◌, length, take, drop, sym, ap, ◌∙◌, append_assoc, arith, length-append, take-append-drop}
use Rattle.wire_base.specs.Read.{Reads}

-- what stands at the front of a text stands at the front of what the text begins
pub Reads-inside : (IsText : List ℕ → Type 0) (old text rest new : List ℕ) → old ≡ text ++ new
    → Reads text IsText rest → Reads old IsText (rest ++ new)
Reads-inside IsText old text rest new e h = record {
  text = h.text;
  parts = e ∙ ap (λ l. l ++ new) h.parts ∙ append_assoc h.text rest new;
  spelled = h.spelled;
}

-- a text that stands at the front, and another at what follows it, joined
pub joined_parts : (IsText OtherText : List ℕ → Type 0) (old mid new : List ℕ)
    (h : Reads old IsText mid) (k : Reads mid OtherText new) → old ≡ (h.text ++ k.text) ++ new
joined_parts IsText OtherText old mid new h k =
    h.parts ∙ ap (λ l. h.text ++ l) k.parts ∙ sym (append_assoc h.text k.text new)

-- another kind of the same text
pub Reads-as : (IsText OtherText : List ℕ → Type 0) (old new : List ℕ) (h : Reads old IsText new)
    → OtherText h.text → Reads old OtherText new
Reads-as IsText OtherText old new h k = record { text = h.text; parts = h.parts; spelled = k }

-- so many bytes at the front
pub Reads-take : (IsText : List ℕ → Type 0) (len : ℕ) (old new : List ℕ) → new ≡ drop len old
    → IsText (take len old) → Reads old IsText new
Reads-take IsText len old new e h = record {
  text = take len old;
  parts = sym (take-append-drop len old) ∙ ap (λ l. take len old ++ l) (sym e);
  spelled = h;
}

-- what follows is no longer than what it follows in
pub Reads-shorter : (IsText : List ℕ → Type 0) (old new : List ℕ) → Reads old IsText new
    → length new ≤ length old
Reads-shorter IsText old new h = omega (arith, ap length h.parts ∙ length-append h.text new)
