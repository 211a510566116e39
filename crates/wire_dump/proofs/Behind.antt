-- Texts that are put behind others.
use Rattle.std.proofs.Common.{◌≡◌, ℕ, List, ◌++◌, ap, ◌∙◌, append_assoc}

-- some text stands behind what there was
abbrev pub IsBehind : List ℕ → List ℕ → Type 0
IsBehind old new = (text : List ℕ) × (new ≡ old ++ text)

pub further : (old mid new : List ℕ) → IsBehind old mid → IsBehind mid new → IsBehind old new
further old mid new (a, e) (b, f) =
    (a ++ b, f ∙ ap (λ (x : List ℕ). x ++ b) e ∙ append_assoc old a b)
