-- Values that have no text.

-- no tree is written of the value, or no members are
abbrev pub HasNoTree : {V T : Type 0} → (V → T → Type 0) → V → Type 0
HasNoTree {V} {T} Tree value = (tree : T) → Tree value tree → ⊥
