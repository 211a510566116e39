-- What a message type makes of records, taken one after another.
use Rattle.std.specs.Prelude.{◌≡◌, ℕ}
use Rattle.wire_base.specs.Field.{Payload, Fields, none, field}
use Rattle.wire_base.specs.Limits.{Charge, both, no_charge}

-- `takes m n p c z`: the value m takes the record of field number n with payload p, is charged c
-- for it, and becomes z. A record that has no such charge and value is refused.
abbrev pub Step : Type 0 → Type 1
Step V = V → ℕ → Payload → Charge → V → Type 0

-- A record has one charge, whichever value takes it, and each value becomes one value by it.
abbrev pub IsSingle : {V : Type 0} → Step V → Type 0
IsSingle {V} takes =
    (m other after other_after : V) (n : ℕ) (p : Payload) (c d : Charge)
    → takes m n p c after → takes other n p d other_after
    → (c ≡ d) × (m ≡ other → after ≡ other_after)

-- the value m takes the records one after another, is charged c for all of them, and becomes z
abbrev pub Folds : {V : Type 0} → Step V → V → Fields → Charge → V → Type 0
Folds takes m none c z = (c ≡ no_charge) × (z ≡ m)
Folds {V} takes m (field n p others) c z =
    (mid : V) × (first rest : Charge)
    × takes m n p first mid × Folds takes mid others rest z × (c ≡ both first rest)
