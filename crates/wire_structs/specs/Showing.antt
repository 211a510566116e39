-- Shapes whose values show less than those of others, and are read where those are.
use Rattle.std.specs.Prelude.{◌≡◌, ℕ}
use Rattle.wire_codec.specs.Field.{Payload}
use Rattle.wire_codec.specs.Folds.{Step}
use Rattle.wire_codec.specs.Limits.{Charge}
use Rattle.wire_fields.specs.Shape.{Shape}

-- What one value takes, what is shown of it takes too, at the same charge, and shows what it
-- becomes; and what is shown of a value takes nothing that the value does not take.
pub record ShowsSteps {V W : Type 0} (show : V → W) (s : Step V) (t : Step W) : Type 0 where
  pub on : (m : V) (n : ℕ) (p : Payload) (c : Charge) (z : V) → s m n p c z
      → t (show m) n p c (show z)
  pub back : (m : V) (n : ℕ) (p : Payload) (c : Charge) (w : W) → t (show m) n p c w
      → (z : V) × s m n p c z × (w ≡ show z)

-- a shape of what is shown
pub record ShowsShape {V W : Type 0} (show : V → W) (s : Shape V) (t : Shape W) : Type 0 where
  pub owns : (n : ℕ) (p : Payload) → t.owns n p ≡ s.owns n p
  pub default : t.default ≡ show s.default
  pub steps : ShowsSteps show s.takes t.takes
