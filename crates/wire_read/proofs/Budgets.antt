-- What is left of budgets.
use Rattle.std.proofs.Common.{◌≡◌, ℕ, Option, Some, None, refl, sym, ap, arith}
use Rattle.wire_base.specs.Limits.{HasRoom, less}
use Rattle.wire_read.specs.Budget.{budget, Spends}

pub room_none : (b : Option ℕ) → HasRoom b 0
room_none None = tt
room_none (Some left) = omega arith

pub less_none : (b : Option ℕ) → less b 0 ≡ b
less_none None = refl
less_none (Some left) = ap Some (omega arith)

pub none_spent : (left : ℕ) → Spends 0 left left
none_spent left = (room_none (budget left), sym (less_none (budget left)))
