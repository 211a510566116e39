-- The algebra of limits and charges. Each statement is proved as the contract of a law of
-- src/laws.rt.
use Rattle.std.specs.Prelude.{◌≡◌, ℕ, ◌<◌, ◌↔◌}
use Rattle.wire_base.specs.Charge.{total, payload_charge, charge}
use Rattle.wire_base.specs.Field.{Payload, Fields, joined}
use Rattle.wire_base.specs.Limits.{Limits, Charge, Fits, NoCountGrew, left_after, both, no_charge, nested, inner, outer}

-- charges are added up, and nothing is the charge of nothing
pub record ChargesAddUp : Type 0 where
  pub assoc : (a b c : Charge) → both (both a b) c ≡ both a (both b c)
  pub nothing_first : (a : Charge) → both no_charge a ≡ a
  pub nothing_last : (a : Charge) → both a no_charge ≡ a
  pub lists : (charge_of : ℕ → Payload → Charge) (fs gs : Fields)
      → total charge_of (joined fs gs) ≡ both (total charge_of fs) (total charge_of gs)
  pub kept_records : (fs : Fields) → charge fs ≡ total (λ n p. payload_charge p) fs

-- a sum fits exactly where its first part fits and its second fits what is left
pub record LimitsAddUp : Type 0 where
  pub both_fit : (l : Limits) (a b : Charge) → Fits (both a b) l
      ↔ (Fits a l × Fits b (left_after l a))
  pub left_after_both : (l : Limits) (a b : Charge)
      → left_after (left_after l a) b ≡ left_after l (both a b)
  pub nothing_fits : (l : Limits) → Fits no_charge l
  pub left_after_nothing : (l : Limits) → left_after l no_charge ≡ l

-- a charge one level down fits exactly where there is a level and it fits what is left there
pub record LevelsAddUp : Type 0 where
  pub nested_fits : (l : Limits) (c : Charge) → Fits (nested c) l
      ↔ ((0 < l.depth) × Fits c (inner l))
  pub left_after_nested : (l : Limits) (c : Charge) → 0 < l.depth
      → outer (left_after (inner l) c) ≡ left_after l (nested c)

-- counts that do not grow
pub record CountsFall : Type 0 where
  pub unchanged : (l : Limits) → NoCountGrew l l
  pub after : (l : Limits) (c : Charge) → NoCountGrew l (left_after l c)
  pub again : (l m k : Limits) → NoCountGrew l m → NoCountGrew m k → NoCountGrew l k
