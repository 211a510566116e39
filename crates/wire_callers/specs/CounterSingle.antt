-- What a `Counter` makes of a record is single.
use Rattle.std.proofs.Common.{◌≡◌, ℕ, sym, ap, ◌∙◌}
use Rattle.wire_codec.specs.Field.{varint}
use Rattle.wire_codec.specs.Folds.{IsSingle}
use Rattle.wire_codec.specs.TakingLaws.{OneReading}
use Rattle.wire_callers.specs.declared.counter.Counter.{Counter}
use Rattle.wire_callers.specs.Counter.{CounterTakes, value, other}

same_number : (v w : ℕ) → varint v ≡ varint w → v ≡ w
same_number v w same = cc

abbrev counter_of : ℕ → Counter
counter_of v = record { value = v }

pub counter_single : OneReading → IsSingle CounterTakes
counter_single reading m u z w n p c d (value v1 n1 p1 c1 z1) (value v2 n2 p2 c2 z2) = (
  c1 ∙ sym c2,
  λ same. z1 ∙ ap counter_of (same_number v1 v2 (sym p1 ∙ p2)) ∙ sym z2,
)
counter_single reading m u z w n p c d (value v1 n1 p1 c1 z1) (other n2 c2 z2) = absurd (n2 n1)
counter_single reading m u z w n p c d (other n1 c1 z1) (value v2 n2 p2 c2 z2) = absurd (n1 n2)
counter_single reading m u z w n p c d (other n1 c1 z1) (other n2 c2 z2) =
    (c1 ∙ sym c2, λ same. z1 ∙ same ∙ sym z2)
