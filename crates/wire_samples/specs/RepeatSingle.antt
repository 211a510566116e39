-- What a `Repeat` makes of a record is single.
use Rattle.std.proofs.Common.{◌+◌, sym, ap, ◌∙◌, arith}
use Rattle.std.specs.Prelude.{true}
use Rattle.wire_codec.specs.Folds.{IsSingle}
use Rattle.wire_codec.specs.TakingLaws.{OneReading}
use Rattle.wire_samples.specs.declared.repeat.Repeat.{Repeat}
use Rattle.wire_samples.specs.Repeat.{RepeatTakes, counted, marked}

pub repeat_single : OneReading → IsSingle RepeatTakes
repeat_single reading m u z w n p c d (counted n1 p1 c1 r1 z1) (counted n2 p2 c2 r2 z2) = (
  c1 ∙ sym c2,
  λ same. z1
      ∙ ap (λ (x : Repeat). record { times = x.times + 1; extra = x.extra }) same ∙ sym z2,
)
repeat_single reading m u z w n p c d (counted n1 p1 c1 r1 z1) (marked n2 p2 c2 z2) =
    absurd (omega (arith, n1, n2))
repeat_single reading m u z w n p c d (marked n1 p1 c1 z1) (counted n2 p2 c2 r2 z2) =
    absurd (omega (arith, n1, n2))
repeat_single reading m u z w n p c d (marked n1 p1 c1 z1) (marked n2 p2 c2 z2) = (
  c1 ∙ sym c2,
  λ same. z1
      ∙ ap (λ (x : Repeat). record { times = x.times; extra = true }) same ∙ sym z2,
)
