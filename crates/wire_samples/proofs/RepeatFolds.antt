-- The records of a `Repeat` fold back to it.
use Rattle.std.proofs.Common.{◌≡◌, ℕ, zero, suc, ◌+◌, ◌^◌, ◌<◌, refl, sym, subst, arith}
use Rattle.std.specs.Prelude.{Bool, true, false}
use Rattle.wire_codec.specs.Folds.{Folds}
use Rattle.wire_codec.specs.InRange.{AreFitting, AreNumbered}
use Rattle.wire_codec.specs.Limits.{no_charge}
use Rattle.wire_codec.specs.LimitsLaws.{ChargesAddUp}
use Rattle.wire_codec.specs.Records.{plain, joined_records}
use Rattle.wire_samples.specs.declared.repeat.Repeat.{Repeat}
use Rattle.wire_samples.specs.Repeat.{RepeatTakes, counted, marked, zeros, extra_record}

abbrev pub repeat_of : ℕ → Bool → Repeat
repeat_of times extra = record { times = times; extra = extra }

extra_folds : ChargesAddUp → (times : ℕ) (extra : Bool)
    → Folds RepeatTakes (repeat_of times false) (plain (extra_record extra)) no_charge
    (repeat_of times extra)
extra_folds charges times false = (refl, refl)
extra_folds charges times true = (
  repeat_of times true,
  no_charge,
  no_charge,
  marked refl refl refl refl,
  (refl, refl),
  sym (charges.nothing_first no_charge),
)

-- so many records more, behind some that were counted
times_fold : ChargesAddUp → (before times : ℕ) (extra : Bool) → before + times < 2 ^ 64
    → Folds RepeatTakes (repeat_of before false)
    (plain (joined_records (zeros times) (extra_record extra))) no_charge
    (repeat_of (before + times) extra)
times_fold charges before zero extra fits =
    let none : before ≡ before + 0 = omega arith in
    subst (λ t. Folds RepeatTakes (repeat_of before false) (plain (extra_record extra)) no_charge
    (repeat_of t extra)) none (extra_folds charges before extra)
times_fold charges before (suc times) extra fits =
    let one_more : (before + 1) + times ≡ before + suc times = omega arith in (
      repeat_of (before + 1) false,
      no_charge,
      no_charge,
      counted refl refl refl (omega (arith, fits)) refl,
      subst (λ t. Folds RepeatTakes (repeat_of (before + 1) false)
          (plain (joined_records (zeros times) (extra_record extra))) no_charge
          (repeat_of t extra)) one_more
          (times_fold charges (before + 1) times extra (omega (arith, fits, one_more))),
      sym (charges.nothing_first no_charge),
    )

pub repeat_folds : ChargesAddUp → (times : ℕ) (extra : Bool) → times < 2 ^ 64
    → Folds RepeatTakes (repeat_of 0 false)
    (plain (joined_records (zeros times) (extra_record extra))) no_charge (repeat_of times extra)
repeat_folds charges times extra fits =
    let from_none : 0 + times ≡ times = omega arith in
    subst (λ t. Folds RepeatTakes (repeat_of 0 false)
    (plain (joined_records (zeros times) (extra_record extra))) no_charge (repeat_of t extra))
    from_none (times_fold charges 0 times extra (omega (arith, fits, from_none)))

pub repeat_fitting : (times : ℕ) (extra : Bool)
    → AreFitting (plain (joined_records (zeros times) (extra_record extra)))
repeat_fitting zero false = tt
repeat_fitting zero true = (omega arith, tt)
repeat_fitting (suc times) extra = (omega arith, repeat_fitting times extra)

pub repeat_numbered : (times : ℕ) (extra : Bool)
    → AreNumbered (plain (joined_records (zeros times) (extra_record extra)))
repeat_numbered zero false = tt
repeat_numbered zero true = ((omega arith, omega arith), tt, tt)
repeat_numbered (suc times) extra = ((omega arith, omega arith), tt, repeat_numbered times extra)
