-- The years from 1 on.
use Rattle.std.proofs.Common.{◌≡◌, ℕ, suc, ◌+◌, ◌<◌, ◌≤◌, Bool, true, false, ◌&&◌, nat_lt, ◌/◌, ◌%◌, refl, sym, ap, arith, ℤ, pos, negsuc, neg_ℤ, ◌+ℤ◌, ◌<ℤ◌, ◌≤ℤ◌, unsigned_abs}
use Rattle.std.proofs.lemmas.Bool.Decides.{nat_tests}
use Rattle.std.proofs.lemmas.Int.{by_lt_z}
use Rattle.jiff_core.specs.declared.civil.date.Date.{Date}
use Rattle.jiff_core.specs.Calendar.{day_count, days_from_civil, days_in_month}
use Rattle.jiff_core.specs.Date.{epoch_day}
use Rattle.std.specs.Prelude.{◌*ℤ◌}
use Rattle.wire_jsontimes.specs.Timestamps.{IsTimestamp, is_date, is_second}
use Rattle.jiff_core.proofs.CalendarLemmas.{days_from_civil-day_count, day_count-lt_year}
use Rattle.jiff_core.proofs.DateLemmas.{civil}
use Rattle.jiff_core.proofs.MarchLemmas.{day_count-early}
use Rattle.jiff_core.proofs.SignedLemmas.{signed_arith}

first_count : day_count (pos 1) 1 1 ≡ 3_652_791
first_count = day_count-early (pos 1) 10000 1 1 refl (omega arith) (omega arith) (omega arith)

-- a day from 0001-01-01 on is of a year from 1 on
pub from_first_year : (d : Date) → neg_ℤ (pos 719_162) ≤ℤ epoch_day d → pos 1 ≤ℤ d.year
from_first_year d late =
    by_lt_z d.year (pos 1)
    (λ before. absurd (omega (
      arith,
      signed_arith,
      late,
      first_count,
      days_from_civil-day_count,
      day_count-lt_year d.year d.month d.day (pos 1) 1 1 (civil d) (omega arith) before,
    )))
    (λ le. omega (arith, signed_arith, le))

below : (n most : ℕ) → n < most → nat_lt n most ≡ true
below n most small = grind (arith, nat_tests)

both : (a b : Bool) → a ≡ true → b ≡ true → (a && b) ≡ true
both true true h k = refl
both false b h k = absurd cc
both true false h k = absurd cc

of_positive : (z : ℤ) → pos 1 ≤ℤ z → pos (unsigned_abs z) ≡ z
of_positive (pos n) h = refl
of_positive (negsuc n) h = absurd (omega (arith, signed_arith, h))

-- the date of a day from the first year on
module _ (d : Date) (late : neg_ℤ (pos 719_162) ≤ℤ epoch_day d) where
  same_year : pos (unsigned_abs d.year) ≡ d.year
  same_year = of_positive d.year (from_first_year d late)

  year_counts : (0 < unsigned_abs d.year) × (unsigned_abs d.year < 10_000)
  year_counts =
      let first = from_first_year d late in
      let last = d.year_in.1 in
      let same = same_year in
      (omega (arith, signed_arith, first, same), omega (arith, signed_arith, last, same))

  pub date_of_day : is_date (unsigned_abs d.year) d.month d.day ≡ true
  date_of_day =
      let most : days_in_month (pos (unsigned_abs d.year)) d.month ≡ days_in_month d.year d.month =
      ap (λ (z : ℤ). days_in_month z d.month) same_year in
      let day = d.day_in in
      let month = d.month_in in
      both (nat_lt 0 (unsigned_abs d.year)) _ (below 0 (unsigned_abs d.year) year_counts.0)
      (both (nat_lt 0 d.month) _ (below 0 d.month (omega (arith, month)))
      (both (nat_lt d.month 13) _ (below d.month 13 (omega (arith, month)))
      (both (nat_lt 0 d.day) _ (below 0 d.day (omega (arith, day)))
      (below d.day (suc (days_in_month (pos (unsigned_abs d.year)) d.month))
      (omega (arith, day, most))))))

  pub number_of_day : days_from_civil (pos (unsigned_abs d.year)) d.month d.day ≡ epoch_day d
  number_of_day = ap (λ (z : ℤ). days_from_civil z d.month d.day) same_year

  pub stamped : (s n : ℤ) (since : ℕ) → is_second s ≡ true
      → pos since ≡ s +ℤ pos 62_135_596_800
      → epoch_day d +ℤ pos 4_371_587 ≡ pos (since / 86_400 + 3_652_425) → pos 0 ≤ℤ n
      → n ≤ℤ pos 999_999_999
      → IsTimestamp (unsigned_abs d.year) d.month d.day (since % 86_400) (unsigned_abs n) (s, n)
  stamped s n since in_range from day low high = record {
    date = date_of_day;
    year = year_counts.1;
    few_seconds = omega arith;
    few_nanos = omega (arith, signed_arith, low, high, whole n low);
    seconds = at_second (days_from_civil (pos (unsigned_abs d.year)) d.month d.day)
        (epoch_day d) number_of_day day from;
    fraction = sym (whole n low);
    in_range = in_range;
  }
    where
      whole : (z : ℤ) → pos 0 ≤ℤ z → pos (unsigned_abs z) ≡ z
      whole (pos n) h = refl
      whole (negsuc n) h = absurd (omega (arith, signed_arith, h))

      at_second : (number day : ℤ) → number ≡ day
          → day +ℤ pos 4_371_587 ≡ pos (since / 86_400 + 3_652_425)
          → pos since ≡ s +ℤ pos 62_135_596_800
          → s ≡ number *ℤ pos 86_400 +ℤ pos (since % 86_400)
      at_second number day is there from = omega (arith, signed_arith, is, there, from)

late_enough : (e : ℤ) (n : ℕ) → e +ℤ pos 4_371_587 ≡ pos (n + 3_652_425) → neg_ℤ (pos 719_162) ≤ℤ e
late_enough e n is = omega (arith, signed_arith, is)

pub stamp_back : (d : Date) (s n : ℤ) (since : ℕ) → is_second s ≡ true
    → pos since ≡ s +ℤ pos 62_135_596_800
    → epoch_day d +ℤ pos 4_371_587 ≡ pos (since / 86_400 + 3_652_425) → pos 0 ≤ℤ n
    → n ≤ℤ pos 999_999_999
    → IsTimestamp (unsigned_abs d.year) d.month d.day (since % 86_400) (unsigned_abs n) (s, n)
stamp_back d s n since in_range from day low high =
    stamped d (late_enough (epoch_day d) (since / 86_400) day) s n since in_range from day low high
