use Rattle.std.proofs.Common.{sym, ◌∙◌}
use Rattle.std.proofs.lemmas.List.{drop_all}
use Rattle.std.proofs.lemmas.Result.{err_from_is_err_and}
use Rattle.wire_fields.proofs.Closing.{next_number, one_sorted, one_left, one_fits, rest_fits}
use Rattle.wire_fields.proofs.Closing.{one_grew, one_fits_first}
use Rattle.wire_fields.proofs.closed.sort_numbers.Goals as goal

pub returns-in_err-sort_number-clause-err : goal.returns-in_err-sort_number-clause-err
returns-in_err-sort_number-clause-err g c =
    let p = err_from_is_err_and c.from_residual.result c.from_residual.ensures.1 in
    let front = next_number c.args.numbers.now c.loop-x.x-index _ c.loop-x-test.true in
    rw (p.1, p.2) (λ other whole. c.in_err-sort_number.ensures.err other
    (one_fits_first g.E.Enumeration.of_number c.limits_add_up.ensures _ _ _ front _
    (c.loop-x.invariant.only whole)))

pub loop-x-preserved : goal.loop-x-preserved
loop-x-preserved g c =
    let of_number = g.E.Enumeration.of_number in
    let limits = c.limits_add_up.ensures in
    let front = next_number c.args.numbers.now c.loop-x.x-index _ c.loop-x-test.true in
    let left = c.in_ok-sort_number.ensures.left in
    record {
      sorted = one_sorted of_number c.args.number limits _ _ _ front _ _ left _ _
          c.in_ok-sort_number.ensures.ok ∙ c.loop-x.invariant.sorted;
      left = one_left of_number c.args.number limits _ _ _ front _ _ left ∙ c.loop-x.invariant.left;
      fits = λ rest. c.loop-x.invariant.fits
          (one_fits of_number c.args.number limits _ _ _ front _ _ left
          c.in_ok-sort_number.ensures.fits rest);
      only = λ whole. rest_fits of_number c.args.number limits _ _ _ front _ _ left
          (c.loop-x.invariant.only whole);
      grew = one_grew of_number c.args.number limits _ _ _ front _ _ left
          c.levels_and_counts.ensures.counts _ c.loop-x.invariant.grew;
    }

pub returns-clause-ok : goal.returns-clause-ok
returns-clause-ok g c =
    let done = drop_all c.loop-x.x-index c.args.numbers.now c.loop-x-test.false in
    rw done at c.loop-x.invariant.sorted

pub returns-clause-left : goal.returns-clause-left
returns-clause-left g c =
    let done = drop_all c.loop-x.x-index c.args.numbers.now c.loop-x-test.false in
    sym (c.limits_add_up.ensures.left_after_nothing _) ∙ rw done at c.loop-x.invariant.left

pub returns-clause-fits : goal.returns-clause-fits
returns-clause-fits g c =
    let done = drop_all c.loop-x.x-index c.args.numbers.now c.loop-x-test.false in
    (rw done at c.loop-x.invariant.fits) (c.limits_add_up.ensures.nothing_fits _)
