use Rattle.std.proofs.Common.{drop, length-drop, arith}
use Rattle.wire_jsonpath.specs.Items.{LastsFor}
use Rattle.wire_jsonpath.proofs.Holding.{lasts_past, lasts_broken}
use Rattle.wire_jsonpath.proofs.side.side_of.Goals as goal
use Rattle.wire_jsonpath.proofs.side.side_of.Goals.{in_default-via-in-Ok+else-left-text, in_default-via-in_default}

pub returns-then-left-saturating_sub : goal.returns-then-left-saturating_sub
returns-then-left-saturating_sub c =
    let text = c.args.text.now in
    let old = drop c.args.at text in
    record {
      begun = omega (arith, length-drop c.args.at text);
      lasts = elim c.in_default.branch as (λ _. LastsFor c.args.levels c.args.left old) [
        | in_default-via-in-Ok+else-left-text w ↦
            let (json, reads, fits) = w.in-Ok.ensures.ok in
            lasts_past c.args.levels c.args.left json old (drop w.in-Ok.after text) reads
            (omega (arith, length-drop w.in-Ok.after text, w.if-left-text.false))
        | in_default-via-in_default w ↦
            let fault = w.in_default.field-0 in
            lasts_broken c.args.levels c.args.left old fault.kind (drop fault.at text)
            w.in_default.ensures.fault
      ];
    }

pub returns-else-left-saturating_sub : goal.returns-else-left-saturating_sub
returns-else-left-saturating_sub c =
    let text = c.args.text.now in
    let old = drop c.args.at text in (
      omega (arith, length-drop c.args.at text),
      elim c.in_default.branch as (λ _. LastsFor c.args.levels c.args.left old) [
        | in_default-via-in-Ok+else-left-text w ↦
            let (json, reads, fits) = w.in-Ok.ensures.ok in
            lasts_past c.args.levels c.args.left json old (drop w.in-Ok.after text) reads
            (omega (arith, length-drop w.in-Ok.after text, w.if-left-text.false))
        | in_default-via-in_default w ↦
            let fault = w.in_default.field-0 in
            lasts_broken c.args.levels c.args.left old fault.kind (drop fault.at text)
            w.in_default.ensures.fault
      ],
    )
