use Rattle.std.proofs.Common.{drop}
use Rattle.std.proofs.lemmas.Result.{err_from_is_err_and}
use Rattle.wire_json.proofs.Numbers.{integer_fault, fraction_fault, exponent_fault}
use Rattle.wire_json.proofs.number.skip_number.Goals as goal

pub returns-in_err-integer-clause-answer : goal.returns-in_err-integer-clause-answer
returns-in_err-integer-clause-answer c =
    let p = err_from_is_err_and c.from_residual.result c.from_residual.ensures.1 in
    let text = c.args.text.now in
    let (fault, kind) = c.in_err-integer.ensures.answer in
    rw (p.1, p.2) (
      integer_fault (drop c.args.at text) (drop c.skip_minus.result text)
          c.skip_minus.ensures.minus (drop c.in_err-integer.field-0.0.at text) fault,
      kind,
    )

pub returns-in_err-fraction-clause-answer : goal.returns-in_err-fraction-clause-answer
returns-in_err-fraction-clause-answer c =
    let p = err_from_is_err_and c.from_residual-in_err-fraction.result
    c.from_residual-in_err-fraction.ensures.1 in
    let text = c.args.text.now in
    let (fault, kind) = c.in_err-fraction.ensures.answer in
    rw (p.1, p.2) (
      fraction_fault (drop c.args.at text) (drop c.skip_minus.result text)
          c.skip_minus.ensures.minus (drop c.in_ok-integer.integer text) c.in_ok-integer.ensures.answer
          (drop c.in_err-fraction.field-0.0.at text) fault,
      kind,
    )

pub returns-in_err-end-clause-answer : goal.returns-in_err-end-clause-answer
returns-in_err-end-clause-answer c =
    let p = err_from_is_err_and c.from_residual-in_err-end.result
    c.from_residual-in_err-end.ensures.1 in
    let text = c.args.text.now in
    let (fault, kind) = c.in_err-end.ensures.answer in
    rw (p.1, p.2) (
      exponent_fault (drop c.args.at text) (drop c.skip_minus.result text)
          c.skip_minus.ensures.minus (drop c.in_ok-integer.integer text) c.in_ok-integer.ensures.answer
          (drop c.in_ok-fraction.fraction text) c.in_ok-fraction.ensures.answer
          (drop c.in_err-end.field-0.0.at text) fault,
      kind,
    )
