use Rattle.std.proofs.Common.{◌≡◌, ◌≢◌, ℕ, List, [], length, drop, sym, subst, ap, ◌∙◌, arith, length-drop}
use Rattle.std.proofs.lemmas.Result.{err_from_is_err_and}
use Rattle.wire_json.specs.declared.fault.FaultKind.TheVariants.{Syntax}
use Rattle.wire_json.specs.Bytes.{past_space}
use Rattle.wire_json.specs.Fault.{TextFault, behind_value}
use Rattle.wire_json.proofs.Compacting.{in_text}
use Rattle.wire_json.proofs.compaction.compact.Goals as goal

pub returns-in_err-after-clause-fault : goal.returns-in_err-after-clause-fault
returns-in_err-after-clause-fault c =
    let p = err_from_is_err_and c.from_residual.result c.from_residual.ensures.1 in
    let text = c.args.text.now in
    rw (p.1, p.2) (in_text text (drop c.skip_space.result text) c.args.levels
    c.skip_space.ensures.space c.in_err-after.field-0.0 c.in_err-after.ensures.fault)

pub returns-then-end-text-clause-fault : goal.returns-then-end-text-clause-fault
returns-then-end-text-clause-fault c =
    let text = c.args.text.now in
    let (json, reads, fits, put) = c.in_ok-after.ensures.ok in
    let read = rw c.skip_space.ensures.space at reads in
    let rest = drop c.in_ok-after.after text in
    let end = c.skip_space-end.result in
    let more : past_space rest ≢ [] = λ none.
    let empty : length (drop end text) ≡ 0 = ap length (c.skip_space-end.ensures.space ∙ none) in
    omega (arith, empty, length-drop end text, c.if-end-text.true) in
    let P : List ℕ → Type 0 = λ here. TextFault c.args.levels text Syntax here in
    rw c.syntax.ensures (subst P (sym c.skip_space-end.ensures.space)
    (behind_value json rest read fits more))
