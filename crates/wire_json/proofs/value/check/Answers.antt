use Rattle.std.proofs.Common.{◌≡◌, ◌≢◌, ℕ, List, [], length, drop, sym, subst, ap, ◌∙◌, arith, length-drop}
use Rattle.std.proofs.lemmas.Result.{err_from_is_err_and}
use Rattle.wire_json.specs.declared.fault.FaultKind.TheVariants.{Syntax}
use Rattle.wire_json.specs.Bytes.{past_space}
use Rattle.wire_json.specs.Fault.{TextFault, in_value, behind_value}
use Rattle.wire_json.proofs.Beside.{no_text_beside_fault_lemma}
use Rattle.wire_json.proofs.value.check.Goals as goal

pub returns-in_err-after-clause-fault : goal.returns-in_err-after-clause-fault
returns-in_err-after-clause-fault c =
    let p = err_from_is_err_and c.from_residual.result c.from_residual.ensures.1 in
    let fault = rw c.skip_space.ensures.space at c.in_err-after.ensures.fault in
    rw (p.1, p.2) (in_value fault)

pub returns-then-end-text-clause-fault : goal.returns-then-end-text-clause-fault
returns-then-end-text-clause-fault c =
    let text = c.args.text.now in
    let (json, reads, fits) = c.in_ok-after.ensures.ok in
    let read = rw c.skip_space.ensures.space at reads in
    let rest = drop c.in_ok-after.after text in
    let end = c.skip_space-end.result in
    let more : past_space rest ≢ [] = λ none.
    let empty : length (drop end text) ≡ 0 = ap length (c.skip_space-end.ensures.space ∙ none) in
    omega (arith, empty, length-drop end text, c.if-end-text.true) in
    let P : List ℕ → Type 0 = λ here. TextFault c.args.levels text Syntax here in
    rw c.syntax.ensures (subst P (sym c.skip_space-end.ensures.space)
    (behind_value json rest read fits more))

pub returns-in_err-after-clause-refused : goal.returns-in_err-after-clause-refused
returns-in_err-after-clause-refused c =
    let p = err_from_is_err_and c.from_residual.result c.from_residual.ensures.1 in
    let text = c.args.text.now in
    let e = c.in_err-after.field-0.0 in
    let fault = rw c.skip_space.ensures.space at c.in_err-after.ensures.fault in
    rw p.1 (λ json spelled fits. no_text_beside_fault_lemma c.args.levels text json e.kind
    (drop e.at text) spelled fits (in_value fault))

pub returns-then-end-text-clause-refused : goal.returns-then-end-text-clause-refused
returns-then-end-text-clause-refused c =
    let text = c.args.text.now in
    let (json, reads, fits) = c.in_ok-after.ensures.ok in
    let read = rw c.skip_space.ensures.space at reads in
    let rest = drop c.in_ok-after.after text in
    let end = c.skip_space-end.result in
    let more : past_space rest ≢ [] = λ none.
    let empty : length (drop end text) ≡ 0 = ap length (c.skip_space-end.ensures.space ∙ none) in
    omega (arith, empty, length-drop end text, c.if-end-text.true) in
    λ other spelled deep. no_text_beside_fault_lemma c.args.levels text other Syntax
    (past_space rest) spelled deep (behind_value json rest read fits more)
