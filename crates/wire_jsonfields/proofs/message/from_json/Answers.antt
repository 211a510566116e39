use Rattle.std.proofs.Common.{◌≡◌, [], length, drop, ap, ◌∙◌, arith, length-drop}
use Rattle.wire_json.specs.Bytes.{past_space}
use Rattle.wire_json.proofs.OneReading.{one_value_lemma}
use Rattle.wire_jsonfields.proofs.message.from_json.Goals as goal

pub returns-then-end-text-clause-err : goal.returns-then-end-text-clause-err
returns-then-end-text-clause-err g c = λ other value whole.
    let text = c.args.text.now in
    let rest = drop c.in-Ok.after text in
    let (json, spelled, deep, meant) = whole in
    let (tree, reads, fits, means) = c.in-Ok.ensures.ok in
    let read = rw c.skip_space-at.ensures.space at reads in
    let same = one_value_lemma tree json (past_space text) rest spelled.0 read spelled.1 in
    let end = c.skip_space-end.result in
    let none : past_space rest ≡ [] = ap past_space same.1 ∙ spelled.2 in
    let empty : length (drop end text) ≡ 0 = ap length (c.skip_space-end.ensures.space ∙ none) in
    omega (arith, empty, length-drop end text, c.if-end-text.true)

pub returns-in-Err-clause-err : goal.returns-in-Err-clause-err
returns-in-Err-clause-err g c = λ other value whole.
    let (json, spelled, fits, means) = whole in
    let none = rw c.skip_space-at.ensures.space at (c.in-Err.ensures.err other) in
    none value spelled.0 (json, spelled.1, fits, means)
