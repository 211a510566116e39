use Rattle.std.proofs.Common.{drop}
use Rattle.std.proofs.lemmas.Result.{IfErr-weaker}
use Rattle.wire_well_known_json.proofs.NullReads.{none_named, null_read}
use Rattle.wire_well_known_json.proofs.null_value.NullValueJsonJsonValue.read_json.Goals as goal

pub returns-then-not-is_null-clause-err : goal.returns-then-not-is_null-clause-err
returns-then-not-is_null-clause-err c =
    IfErr-weaker c.read_named.result _ _
    (λ e h other. none_named (drop c.args.at c.args.text.now) c.args.levels
    c.if-not-is_null.ensures (h other)) c.read_named.ensures.err

pub returns-in-Ok-clause-ok : goal.returns-in-Ok-clause-ok
returns-in-Ok-clause-ok c =
    let text = c.args.text.now in
    rw c.from.ensures.number
    (null_read (drop c.args.at text) c.args.levels (drop c.in-Ok.after text)
    c.in-Ok.ensures.answer)
