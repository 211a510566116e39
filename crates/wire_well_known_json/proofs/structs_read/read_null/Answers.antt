use Rattle.std.proofs.Common.{ap, drop}
use Rattle.wire_json.proofs.OneReading.{shape_begun}
use Rattle.wire_well_known_json.proofs.StructReads.{null_refused, null_within}
use Rattle.wire_well_known_json.proofs.structs_read.read_null.Goals as goal

pub returns-in-Ok-clause-ok : goal.returns-in-Ok-clause-ok
returns-in-Ok-clause-ok c =
    let text = c.args.text.now in
    rw c.null_kind.ensures
    (null_within (drop c.args.at text) (drop c.in-Ok.after text) c.in-Ok.ensures.answer)

pub returns-in-Err-clause-err : goal.returns-in-Err-clause-err
returns-in-Err-clause-err c = λ other.
    let text = c.args.text.now in
    null_refused (drop c.args.at text) (ap shape_begun c.requires) (drop c.in-Err.fault.at text)
    c.in-Err.ensures.answer.0
