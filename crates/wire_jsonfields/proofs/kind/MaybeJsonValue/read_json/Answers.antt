use Rattle.std.proofs.Common.{drop}
use Rattle.wire_jsonfields.proofs.FieldReads.{none_some}
use Rattle.wire_jsonfields.proofs.kind.MaybeJsonValue.read_json.Goals as goal

pub returns-in-Err-clause-err : goal.returns-in-Err-clause-err
returns-in-Err-clause-err g c = λ other.
    none_some g.V.JsonValue.means c.args.text.now (drop c.args.at c.args.text.now) c.args.levels
    (c.in-Err.ensures.err other)
