use Rattle.std.proofs.Common.{drop}
use Rattle.wire_jsonfields.proofs.FieldReads.{nothing_of, within_of}
use Rattle.wire_jsonfields.proofs.kind.ImplicitJsonValue.read_json.Goals as goal

pub returns-clause-ok : goal.returns-clause-ok
returns-clause-ok g c =
    let text = c.args.text.now in
    within_of g.S.JsonScalar.means text (drop c.args.at text) c.args._levels
    g.S.JsonScalar.decided (λ read. g.S.JsonScalar.view read.0) (λ read. drop read.1 text)
    c.read_json.result c.read_json.ensures.ok

pub returns-clause-err : goal.returns-clause-err
returns-clause-err g c =
    nothing_of g.S.JsonScalar.means c.args.text.now (drop c.args.at c.args.text.now) c.args._levels
    g.S.JsonScalar.decided c.read_json.result c.read_json.ensures.err
