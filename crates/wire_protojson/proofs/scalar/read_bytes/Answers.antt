use Rattle.std.proofs.Common.{drop}
use Rattle.wire_protojson.specs.Scalars.{MeansBytes}
use Rattle.wire_protojson.specs.Tokens.{token_tree}
use Rattle.wire_protojson.proofs.Refusing.{refused_scalar, refused_meaning}
use Rattle.wire_protojson.proofs.scalar.read_bytes.Goals as goal

pub returns-in-Ok-None-clause-err : goal.returns-in-Ok-None-clause-err
returns-in-Ok-None-clause-err c =
    refused_meaning MeansBytes c.args.text.now c.args.at (token_tree c.in-Ok.token)
    (drop c.in-Ok.after c.args.text.now) c.no_value.result c.no_value.ensures c.in-Ok.ensures.ok
    (rw c.in-Ok-None.field-0-is at c.in-Ok-None.ensures)

pub returns-in-Err-clause-err : goal.returns-in-Err-clause-err
returns-in-Err-clause-err c =
    refused_scalar MeansBytes c.args.text.now (drop c.args.at c.args.text.now) c.in-Err.error
    c.in-Err.ensures.err
