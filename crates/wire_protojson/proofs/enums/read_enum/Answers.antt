use Rattle.std.proofs.Common.{drop}
use Rattle.wire_protojson.specs.Enums.{MeansEnum, enum_table}
use Rattle.wire_protojson.specs.Tokens.{token_tree}
use Rattle.wire_protojson.proofs.Refusing.{refused_scalar, refused_meaning}
use Rattle.wire_protojson.proofs.enums.read_enum.Goals as goal

pub returns-in-Ok-clause-err : goal.returns-in-Ok-clause-err
returns-in-Ok-clause-err c =
    refused_meaning (MeansEnum (enum_table c.args.names.now)) c.args.text.now c.args.at (token_tree c.in-Ok.token)
    (drop c.in-Ok.after c.args.text.now) c.no_value.result c.no_value.ensures c.in-Ok.ensures.ok
    c.in-None.ensures.none

pub returns-clause-err : goal.returns-clause-err
returns-clause-err c =
    refused_scalar (MeansEnum (enum_table c.args.names.now)) c.args.text.now (drop c.args.at c.args.text.now)
    c.in-Err.error c.in-Err.ensures.err
