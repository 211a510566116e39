use Rattle.std.proofs.Common.{ap, drop}
use Rattle.wire_json.proofs.OneReading.{shape_begun}
use Rattle.wire_protojson.specs.DecidedScalars.{strings_decided}
use Rattle.wire_protojson.specs.Scalars.{MeansString}
use Rattle.wire_well_known_json.proofs.StructReads.{as_string, scalar_refused}
use Rattle.wire_well_known_json.proofs.structs_read.read_text.Goals as goal

pub returns-in-Err-clause-err : goal.returns-in-Err-clause-err
returns-in-Err-clause-err c =
    let text = c.args.text.now in
    let old = drop c.args.at text in
    scalar_refused MeansString strings_decided text old (as_string old (ap shape_begun c.requires))
    c.in-Err.error c.in-Err.ensures.err
