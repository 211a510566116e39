use Rattle.std.proofs.Common.{ap, drop}
use Rattle.std.specs.Float.{binary64}
use Rattle.wire_json.proofs.OneReading.{shape_begun}
use Rattle.wire_protojson.specs.DecidedScalars.{floats_decided}
use Rattle.wire_protojson.specs.Numbers.{MeansFloat}
use Rattle.wire_well_known_json.proofs.StructReads.{as_number, scalar_refused}
use Rattle.wire_well_known_json.proofs.structs_read.read_number.Goals as goal

pub returns-in-Err-clause-err : goal.returns-in-Err-clause-err
returns-in-Err-clause-err c =
    let text = c.args.text.now in
    let old = drop c.args.at text in
    scalar_refused (MeansFloat binary64) (floats_decided binary64) text old
    (as_number old (ap shape_begun c.requires)) c.in-Err.error c.in-Err.ensures.err
