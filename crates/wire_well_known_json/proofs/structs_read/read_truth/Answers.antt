use Rattle.std.proofs.Common.{◌≡◌, ap, drop, inl, inr}
use Rattle.wire_json.specs.Kind.{kind_begun}
use Rattle.wire_json.proofs.OneReading.{shape_begun}
use Rattle.wire_protojson.specs.DecidedScalars.{bools_decided}
use Rattle.wire_protojson.specs.Scalars.{MeansBool}
use Rattle.wire_well_known_json.proofs.StructReads.{as_bool, scalar_refused}
use Rattle.wire_well_known_json.proofs.structs_read.read_truth.Goals as goal

pub returns-in-Err-clause-err : goal.returns-in-Err-clause-err
returns-in-Err-clause-err c =
    let text = c.args.text.now in
    let old = drop c.args.at text in
    let begun : shape_begun (kind_begun old) ≡ 1 = elim c.requires [
      | inl is_true ↦ ap shape_begun is_true
      | inr is_false ↦ ap shape_begun is_false
    ] in
    scalar_refused MeansBool bools_decided text old (as_bool old begun) c.in-Err.error
    c.in-Err.ensures.err
