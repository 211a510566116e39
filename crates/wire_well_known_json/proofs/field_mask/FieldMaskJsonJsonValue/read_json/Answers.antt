use Rattle.std.proofs.Common.{drop}
use Rattle.std.proofs.lemmas.Result.{err_from_is_err_and}
use Rattle.wire_jsonfields.proofs.FieldReads.{refused_nothing}
use Rattle.wire_well_known_json.specs.Masks.{MeansMask}
use Rattle.wire_well_known_json.proofs.MaskReading.{mask_decided}
use Rattle.wire_well_known_json.proofs.field_mask.FieldMaskJsonJsonValue.read_json.Goals as goal

pub returns-in_err-paths-clause-err : goal.returns-in_err-paths-clause-err
returns-in_err-paths-clause-err c =
    let p = err_from_is_err_and c.from_residual.result c.from_residual.ensures.1 in
    let text = c.args.text.now in
    rw (p.1, p.2) (refused_nothing MeansMask text (drop c.args.at text) c.args._levels
    mask_decided c.in_err-paths.field-0.0 c.in_err-paths.ensures.err)
