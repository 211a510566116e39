use Rattle.std.proofs.Common.{ap, drop, sym, ◌∙◌}
use Rattle.std.specs.Prelude.{string_bytes}
use Rattle.wire_jsontimes.proofs.Reading.{refused_string}
use Rattle.wire_protojson.proofs.Refusing.{refused_meaning}
use Rattle.wire_well_known_json.specs.Masks.{MeansMask, mask_of}
use Rattle.wire_well_known_json.proofs.MaskReading.{mask_is_string, no_mask}
use Rattle.wire_well_known_json.proofs.masks.read_mask.Goals as goal

pub returns-in-Ok-None-clause-err : goal.returns-in-Ok-None-clause-err
returns-in-Ok-None-clause-err c =
    let text = c.args.text.now in
    let (json, reads, means) = c.in-Ok.ensures.ok in
    let none = ap mask_of (sym c.as_str.ensures.value)
    ∙ rw c.in-Ok-None.field-0-is at c.in-Ok-None.ensures in
    refused_meaning MeansMask text c.args.at json (drop c.in-Ok.after text) c.no_value.result
    c.no_value.ensures reads (no_mask json (string_bytes c.in-Ok.string) means none)

pub returns-clause-err : goal.returns-clause-err
returns-clause-err c =
    let text = c.args.text.now in
    refused_string MeansMask mask_is_string text (drop c.args.at text) c.in-Err.error
    c.in-Err.ensures.err
