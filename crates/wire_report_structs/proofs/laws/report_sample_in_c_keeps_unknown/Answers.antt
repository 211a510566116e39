use Rattle.std.specs.Prelude.{IsUtf8}
use Rattle.wire_codec.specs.ValueMap.{int64}
use Rattle.wire_fields.specs.Floats.{double}
use Rattle.wire_fields.specs.Numbers.{numeric}
use Rattle.wire_fields.specs.Texts.{string}
use Rattle.wire_fields.specs.declared.form.Form.TheVariants.{Fixed64, Varint}
use Rattle.wire_report_structs.specs.ReportSample.{report_sample-count-kind, report_sample-known}
use Rattle.wire_report_structs.specs.ReportSample.{report_sample-name-kind, report_sample-shape}
use Rattle.wire_report_structs.specs.ReportSample.{report_sample-value-kind}
use Rattle.wire_structs.proofs.KeptUnknown.{keeps_unknown}
use Rattle.wire_structs.specs.ListLaws.{HasLevels, flat_delimited, flat_numeric, known_levels}
use Rattle.wire_structs.specs.ListLaws.{sets_levels, some_levels, two_levels, unknown_levels}
use Rattle.wire_report_structs.proofs.laws.report_sample_in_c_keeps_unknown.Goals as goal

report_sample-levels : HasLevels report_sample-shape
report_sample-levels =
    two_levels _ _
    (two_levels _ _
    (two_levels _ _
    (known_levels 1 report_sample-name-kind
    (sets_levels string (flat_delimited IsUtf8)))
    (known_levels 2 report_sample-value-kind
    (sets_levels (numeric Fixed64 double) (flat_numeric Fixed64 double))))
    (known_levels 3 report_sample-count-kind
    (some_levels (numeric Varint int64) (flat_numeric Varint int64))))
    unknown_levels

pub returns : goal.returns
returns c = keeps_unknown report_sample-known report_sample-levels
