use Rattle.wire_codec.specs.ValueMap.{sint32}
use Rattle.wire_fields.specs.Numbers.{numeric}
use Rattle.wire_fields.specs.declared.form.Form.TheVariants.{Varint}
use Rattle.wire_report_structs.specs.ReportLastEntry.{report_last_entry-key-kind}
use Rattle.wire_report_structs.specs.ReportLastEntry.{report_last_entry-known}
use Rattle.wire_report_structs.specs.ReportLastEntry.{report_last_entry-shape}
use Rattle.wire_report_structs.specs.ReportLastEntry.{report_last_entry-value-kind}
use Rattle.wire_report_structs.specs.ReportSample.{report_sample-shape}
use Rattle.wire_structs.proofs.KeptUnknown.{keeps_unknown}
use Rattle.wire_structs.specs.ListLaws.{HasLevels, flat_numeric, known_levels, merges_levels}
use Rattle.wire_structs.specs.ListLaws.{sets_levels, two_levels, unknown_levels}
use Rattle.wire_report_structs.proofs.laws.report_last_entry_in_c_keeps_unknown.Goals as goal

report_last_entry-levels : HasLevels report_last_entry-shape
report_last_entry-levels =
    two_levels _ _
    (two_levels _ _
    (known_levels 1 report_last_entry-key-kind
    (sets_levels (numeric Varint sint32) (flat_numeric Varint sint32)))
    (known_levels 2 report_last_entry-value-kind
    (merges_levels report_sample-shape.takes report_sample-shape.default)))
    unknown_levels

pub returns : goal.returns
returns c = keeps_unknown report_last_entry-known report_last_entry-levels
