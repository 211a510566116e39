use Rattle.std.specs.Prelude.{IsUtf8}
use Rattle.wire_fields.specs.Texts.{string}
use Rattle.wire_report_structs.specs.ReportLabelsEntry.{report_labels_entry-key-kind}
use Rattle.wire_report_structs.specs.ReportLabelsEntry.{report_labels_entry-known}
use Rattle.wire_report_structs.specs.ReportLabelsEntry.{report_labels_entry-shape}
use Rattle.wire_report_structs.specs.ReportLabelsEntry.{report_labels_entry-value-kind}
use Rattle.wire_structs.proofs.KeptUnknown.{keeps_unknown}
use Rattle.wire_structs.specs.ListLaws.{HasLevels, flat_delimited, known_levels, sets_levels}
use Rattle.wire_structs.specs.ListLaws.{two_levels, unknown_levels}
use Rattle.wire_report_structs.proofs.laws.report_labels_entry_in_c_keeps_unknown.Goals as goal

report_labels_entry-levels : HasLevels report_labels_entry-shape
report_labels_entry-levels =
    two_levels _ _
    (two_levels _ _
    (known_levels 1 report_labels_entry-key-kind
    (sets_levels string (flat_delimited IsUtf8)))
    (known_levels 2 report_labels_entry-value-kind
    (sets_levels string (flat_delimited IsUtf8))))
    unknown_levels

pub returns : goal.returns
returns c = keeps_unknown report_labels_entry-known report_labels_entry-levels
