use Rattle.std.proofs.Common.{rules, ◌∙◌, ◌≤◌, None}
use Rattle.wire_codec.specs.Limits.{Limits}
use Rattle.wire_codec.specs.Records.{text_size}
use Rattle.wire_report.specs.Report.{report-value, report-shape, report-range}
use Rattle.wire_count.proofs.reports.stored.Goals as goal

pub returns-in-Ok-decode_from_slice-clause-same : goal.returns-in-Ok-decode_from_slice-clause-same
returns-in-Ok-decode_from_slice-clause-same c =
    let report = report-value c.in-Ok.report in
    let read = c.in-Ok.ensures.ok in
    let made = c.in-Ok-try_encode_to_vec.is in
    let within : text_size (report-shape.records report) ≤ 2147483647 =
    rw made at c.try_encode_to_vec.ensures.within in
    let items = rw made at c.try_encode_to_vec.ensures.ok in
    let encoded = c.deref.ensures.value ∙ items in
    let short = c.whole_is_short.ensures (report-shape.records report) within in
    let held = c.report_decodes_in_range.ensures _ _ report c.slice_has_bytes.ensures read short in
    let taken = report-range.charge_of report in
    let room : Limits = record {
      depth = taken.depth;
      counts = record { unknown_fields = None; element_memory = None; unknown_bytes = None };
    } in
    let decoded = c.report_reads_back.ensures room report held (search rules) in
    let again = rw encoded at c.in-Ok-decode_from_slice.ensures.ok.1 in
    (c.taken_in_one_way.ensures _ _ _ _ _ _ _ _ _ _ _ again decoded).1

pub returns-in-Err-decode_from_slice-clause-fault :
    goal.returns-in-Err-decode_from_slice-clause-fault
returns-in-Err-decode_from_slice-clause-fault c =
    let items = rw c.in-Ok-try_encode_to_vec.is at c.try_encode_to_vec.ensures.ok in
    let encoded = c.deref.ensures.value ∙ items in
    λ other. (
      report-value c.in-Ok.report,
      c.in-Ok.ensures.ok,
      rw encoded at c.in-Err-decode_from_slice.ensures.err other,
    )
