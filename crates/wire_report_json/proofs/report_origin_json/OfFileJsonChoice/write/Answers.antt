use Rattle.wire_jsonfields.proofs.Untold.{chosen_untold}
use Rattle.wire_report_json.specs.ReportOriginJson.{file-trees, file-view}
use Rattle.wire_report_json.proofs.report_origin_json.OfFileJsonChoice.write.Goals as goal

pub returns-clause-no_text : goal.returns-clause-no_text
returns-clause-no_text c =
    chosen_untold file-trees (λ h. h.now) file-view _ _ c.file_of.ensures
    c.write_chosen.result c.write_chosen.ensures.no_text
