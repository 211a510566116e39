use Rattle.wire_jsonfields.proofs.Untold.{chosen_untold}
use Rattle.wire_report_json.specs.ReportOriginJson.{sample-trees, sample-view}
use Rattle.wire_report_json.proofs.report_origin_json.OfSampleJsonChoice.write.Goals as goal

pub returns-clause-no_text : goal.returns-clause-no_text
returns-clause-no_text c =
    chosen_untold sample-trees (λ h. h.now) sample-view _ _ c.sample_of.ensures
    c.write_chosen.result c.write_chosen.ensures.no_text
