use Rattle.wire_jsonfields.proofs.Untold.{chosen_untold}
use Rattle.wire_report_json.specs.ReportOriginJson.{device-trees, device-view}
use Rattle.wire_report_json.proofs.report_origin_json.OfDeviceJsonChoice.write.Goals as goal

pub returns-clause-no_text : goal.returns-clause-no_text
returns-clause-no_text c =
    chosen_untold device-trees (λ h. h.now) device-view _ _ c.device_of.ensures
    c.write_chosen.result c.write_chosen.ensures.no_text
