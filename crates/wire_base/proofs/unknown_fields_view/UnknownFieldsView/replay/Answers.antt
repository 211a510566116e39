use Rattle.wire_base.proofs.Spans.{joined_spelled, in_range, only_spelled, uses_all}
use Rattle.wire_base.proofs.unknown_fields_view.UnknownFieldsView.replay.Goals as goal

pub returns-clause-spelled : goal.returns-clause-spelled
returns-clause-spelled c = joined_spelled _ c.read_spans.result c.read_spans.ensures.each

pub returns-clause-in_range : goal.returns-clause-in_range
returns-clause-in_range c =
    let read = c.read_spans.ensures in in_range _ c.read_spans.result read.each read.fitting

pub returns-clause-only : goal.returns-clause-only
returns-clause-only c =
    let read = c.read_spans.ensures in only_spelled _ _ c.read_spans.result read.each read.fault

pub returns-clause-exact : goal.returns-clause-exact
returns-clause-exact c =
    let read = c.read_spans.ensures in
    uses_all _ _ _ c.read_spans.result read.each read.charged read.fault
