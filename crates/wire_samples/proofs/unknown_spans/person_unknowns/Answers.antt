use Rattle.wire_samples.proofs.DecodedOthers.{as_decoded}
use Rattle.wire_samples.proofs.unknown_spans.person_unknowns.Goals as goal

pub returns-clause-decoded : goal.returns-clause-decoded
returns-clause-decoded c =
    as_decoded c.records_in_order.ensures c.whole_input.ensures _ _ c.walk.result
    c.walk.ensures.only
