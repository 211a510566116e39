use Rattle.wire_visits.specs.Visit.{visit-returned}
use Rattle.wire_fields.specs.Returned.{reads_back}
use Rattle.wire_visits.proofs.laws.visit_reads_back.Goals as goal

pub returns : goal.returns
returns c = reads_back (visit-returned c.grounds.ensures) c.text_decodes.ensures
