use Rattle.wire_visits.specs.Bounce.{bounce-returned}
use Rattle.wire_fields.specs.Returned.{reads_back}
use Rattle.wire_visits.proofs.laws.bounce_reads_back.Goals as goal

pub returns : goal.returns
returns c = reads_back (bounce-returned c.grounds.ensures) c.text_decodes.ensures
