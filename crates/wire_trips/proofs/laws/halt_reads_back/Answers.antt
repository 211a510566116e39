use Rattle.wire_trips.specs.Halt.{halt-returned}
use Rattle.wire_fields.specs.Returned.{reads_back}
use Rattle.wire_trips.proofs.laws.halt_reads_back.Goals as goal

pub returns : goal.returns
returns c = reads_back (halt-returned c.grounds.ensures) c.text_decodes.ensures
