use Rattle.wire_bands.specs.Queue.{queue-returned}
use Rattle.wire_fields.specs.Returned.{reads_back}
use Rattle.wire_bands.proofs.laws.queue_reads_back.Goals as goal

pub returns : goal.returns
returns c = reads_back (queue-returned c.grounds.ensures) c.text_decodes.ensures
