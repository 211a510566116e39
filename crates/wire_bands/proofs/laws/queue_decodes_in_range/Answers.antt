use Rattle.wire_bands.specs.QueueStays.{queue-stays}
use Rattle.wire_fields.specs.Stays.{decodes_in_range}
use Rattle.wire_bands.proofs.laws.queue_decodes_in_range.Goals as goal

pub returns : goal.returns
returns c = decodes_in_range c.grounds.ensures (queue-stays c.grounds.ensures)
