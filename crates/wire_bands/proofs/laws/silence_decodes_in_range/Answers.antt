use Rattle.wire_bands.specs.SilenceStays.{silence-stays}
use Rattle.wire_fields.specs.Stays.{decodes_in_range}
use Rattle.wire_bands.proofs.laws.silence_decodes_in_range.Goals as goal

pub returns : goal.returns
returns c = decodes_in_range c.grounds.ensures (silence-stays c.grounds.ensures)
