use Rattle.wire_bands.specs.CueStays.{cue-stays}
use Rattle.wire_fields.specs.Stays.{decodes_in_range}
use Rattle.wire_bands.proofs.laws.cue_decodes_in_range.Goals as goal

pub returns : goal.returns
returns c = decodes_in_range c.grounds.ensures (cue-stays c.grounds.ensures)
