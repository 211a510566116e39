use Rattle.wire_kinds.specs.MaybeVarintsStays.{maybe_varints-stays}
use Rattle.wire_fields.specs.Stays.{decodes_in_range}
use Rattle.wire_kinds.proofs.laws.maybe_varints_decodes_in_range.Goals as goal

pub returns : goal.returns
returns c = decodes_in_range c.grounds.ensures (maybe_varints-stays c.grounds.ensures)
