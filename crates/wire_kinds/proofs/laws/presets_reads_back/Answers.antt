use Rattle.wire_kinds.specs.Presets.{presets-returned}
use Rattle.wire_fields.specs.Returned.{reads_back}
use Rattle.wire_kinds.proofs.laws.presets_reads_back.Goals as goal

pub returns : goal.returns
returns c = reads_back (presets-returned c.grounds.ensures) c.text_decodes.ensures
