use Rattle.wire_readings.specs.Settings.{settings-returned}
use Rattle.wire_fields.specs.Returned.{reads_back}
use Rattle.wire_readings.proofs.laws.settings_reads_back.Goals as goal

pub returns : goal.returns
returns c = reads_back (settings-returned c.grounds.ensures) c.text_decodes.ensures
