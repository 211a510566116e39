use Rattle.wire_readings.specs.SettingsStays.{settings-stays}
use Rattle.wire_fields.specs.Stays.{decodes_in_range}
use Rattle.wire_readings.proofs.laws.settings_decodes_in_range.Goals as goal

pub returns : goal.returns
returns c = decodes_in_range c.grounds.ensures (settings-stays c.grounds.ensures)
