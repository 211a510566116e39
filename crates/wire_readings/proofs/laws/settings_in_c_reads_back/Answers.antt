use Rattle.wire_readings.proofs.SettingsInCShows.{settings-same}
use Rattle.wire_readings.specs.Settings.{settings-range}
use Rattle.wire_readings.specs.SettingsInC.{settings-written}
use Rattle.wire_readings.proofs.laws.settings_in_c_reads_back.Goals as goal

pub returns : goal.returns
returns c l m fs holds fits =
    let v = settings-written m fs in (
      (settings-range.charge_of v, c.settings_reads_back.ensures l v holds fits),
      settings-same m fs,
    )
