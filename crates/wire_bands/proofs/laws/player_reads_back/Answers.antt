use Rattle.wire_bands.specs.Player.{player-returned}
use Rattle.wire_fields.specs.Returned.{reads_back}
use Rattle.wire_bands.proofs.laws.player_reads_back.Goals as goal

pub returns : goal.returns
returns c = reads_back (player-returned c.grounds.ensures) c.text_decodes.ensures
