use Rattle.std.proofs.Common.{sym}
use Rattle.wire_bands.proofs.player.PlayerMessageFields.merge_field.Goals as goal

pub returns-in-Player-clause-err : goal.returns-in-Player-clause-err
returns-in-Player-clause-err g c =
    rw (sym c.replace.ensures.value) c.merge_held-merged.ensures.err
