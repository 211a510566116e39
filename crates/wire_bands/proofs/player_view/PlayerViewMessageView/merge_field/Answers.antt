use Rattle.std.proofs.Common.{sym}
use Rattle.wire_bands.proofs.player_view.PlayerViewMessageView.merge_field.Goals as goal

pub returns-in-Player-clause-err : goal.returns-in-Player-clause-err
returns-in-Player-clause-err c =
    rw (sym c.replace.ensures.value) c.merge_held-merged.ensures.err
