use Rattle.wire_kinds.specs.Team.{team-returned}
use Rattle.wire_fields.specs.Returned.{reads_back}
use Rattle.wire_kinds.proofs.laws.team_reads_back.Goals as goal

pub returns : goal.returns
returns c =
    λ charges. reads_back (team-returned charges c.grounds.ensures) c.text_decodes.ensures
