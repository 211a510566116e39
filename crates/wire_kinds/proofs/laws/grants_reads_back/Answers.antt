use Rattle.wire_kinds.specs.Grants.{grants-returned}
use Rattle.wire_fields.specs.Returned.{reads_back}
use Rattle.wire_kinds.proofs.laws.grants_reads_back.Goals as goal

pub returns : goal.returns
returns c =
    λ charges. reads_back (grants-returned charges c.grounds.ensures) c.text_decodes.ensures
