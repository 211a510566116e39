use Rattle.wire_kinds.specs.Rights.{rights-returned}
use Rattle.wire_fields.specs.Returned.{reads_back}
use Rattle.wire_kinds.proofs.laws.rights_reads_back.Goals as goal

pub returns : goal.returns
returns c =
    λ charges. reads_back (rights-returned charges c.grounds.ensures) c.text_decodes.ensures
