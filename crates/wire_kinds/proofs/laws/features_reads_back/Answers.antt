use Rattle.wire_kinds.specs.Features.{features-returned}
use Rattle.wire_fields.specs.Returned.{reads_back}
use Rattle.wire_kinds.proofs.laws.features_reads_back.Goals as goal

pub returns : goal.returns
returns c = reads_back (features-returned c.grounds.ensures) c.text_decodes.ensures
