use Rattle.wire_kinds.specs.MaybeVarints.{maybe_varints-returned}
use Rattle.wire_fields.specs.Returned.{reads_back}
use Rattle.wire_kinds.proofs.laws.maybe_varints_reads_back.Goals as goal

pub returns : goal.returns
returns c = reads_back (maybe_varints-returned c.grounds.ensures) c.text_decodes.ensures
