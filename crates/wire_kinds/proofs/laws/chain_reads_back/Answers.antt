use Rattle.wire_kinds.specs.Chain.{chain-returned}
use Rattle.wire_fields.specs.Returned.{reads_back}
use Rattle.wire_kinds.proofs.laws.chain_reads_back.Goals as goal

pub returns : goal.returns
returns c = reads_back (chain-returned c.grounds.ensures) c.text_decodes.ensures
