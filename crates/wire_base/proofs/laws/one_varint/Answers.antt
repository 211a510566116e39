use Rattle.wire_base.proofs.VarintLaws.{one_varint_lemma}
use Rattle.wire_base.proofs.laws.one_varint.Goals as goal

pub returns : goal.returns
returns c = one_varint_lemma
