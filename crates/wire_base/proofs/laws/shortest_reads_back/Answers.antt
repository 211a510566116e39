use Rattle.wire_base.proofs.VarintLaws.{shortest_reads_back_lemma}
use Rattle.wire_base.proofs.laws.shortest_reads_back.Goals as goal

pub returns : goal.returns
returns c = shortest_reads_back_lemma
