use Rattle.wire_base.proofs.DelimitedLaws.{delimited_reads_back_lemma}
use Rattle.wire_base.proofs.laws.delimited_reads_back.Goals as goal

pub returns : goal.returns
returns c = delimited_reads_back_lemma
