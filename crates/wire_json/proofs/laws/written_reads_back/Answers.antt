use Rattle.wire_json.proofs.WrittenLaws.{written_reads_back_lemma}
use Rattle.wire_json.proofs.laws.written_reads_back.Goals as goal

pub returns : goal.returns
returns c = written_reads_back_lemma
