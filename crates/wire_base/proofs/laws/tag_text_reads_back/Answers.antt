use Rattle.wire_base.proofs.TagLaws.{tag_text_reads_back_lemma}
use Rattle.wire_base.proofs.laws.tag_text_reads_back.Goals as goal

pub returns : goal.returns
returns c = tag_text_reads_back_lemma
