use Rattle.wire_json.proofs.WrittenLaws.{written_spells_lemma}
use Rattle.wire_json.proofs.laws.written_spells.Goals as goal

pub returns : goal.returns
returns c = written_spells_lemma
