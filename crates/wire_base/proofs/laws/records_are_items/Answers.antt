use Rattle.wire_base.proofs.Walks.{records_are_items_lemma}
use Rattle.wire_base.proofs.laws.records_are_items.Goals as goal

pub returns : goal.returns
returns c = records_are_items_lemma
