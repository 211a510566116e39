use Rattle.wire_extensions.proofs.Storing.{stored_are_plain_lemma}
use Rattle.wire_extensions.proofs.laws.stored_are_plain.Goals as goal

pub returns : goal.returns
returns c = stored_are_plain_lemma c.one_spelled.ensures c.shortest_text_spells.ensures
