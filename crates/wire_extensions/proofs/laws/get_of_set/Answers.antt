use Rattle.wire_extensions.proofs.Storing.{get_of_set_lemma}
use Rattle.wire_extensions.proofs.laws.get_of_set.Goals as goal

pub returns : goal.returns
returns g c = get_of_set_lemma c.stored_are_plain.ensures g.K.Kind.kind
