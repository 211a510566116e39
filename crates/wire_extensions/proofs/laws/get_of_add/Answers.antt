use Rattle.wire_extensions.proofs.Folding.{get_of_add_lemma}
use Rattle.wire_extensions.proofs.laws.get_of_add.Goals as goal

pub returns : goal.returns
returns g c = get_of_add_lemma c.charges_add_up.ensures g.K.Kind.kind
