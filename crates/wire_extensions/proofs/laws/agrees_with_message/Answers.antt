use Rattle.wire_extensions.proofs.Agreeing.{agrees_with_message_lemma}
use Rattle.wire_extensions.proofs.laws.agrees_with_message.Goals as goal

pub returns : goal.returns
returns g c = agrees_with_message_lemma g.K.Kind.kind.takes
