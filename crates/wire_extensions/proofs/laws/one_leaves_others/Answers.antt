use Rattle.wire_extensions.proofs.Records.{one_leaves_others_lemma}
use Rattle.wire_extensions.proofs.laws.one_leaves_others.Goals as goal

pub returns : goal.returns
returns c = one_leaves_others_lemma
