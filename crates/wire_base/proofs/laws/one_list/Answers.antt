use Rattle.wire_base.proofs.Takes.{one_list_lemma}
use Rattle.wire_base.proofs.laws.one_list.Goals as goal

pub returns : goal.returns
returns c = one_list_lemma
