use Rattle.wire_base.proofs.Payloads.{group_is_list_lemma}
use Rattle.wire_base.proofs.laws.group_is_list.Goals as goal

pub returns : goal.returns
returns c = group_is_list_lemma
