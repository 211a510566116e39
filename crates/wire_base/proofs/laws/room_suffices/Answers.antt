use Rattle.wire_base.proofs.Agreement.{room_suffices_lemma}
use Rattle.wire_base.proofs.laws.room_suffices.Goals as goal

pub returns : goal.returns
returns c = room_suffices_lemma
