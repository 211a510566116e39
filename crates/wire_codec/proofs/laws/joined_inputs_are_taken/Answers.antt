use Rattle.wire_codec.proofs.TakenAll.{joined_inputs_are_taken_lemma}
use Rattle.wire_codec.proofs.laws.joined_inputs_are_taken.Goals as goal

pub returns : goal.returns
returns g c = joined_inputs_are_taken_lemma g.M.Message.takes c.all_is_spelled.ensures
    c.joined_texts_spell.ensures c.charges_add_up.ensures
