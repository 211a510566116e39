use Rattle.wire_codec.proofs.TakenAll.{one_record_more_lemma}
use Rattle.wire_codec.proofs.laws.one_record_more.Goals as goal

pub returns : goal.returns
returns g c = one_record_more_lemma g.M.Message.takes c.all_is_spelled.ensures
    c.joined_texts_spell.ensures c.charges_add_up.ensures
