use Rattle.wire_codec.proofs.TakenAll.{text_decodes_lemma}
use Rattle.wire_codec.proofs.laws.text_decodes.Goals as goal

pub returns : goal.returns
returns g c = text_decodes_lemma g.M.Message.takes c.all_is_spelled.ensures
    c.shortest_text_spells.ensures g.M.Message.records g.M.Message.default
