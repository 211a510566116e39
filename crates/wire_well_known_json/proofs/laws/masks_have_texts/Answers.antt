use Rattle.wire_well_known_json.proofs.MaskLaws.{masks_have_texts_lemma}
use Rattle.wire_well_known_json.proofs.laws.masks_have_texts.Goals as goal

pub returns : goal.returns
returns c = masks_have_texts_lemma
