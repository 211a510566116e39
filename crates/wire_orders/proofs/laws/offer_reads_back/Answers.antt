use Rattle.wire_orders.specs.Offer.{offer-returned}
use Rattle.wire_fields.specs.Returned.{reads_back}
use Rattle.wire_orders.proofs.laws.offer_reads_back.Goals as goal

pub returns : goal.returns
returns c =
    λ charges. reads_back (offer-returned charges c.grounds.ensures) c.text_decodes.ensures
