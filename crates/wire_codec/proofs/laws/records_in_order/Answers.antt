use Rattle.wire_codec.proofs.laws.records_in_order.Goals as goal

pub returns : goal.returns
returns c = record {
  reading = c.one_reading.ensures;
  tag_fault = c.no_tag_beside_fault.ensures;
  front = c.records_from_the_front.ensures;
  limits = c.limits_add_up.ensures;
  charges = c.charges_add_up.ensures;
  counts = c.counts_fall.ensures;
}
