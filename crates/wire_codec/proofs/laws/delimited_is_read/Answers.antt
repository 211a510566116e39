use Rattle.wire_codec.proofs.laws.delimited_is_read.Goals as goal

pub returns : goal.returns
returns c = record {
  delimited = c.one_delimited.ensures;
  beside = c.no_delimited_beside_fault.ensures;
  fault = c.one_delimited_fault.ensures;
  list = c.one_list.ensures;
  whole = c.whole_input.ensures;
}
