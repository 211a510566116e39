use Rattle.wire_codec.proofs.laws.one_reading.Goals as goal

pub returns : goal.returns
returns c = record {
  varint = c.one_varint.ensures;
  delimited = c.one_delimited.ensures;
  packed = c.one_packed_list.ensures;
  tag = c.one_tag.ensures;
  payload = c.one_payload.ensures;
  records = c.one_spelled.ensures;
}
