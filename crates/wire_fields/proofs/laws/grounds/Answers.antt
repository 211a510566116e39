use Rattle.wire_fields.proofs.laws.grounds.Goals as goal

pub returns : goal.returns
returns c =
    let values = c.values_read_back.ensures in
    record {
      plain = c.fields_are_plain.ensures;
      charges = c.charges_add_up.ensures;
      reading = c.one_reading.ensures;
      spells = c.shortest_text_spells.ensures;
      shortest = c.shortest_reads_back.ensures;
      int32 = values.int32;
      int64 = values.int64;
      uint32 = values.uint32;
      uint64 = values.uint64;
      sint32 = values.sint32;
      sint64 = values.sint64;
      bool = values.bool;
      fixed32 = values.fixed32;
      fixed64 = values.fixed64;
      sfixed32 = values.sfixed32;
      sfixed64 = values.sfixed64;
      fitting = c.spelled_are_fitting.ensures;
      numbered = c.spelled_are_numbered.ensures;
      joined = c.joined_records_add_up.ensures;
      number = λ n low high. (low, high);
    }
