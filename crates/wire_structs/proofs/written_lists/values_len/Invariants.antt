use Rattle.std.proofs.Common.{◌≡◌, ◌+◌, ◌^◌, ◌<◌, drop, map}
use Rattle.wire_codec.specs.Records.{text_size}
use Rattle.wire_fields.specs.Numbers.{in_64_bits}
use Rattle.wire_fields.specs.Presence.{each_record}
use Rattle.wire_structs.proofs.written_lists.values_len.Given as goal

-- what is counted so far, and what is left
abbrev pub invariant-loop-value : goal.invariant-loop-value
invariant-loop-value g l =
    let each = each_record g.S.StructScalar.scalar l.fn.number in
    record {
      fits : l.size < 2 ^ 64;
      counted : in_64_bits (l.size
          + text_size (each (map g.S.StructScalar.view (drop l.value-index l.values))))
          ≡ in_64_bits (text_size (each (map g.S.StructScalar.view l.fn.values)));
    }
