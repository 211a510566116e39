use Rattle.std.proofs.Common.{◌≡◌, ◌+◌, ◌^◌, ◌<◌, drop, length, map}
use Rattle.wire_fields.specs.Numbers.{in_64_bits}
use Rattle.wire_fields.specs.Packed.{packed_text}
use Rattle.wire_structs.proofs.written_numbers.payload_len.Given as goal

-- what is counted so far, and what is left
abbrev pub invariant-loop-value : goal.invariant-loop-value
invariant-loop-value g l =
    let packed = packed_text g.S.StructNumber.form g.S.StructNumber.map in
    record {
      fits : l.len < 2 ^ 64;
      counted : in_64_bits (l.len
          + length (packed (map g.S.StructNumber.view (drop l.value-index l.values))))
          ≡ in_64_bits (length (packed (map g.S.StructNumber.view l.fn.values)));
    }
