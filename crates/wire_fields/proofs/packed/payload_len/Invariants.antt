use Rattle.std.proofs.Common.{◌≡◌, ◌+◌, ◌^◌, ◌<◌, length, drop}
use Rattle.wire_fields.specs.Numbers.{in_64_bits}
use Rattle.wire_fields.specs.Packed.{packed_text}
use Rattle.wire_fields.proofs.NumberTexts.{beyond_first}
use Rattle.wire_fields.proofs.packed.payload_len.Given as goal

-- what is counted so far, and what is left
abbrev pub invariant-loop-value : goal.invariant-loop-value
invariant-loop-value g l =
    let packed = packed_text g.N.Number.form g.N.Number.map in
    record {
      fits : l.len < 2 ^ 64;
      counted : in_64_bits (l.len + beyond_first g.N.Number.form g.N.Number.map
          (drop l.value-index l.values))
          ≡ in_64_bits (length (packed l.fn.values));
    }
