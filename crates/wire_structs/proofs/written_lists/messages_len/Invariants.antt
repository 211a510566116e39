use Rattle.std.proofs.Common.{◌≡◌, ◌+◌, ◌^◌, ◌<◌, drop, map}
use Rattle.wire_codec.specs.Records.{text_size}
use Rattle.wire_fields.specs.Messages.{length_prefixed, message_each}
use Rattle.wire_fields.specs.Numbers.{in_64_bits}
use Rattle.wire_structs.proofs.written_lists.messages_len.Given as goal

-- what is counted so far, and what is left
abbrev pub invariant-loop-message : goal.invariant-loop-message
invariant-loop-message g l =
    let each = message_each length_prefixed g.M.WrittenStruct.records l.fn.number in
    record {
      fits : l.size < 2 ^ 64;
      counted : in_64_bits (l.size
          + text_size (each (map g.M.WrittenStruct.value (drop l.message-index l.messages))))
          ≡ in_64_bits (text_size (each (map g.M.WrittenStruct.value l.fn.messages)));
    }
