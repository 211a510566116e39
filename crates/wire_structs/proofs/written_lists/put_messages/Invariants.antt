use Rattle.std.proofs.Common.{◌^◌, ◌<◌, drop, map}
use Rattle.wire_codec.specs.Records.{text, text_size}
use Rattle.wire_codec.specs.Writes.{IsWrittenTo}
use Rattle.wire_fields.specs.Messages.{length_prefixed, message_each}
use Rattle.wire_structs.proofs.written_lists.put_messages.Given as goal

-- the messages so far are written, and those that are left come next
abbrev pub invariant-loop-message : goal.invariant-loop-message
invariant-loop-message g l =
    let each = message_each length_prefixed g.M.WrittenStruct.records l.fn.number in
    record {
      written : IsWrittenTo (text (each (map g.M.WrittenStruct.value l.fn.messages)))
          (g.E.EncodeSink.held l.fn.sink) (g.E.EncodeSink.held l.sink)
          (text (each (map g.M.WrittenStruct.value (drop l.message-index l.messages))));
      small : text_size (each (map g.M.WrittenStruct.value (drop l.message-index l.messages)))
          < 2 ^ 64;
    }
