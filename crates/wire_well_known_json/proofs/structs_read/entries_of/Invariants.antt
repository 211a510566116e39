use Rattle.std.proofs.Common.{◌≡◌, ◌++◌, map}
use Rattle.std.specs.Prelude.{string_bytes}
use Rattle.wire_jsonfields.specs.Maps.{entries_seen}
use Rattle.wire_well_known_json.specs.Structs.{entry-plain, value-plain}
use Rattle.wire_well_known_json.proofs.structs_read.entries_of.Given as goal

abbrev pub invariant-loop-key : goal.invariant-loop-key
invariant-loop-key l =
    entries_seen string_bytes value-plain l.fn.fields.entries
    ≡ map entry-plain l.entries.items ++ entries_seen string_bytes value-plain l.key-iterator
