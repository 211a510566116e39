use Rattle.std.proofs.Common.{drop, length}
use Rattle.wire_dynamic.specs.Told.{reader_of}
use Rattle.wire_dump.proofs.missing.Missing.parts.Given as goal

abbrev pub decreases-loop-told : goal.decreases-loop-told
decreases-loop-told l = length (drop (reader_of l.walk).place l.bytes)
