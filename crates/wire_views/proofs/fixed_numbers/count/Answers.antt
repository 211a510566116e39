use Rattle.std.proofs.Common.{sym, w32, w64}
use Rattle.wire_views.proofs.FixedWidths.{as_many}
use Rattle.wire_views.proofs.fixed_numbers.count.Goals as goal

pub returns-in-Fixed64 : goal.returns-in-Fixed64
returns-in-Fixed64 c = rw c.in-Fixed64.is (sym (as_many w64 _ c.args.bytes.now))

pub returns-in-Fixed32 : goal.returns-in-Fixed32
returns-in-Fixed32 c = rw c.in-Fixed32.is (sym (as_many w32 _ c.args.bytes.now))
