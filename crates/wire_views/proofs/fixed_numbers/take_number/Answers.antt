use Rattle.std.proofs.Common.{refl}
use Rattle.wire_views.proofs.FixedWidths.{fixed64_in_front, fixed32_in_front}
use Rattle.wire_views.proofs.fixed_numbers.take_number.Goals as goal

pub returns-in-Ok-clause-some : goal.returns-in-Ok-clause-some
returns-in-Ok-clause-some c =
    rw c.in-Fixed64.is (fixed64_in_front _ _ _ _ c.in-Ok.ensures.ok refl)

pub returns-in-Ok-decode_fixed32-clause-some : goal.returns-in-Ok-decode_fixed32-clause-some
returns-in-Ok-decode_fixed32-clause-some c =
    rw c.in-Fixed32.is (fixed32_in_front _ _ _ _ c.in-Ok-decode_fixed32.ensures.ok c.from.ensures)
