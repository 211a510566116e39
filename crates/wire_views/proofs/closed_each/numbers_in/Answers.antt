use Rattle.std.proofs.Common.{sym, ◌∙◌}
use Rattle.wire_views.proofs.ClosedNumbers.{packed_numbers, no_packed}
use Rattle.wire_views.proofs.closed_each.numbers_in.Goals as goal

pub returns-in-Ok : goal.returns-in-Ok
returns-in-Ok c =
    packed_numbers _ _ _ c.one_delimited.ensures _ _
    (sym c.wire_type.ensures ∙ c.in-LengthDelimited.is) c.in-Ok.ensures.ok

pub returns-in-Err : goal.returns-in-Err
returns-in-Err c =
    no_packed _ _ _ c.no_delimited_beside_fault.ensures _
    (sym c.wire_type.ensures ∙ c.in-LengthDelimited.is) c.in-Err.ensures.fault
