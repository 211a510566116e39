use Rattle.wire_fields.specs.Maps.{each_entry, viewed}
use Rattle.wire_fields.proofs.Measuring.{IsMeasuredTo}
use Rattle.wire_fields.proofs.map.each_entry_len.Given as goal

-- the entries so far are measured
abbrev pub invariant-loop-key : goal.invariant-loop-key
invariant-loop-key g l =
    let each = each_entry g.K.Scalar.scalar g.V.Kind.kind l.fn.number in
    IsMeasuredTo (each (viewed g.K.Scalar.view g.V.Kind.view l.fn.held.entries))
    (each (viewed g.K.Scalar.view g.V.Kind.view l.key-iterator)) l.fn.cache l.cache l.size
