use Rattle.std.proofs.lemmas.Result.{err_from_is_err_and}
use Rattle.std.proofs.lemmas.Map.Iter.{rest_more}
use Rattle.std.specs.Map.Iter.{deref_pair}
use Rattle.wire_fields.proofs.Maps.{next_entry}
use Rattle.wire_fields.proofs.Putting as put
use Rattle.wire_fields.proofs.map.put_each_entry.Goals as goal

pub returns-in_err-put_entry-clause-written : goal.returns-in_err-put_entry-clause-written
returns-in_err-put_entry-clause-written g c =
    let p = err_from_is_err_and c.from_residual.result c.from_residual.ensures.1 in
    rw (p.1, p.2) (put.refused c.joined_records_add_up.ensures _ _ _ _ _ _ _ _
    c.loop-key.invariant (next_entry g.K.Scalar.view g.V.Kind.view g.K.Scalar.scalar g.V.Kind.kind
    c.args.number c.loop-key.key-iterator c.next.new.self _ _
    (rest_more deref_pair _ _ _ _ c.in-Some.is c.next.ensures.steps))
    c.piece_by_piece.ensures _ _ c.in_err-put_entry.ensures.written)

pub loop-key-preserved : goal.loop-key-preserved
loop-key-preserved g c =
    put.more c.joined_records_add_up.ensures _ _ _ _ _ _ _ _ c.loop-key.invariant
    (next_entry g.K.Scalar.view g.V.Kind.view g.K.Scalar.scalar g.V.Kind.kind
    c.args.number c.loop-key.key-iterator c.next.new.self _ _
    (rest_more deref_pair _ _ _ _ c.in-Some.is c.next.ensures.steps))
    c.piece_by_piece.ensures _ _ tt c.in_ok-put_entry.ensures.written c.in_ok-put_entry.ensures.read

pub put_entry-requires-clause-sizes : goal.put_entry-requires-clause-sizes
put_entry-requires-clause-sizes g c =
    put.part_next c.joined_records_add_up.ensures _ _ _ _ _ _ _ _ c.loop-key.invariant
    (next_entry g.K.Scalar.view g.V.Kind.view g.K.Scalar.scalar g.V.Kind.kind
    c.args.number c.loop-key.key-iterator c.next.new.self _ _
    (rest_more deref_pair _ _ _ _ c.in-Some.is c.next.ensures.steps))

pub put_entry-requires-clause-size : goal.put_entry-requires-clause-size
put_entry-requires-clause-size g c =
    put.part_small c.joined_records_add_up.ensures _ _ _ _ _ _ _ _ c.loop-key.invariant
    (next_entry g.K.Scalar.view g.V.Kind.view g.K.Scalar.scalar g.V.Kind.kind
    c.args.number c.loop-key.key-iterator c.next.new.self _ _
    (rest_more deref_pair _ _ _ _ c.in-Some.is c.next.ensures.steps))
