use Rattle.std.proofs.Common.{refl}
use Rattle.std.proofs.lemmas.Result.{err_from_is_err_and}
use Rattle.wire_fields.specs.Maps.{entry_default, entry_takes}
use Rattle.wire_fields.specs.Messages.{length_prefixed}
use Rattle.wire_fields.proofs.Messages.{each_taken, no_room, no_more}
use Rattle.wire_fields.proofs.map_entry.read_entry.Goals as goal

pub returns-in_err-register_element_memory-clause-err :
    goal.returns-in_err-register_element_memory-clause-err
returns-in_err-register_element_memory-clause-err g c =
    let p = err_from_is_err_and c.from_residual.result c.from_residual.ensures.1 in
    let start = entry_default g.K.Scalar.scalar g.V.Kind.kind in
    rw (p.1, p.2) (λ other. no_room c.args.place length_prefixed
    (entry_takes g.K.Scalar.scalar g.V.Kind.kind) start (λ m e. e)
    c.limits_add_up.ensures _ _ _ _ start _ refl
    c.in_err-register_element_memory.ensures.none_left)

pub returns-in_err-merge-clause-err : goal.returns-in_err-merge-clause-err
returns-in_err-merge-clause-err g c =
    let r = c.from_residual-in_err-merge in
    let p = err_from_is_err_and r.result r.ensures.1 in
    rw (p.1, p.2) (λ other. no_more c.args.place length_prefixed
    (entry_takes g.K.Scalar.scalar g.V.Kind.kind) (entry_default g.K.Scalar.scalar g.V.Kind.kind)
    (λ m e. e) c.limits_add_up.ensures _ _ _ _ _ _ c.default_value-entry.ensures _
    c.in_ok-register_element_memory.ensures.ok (c.in_err-merge.ensures.err other))

pub returns-clause-ok : goal.returns-clause-ok
returns-clause-ok g c =
    each_taken c.args.place length_prefixed (entry_takes g.K.Scalar.scalar g.V.Kind.kind)
    (entry_default g.K.Scalar.scalar g.V.Kind.kind) (λ m e. e) c.limits_add_up.ensures _ _ _ _ _ _
    c.default_value-entry.ensures _ _ _ _ _ c.in_ok-register_element_memory.ensures.ok
    c.in_ok-register_element_memory.ensures.taken refl c.in_ok-merge.ensures.ok
