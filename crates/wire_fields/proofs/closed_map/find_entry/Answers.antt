use Rattle.std.proofs.Common.{◌≡◌, rules}
use Rattle.std.proofs.lemmas.Result.{err_from_is_err_and}
use Rattle.wire_fields.specs.ClosedMaps.{closed_value}
use Rattle.wire_fields.specs.Enums.{open_enum}
use Rattle.wire_fields.specs.Numbers.{numeric}
use Rattle.wire_fields.specs.Presence.{sets_single}
use Rattle.wire_fields.specs.declared.form.Form.TheVariants.{Varint}
use Rattle.wire_fields.proofs.ClosedMaps.{no_payload, no_parsed, entry_found, entry_kept, no_room_kept}
use Rattle.wire_fields.proofs.closed_map.find_entry.Goals as goal

pub returns-in_err-set-clause-err : goal.returns-in_err-set-clause-err
returns-in_err-set-clause-err g c =
    let p = err_from_is_err_and c.from_residual.result c.from_residual.ensures.1 in
    rw (p.1, p.2) (λ other. no_payload c.args.place g.K.Scalar.scalar
    (closed_value g.E.Enumeration.number g.E.Enumeration.of_number) _ _ _ _ _
    (c.in_err-set.ensures.err other))

pub returns-in_err-entry-clause-err : goal.returns-in_err-entry-clause-err
returns-in_err-entry-clause-err g c =
    let r = c.from_residual-in_err-entry in
    let same : c.deref.result.now ≡ c.set.new.held.items = search rules in
    let p = err_from_is_err_and r.result r.ensures.1 in
    rw (p.1, p.2) (λ other. no_parsed c.args.place g.K.Scalar.scalar
    (closed_value g.E.Enumeration.number g.E.Enumeration.of_number) _ _ _ _ _
    c.records_in_order.ensures.limits c.records_in_order.ensures.reading _ _ c.in_ok-set.ensures.ok
    (rw same at (c.in_err-entry.ensures.err other)))

pub returns-in_err-keep_payload-in-Unknown-clause-err :
    goal.returns-in_err-keep_payload-in-Unknown-clause-err
returns-in_err-keep_payload-in-Unknown-clause-err g c =
    let r = c.from_residual-in_err-keep_payload-in-Unknown in
    let p = err_from_is_err_and r.result r.ensures.1 in
    let same : c.deref.result.now ≡ c.set.new.held.items = search rules in
    let (charge, fits, left, entry) = c.in_ok-entry.ensures.ok in
    rw (p.1, p.2) (λ other. no_room_kept c.args.place g.K.Scalar.scalar
    (closed_value g.E.Enumeration.number g.E.Enumeration.of_number) _ _ _ _ _
    c.records_in_order.ensures.limits c.records_in_order.ensures.reading _ _ c.in_ok-set.ensures.ok
    (sets_single (numeric Varint (open_enum g.E.Enumeration.number g.E.Enumeration.of_number)))
    _ charge left _ _ _ c.in-Unknown.is (rw same at entry)
    (c.in_err-keep_payload-in-Unknown.ensures.err other))

pub returns-in-Known-clause-ok : goal.returns-in-Known-clause-ok
returns-in-Known-clause-ok g c =
    let same : c.deref.result.now ≡ c.set.new.held.items = search rules in
    let (charge, fits, left, entry) = c.in_ok-entry.ensures.ok in
    entry_found c.args.place g.K.Scalar.scalar
    (closed_value g.E.Enumeration.number g.E.Enumeration.of_number) _ _ _ _ _
    c.records_in_order.ensures.limits c.records_in_order.ensures.reading _ _ c.in_ok-set.ensures.ok
    c.records_in_order.ensures.charges _ charge fits left _ _ _ c.in-Known.is (rw same at entry)

pub returns-in_ok-keep_payload-in-Unknown-clause-ok :
    goal.returns-in_ok-keep_payload-in-Unknown-clause-ok
returns-in_ok-keep_payload-in-Unknown-clause-ok g c =
    let same : c.deref.result.now ≡ c.set.new.held.items = search rules in
    let (charge, fits, left, entry) = c.in_ok-entry.ensures.ok in
    let kept = c.in_ok-keep_payload-in-Unknown.ensures in
    entry_kept c.args.place g.K.Scalar.scalar
    (closed_value g.E.Enumeration.number g.E.Enumeration.of_number) _ _ _ _ _
    c.records_in_order.ensures.limits c.records_in_order.ensures.reading _ _ c.in_ok-set.ensures.ok
    _ _ charge fits left _ _ _ c.in-Unknown.is (rw same at entry) kept.left kept.fits _
    (search rules)
