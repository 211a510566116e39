use Rattle.std.proofs.lemmas.Result.{err_from_is_err_and, on_ok_weaker, IfErr-weaker}
use Rattle.std.specs.Cmp.Lexicographic.{slice_cmp}
use Rattle.std.specs.Ordering.{nat_cmp}
use Rattle.wire_fields.specs.Texts.{string}
use Rattle.wire_fields.specs.ClosedMaps.{closed_value}
use Rattle.wire_fields.specs.Enums.{open_enum}
use Rattle.wire_fields.specs.Numbers.{numeric}
use Rattle.wire_fields.specs.Presence.{sets_single}
use Rattle.wire_fields.specs.declared.form.Form.TheVariants.{Varint}
use Rattle.wire_fields.proofs.ClosedMaps.{no_payload, no_parsed, entry_found, entry_kept}
use Rattle.wire_fields.proofs.ClosedMaps.{no_room_kept, no_found, found_put}
use Rattle.wire_views.proofs.ClosedEntries.{bytes_kept, bytes_not_kept}
use Rattle.wire_views.proofs.closed_map.ClosedMapInTextInViewClosedMap.merge_closed.Goals as goal

pub returns-in_err-set-clause-err : goal.returns-in_err-set-clause-err
returns-in_err-set-clause-err g c =
    let value = closed_value g.E.Enumeration.number g.E.Enumeration.of_number in
    let p = err_from_is_err_and c.from_residual.result c.from_residual.ensures.1 in
    rw (p.1, p.2) (λ other. no_found g.row.PLACE (slice_cmp nat_cmp) string value _ _ _ _ _
    (no_payload g.row.PLACE string value _ _ _ _ _ (c.in_err-set.ensures.err other)))

pub returns-in_err-is_added-clause-err : goal.returns-in_err-is_added-clause-err
returns-in_err-is_added-clause-err g c =
    let value = closed_value g.E.Enumeration.number g.E.Enumeration.of_number in
    let r = c.from_residual-in_err-is_added in
    let p = err_from_is_err_and r.result r.ensures.1 in
    rw (p.1, p.2) (λ other. no_found g.row.PLACE (slice_cmp nat_cmp) string value _ _ _ _ _
    (no_parsed g.row.PLACE string value _ _ _ _ _
    c.records_in_order.ensures.limits c.records_in_order.ensures.reading _ _ c.in_ok-set.ensures.ok
    (c.in_err-is_added.ensures.err other)))

pub returns-then-is_added-clause-ok : goal.returns-then-is_added-clause-ok
returns-then-is_added-clause-ok g c =
    let value = closed_value g.E.Enumeration.number g.E.Enumeration.of_number in
    let (charge, fits, left, key, held, entry, adds) = c.in_ok-is_added.ensures.ok in
    let added = rw c.if-is_added.true at adds in
    found_put g.row.PLACE (slice_cmp nat_cmp) string value _ _ _ _ _ _ _ _ _ _ added.1
    (entry_found g.row.PLACE string value _ _ _ _ _
    c.records_in_order.ensures.limits c.records_in_order.ensures.reading _ _ c.in_ok-set.ensures.ok
    c.records_in_order.ensures.charges _ charge fits left _ _ _ added.0.1 entry)

pub returns-clause-ok : goal.returns-clause-ok
returns-clause-ok g c =
    let value = closed_value g.E.Enumeration.number g.E.Enumeration.of_number in
    let reading = c.records_in_order.ensures.reading in
    let (charge, fits, left, key, held, entry, adds) = c.in_ok-is_added.ensures.ok in
    let added = rw c.if-is_added.false at adds in
    on_ok_weaker c.keep_span.result (λ taken.
    let kept = bytes_kept _ _ _ _ _ _ _ c.in_ok-set.ensures.ok reading.payload _ _ _ taken in
    found_put g.row.PLACE (slice_cmp nat_cmp) string value _ _ _ _ _ _ _ _ _ _ added.1
    (entry_kept g.row.PLACE string value _ _ _ _ _
    c.records_in_order.ensures.limits reading _ _ c.in_ok-set.ensures.ok
    _ _ charge fits left _ _ _ added.0.1 entry kept.left kept.fits _ kept.is))
    c.keep_span.ensures.ok

pub returns-clause-err : goal.returns-clause-err
returns-clause-err g c =
    let value = closed_value g.E.Enumeration.number g.E.Enumeration.of_number in
    let (charge, fits, left, key, held, entry, adds) = c.in_ok-is_added.ensures.ok in
    let added = rw c.if-is_added.false at adds in
    IfErr-weaker c.keep_span.result _ _ (λ e none other.
    no_found g.row.PLACE (slice_cmp nat_cmp) string value _ _ _ _ _
    (no_room_kept g.row.PLACE string value _ _ _ _ _
    c.records_in_order.ensures.limits c.records_in_order.ensures.reading _ _ c.in_ok-set.ensures.ok
    (sets_single (numeric Varint (open_enum g.E.Enumeration.number g.E.Enumeration.of_number)))
    _ charge left _ _ _ added.0.1 entry
    (bytes_not_kept _ _ _ _ _ _ _ c.in_ok-set.ensures.ok (none other))))
    c.keep_span.ensures.err
