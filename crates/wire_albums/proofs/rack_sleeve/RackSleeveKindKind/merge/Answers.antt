use Rattle.std.proofs.Common.{refl, rules, sym, ◌∙◌}
use Rattle.std.proofs.lemmas.Result.{err_from_is_err_and}
use Rattle.wire_albums.specs.RackSleeve.{lost-of-rack_sleeve-as, lost-of-rack_sleeve-kind}
use Rattle.wire_albums.specs.RackSleeve.{rack_sleeve-front, rack_sleeve-kind, rack_sleeve-of}
use Rattle.wire_albums.specs.RackSleeve.{worn-of-rack_sleeve, worn-of-rack_sleeve-as}
use Rattle.wire_albums.specs.RackSleeve.{worn-of-rack_sleeve-kind}
use Rattle.wire_codec.specs.TagView.{tag_number}
use Rattle.wire_fields.specs.Arms.{anew_untaken, arm_err, from_last, last_err, unlike}
use Rattle.wire_albums.proofs.rack_sleeve.RackSleeveKindKind.merge.Goals as goal

pub returns-in-Some-Lost-variants-clause-err :
    goal.returns-in-Some-Lost-variants-clause-err
returns-in-Some-Lost-variants-clause-err g c =
    let n = tag_number c.args.tag in
    let one = c.in-Some-Lost-variants in
    rw (one.is, one.field-0-is) (arm_err rack_sleeve-kind.takes
    lost-of-rack_sleeve-kind.takes 3 n
    (sym c.variants-field_number.ensures.number ∙ c.in-3.is) _ _
    (λ charge z p h. (h.0, h.1)) _ _ _
    c.variants-merge.result c.variants-merge.ensures.err)

pub returns-in-3-clause-err : goal.returns-in-3-clause-err
returns-in-3-clause-err g c =
    let n = tag_number c.args.tag in
    let m = rack_sleeve-of c.args.held.now in
    let r = c.variants-from_residual in
    let p = err_from_is_err_and r.result r.ensures.1 in
    rw (p.1, p.2) (λ other. anew_untaken rack_sleeve-kind.takes
    lost-of-rack_sleeve-kind lost-of-rack_sleeve-as _ 3 n
    (sym c.variants-field_number.ensures.number ∙ c.in-3.is) m (search rules)
    (λ charge z p h. h) _ _ _ ((c.in_Break-variants-variants-in-3).ensures.err other))

pub returns-in-Some-Worn-variants-clause-err :
    goal.returns-in-Some-Worn-variants-clause-err
returns-in-Some-Worn-variants-clause-err g c =
    let n = tag_number c.args.tag in
    let one = c.in-Some-Worn-variants in
    rw (one.is, one.field-0-is) (last_err rack_sleeve-front.owns rack_sleeve-front.takes
    worn-of-rack_sleeve.takes n
    (λ p. unlike n 3 (search rules))
    worn-of-rack_sleeve-kind.takes _ _
    (λ charge z p h. (h.0, h.1)) _ _ _
    c.variants-merge-2.result c.variants-merge-2.ensures.err)

pub returns-clause-err : goal.returns-clause-err
returns-clause-err g c =
    let n = tag_number c.args.tag in
    let m = rack_sleeve-of c.args.held.now in
    let r = c.variants-from_residual-2 in
    let p = err_from_is_err_and r.result r.ensures.1 in
    rw (p.1, p.2) (λ other. anew_untaken rack_sleeve-kind.takes
    worn-of-rack_sleeve-kind worn-of-rack_sleeve-as _ n n
    refl m (search rules)
    (λ charge z p h. from_last rack_sleeve-front.owns rack_sleeve-front.takes
    worn-of-rack_sleeve.takes n
    (λ p. unlike n 3 (search rules))
    m z charge p h) _ _ _ (c.in_Break-variants-variants.ensures.err other))
