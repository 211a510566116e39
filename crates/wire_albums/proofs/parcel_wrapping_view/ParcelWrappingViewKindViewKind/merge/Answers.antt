use Rattle.std.proofs.Common.{refl, rules, sym, ◌∙◌}
use Rattle.std.proofs.lemmas.Result.{err_from_is_err_and}
use Rattle.wire_albums.specs.ParcelWrapping.{none-of-parcel_wrapping, none-of-parcel_wrapping-as}
use Rattle.wire_albums.specs.ParcelWrapping.{none-of-parcel_wrapping-kind, parcel_wrapping-front}
use Rattle.wire_albums.specs.ParcelWrapping.{parcel_wrapping-kind, parcel_wrapping-view_of}
use Rattle.wire_albums.specs.ParcelWrapping.{ribbon-of-parcel_wrapping-as}
use Rattle.wire_albums.specs.ParcelWrapping.{ribbon-of-parcel_wrapping-kind}
use Rattle.wire_codec.specs.TagView.{tag_number}
use Rattle.wire_fields.specs.Arms.{anew_untaken, arm_err, from_last, last_err, unlike}
use Rattle.wire_albums.proofs.parcel_wrapping_view.ParcelWrappingViewKindViewKind.merge.Goals as goal

pub returns-in-Some-Ribbon-view_variants-clause-err :
    goal.returns-in-Some-Ribbon-view_variants-clause-err
returns-in-Some-Ribbon-view_variants-clause-err c =
    let n = tag_number c.args.tag in
    let one = c.in-Some-Ribbon-view_variants in
    rw (one.is, one.field-0-is) (arm_err parcel_wrapping-kind.takes
    ribbon-of-parcel_wrapping-kind.takes 6 n
    (sym c.view_variants-field_number.ensures.number ∙ c.in-6.is) _ _
    (λ charge z p h. (h.0, h.1)) _ _ _
    c.view_variants-merge.result c.view_variants-merge.ensures.err)

pub returns-in-6-clause-err : goal.returns-in-6-clause-err
returns-in-6-clause-err c =
    let n = tag_number c.args.tag in
    let m = parcel_wrapping-view_of c.args.held.now in
    let r = c.view_variants-from_residual in
    let p = err_from_is_err_and r.result r.ensures.1 in
    rw (p.1, p.2) (λ other. anew_untaken parcel_wrapping-kind.takes
    ribbon-of-parcel_wrapping-kind ribbon-of-parcel_wrapping-as _ 6 n
    (sym c.view_variants-field_number.ensures.number ∙ c.in-6.is) m (search rules)
    (λ charge z p h. h) _ _ _ (rw c.view_variants-empty.ensures at (c.in_Break-view_variants-view_variants-in-6).ensures.err other))

pub returns-in-Some-None_-view_variants-clause-err :
    goal.returns-in-Some-None_-view_variants-clause-err
returns-in-Some-None_-view_variants-clause-err c =
    let n = tag_number c.args.tag in
    let one = c.in-Some-None_-view_variants in
    rw (one.is, one.field-0-is) (last_err parcel_wrapping-front.owns parcel_wrapping-front.takes
    none-of-parcel_wrapping.takes n
    (λ p. unlike n 6 (search rules))
    none-of-parcel_wrapping-kind.takes _ _
    (λ charge z p h. (h.0, h.1)) _ _ _
    c.view_variants-merge-2.result c.view_variants-merge-2.ensures.err)

pub returns-clause-err : goal.returns-clause-err
returns-clause-err c =
    let n = tag_number c.args.tag in
    let m = parcel_wrapping-view_of c.args.held.now in
    let r = c.view_variants-from_residual-2 in
    let p = err_from_is_err_and r.result r.ensures.1 in
    rw (p.1, p.2) (λ other. anew_untaken parcel_wrapping-kind.takes
    none-of-parcel_wrapping-kind none-of-parcel_wrapping-as _ n n
    refl m (search rules)
    (λ charge z p h. from_last parcel_wrapping-front.owns parcel_wrapping-front.takes
    none-of-parcel_wrapping.takes n
    (λ p. unlike n 6 (search rules))
    m z charge p h) _ _ _ (rw c.view_variants-empty-2.ensures at c.in_Break-view_variants-view_variants.ensures.err other))
