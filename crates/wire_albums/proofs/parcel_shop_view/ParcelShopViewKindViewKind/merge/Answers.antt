use Rattle.std.proofs.Common.{refl, rules}
use Rattle.std.proofs.lemmas.Result.{err_from_is_err_and}
use Rattle.wire_albums.specs.ParcelShop.{parcel_shop-kind, parcel_shop-view_of}
use Rattle.wire_albums.specs.ParcelShop.{stamp-of-parcel_shop-as, stamp-of-parcel_shop-kind}
use Rattle.wire_codec.specs.TagView.{tag_number}
use Rattle.wire_fields.specs.Arms.{anew_untaken, arm_err}
use Rattle.wire_albums.proofs.parcel_shop_view.ParcelShopViewKindViewKind.merge.Goals as goal

pub returns-in-Some-Stamp-view_variants-clause-err :
    goal.returns-in-Some-Stamp-view_variants-clause-err
returns-in-Some-Stamp-view_variants-clause-err c =
    let n = tag_number c.args.tag in
    let one = c.in-Some-Stamp-view_variants in
    rw one.is (arm_err parcel_shop-kind.takes
    stamp-of-parcel_shop-kind.takes n n
    refl _ _
    (λ charge z p h. (h.0, h.1)) _ _ _
    c.view_variants-merge.result c.view_variants-merge.ensures.err)

pub returns-clause-err : goal.returns-clause-err
returns-clause-err c =
    let n = tag_number c.args.tag in
    let m = parcel_shop-view_of c.args.held.now in
    let r = c.view_variants-from_residual in
    let p = err_from_is_err_and r.result r.ensures.1 in
    rw (p.1, p.2) (λ other. anew_untaken parcel_shop-kind.takes
    stamp-of-parcel_shop-kind stamp-of-parcel_shop-as _ n n
    refl m (search rules)
    (λ charge z p h. h) _ _ _ (rw c.view_variants-empty.ensures at c.in_Break-view_variants-view_variants.ensures.err other))
