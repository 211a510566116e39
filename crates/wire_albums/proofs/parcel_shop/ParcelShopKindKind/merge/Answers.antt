use Rattle.std.proofs.Common.{refl, rules}
use Rattle.std.proofs.lemmas.Result.{err_from_is_err_and}
use Rattle.wire_albums.specs.ParcelShop.{parcel_shop-kind, parcel_shop-of, stamp-of-parcel_shop-as}
use Rattle.wire_albums.specs.ParcelShop.{stamp-of-parcel_shop-kind}
use Rattle.wire_codec.specs.TagView.{tag_number}
use Rattle.wire_fields.specs.Arms.{anew_untaken, arm_err}
use Rattle.wire_albums.proofs.parcel_shop.ParcelShopKindKind.merge.Goals as goal

pub returns-in-Some-Stamp-variants-clause-err :
    goal.returns-in-Some-Stamp-variants-clause-err
returns-in-Some-Stamp-variants-clause-err g c =
    let n = tag_number c.args.tag in
    let one = c.in-Some-Stamp-variants in
    rw one.is (arm_err parcel_shop-kind.takes
    stamp-of-parcel_shop-kind.takes n n
    refl _ _
    (λ charge z p h. (h.0, h.1)) _ _ _
    c.variants-merge.result c.variants-merge.ensures.err)

pub returns-clause-err : goal.returns-clause-err
returns-clause-err g c =
    let n = tag_number c.args.tag in
    let m = parcel_shop-of c.args.held.now in
    let r = c.variants-from_residual in
    let p = err_from_is_err_and r.result r.ensures.1 in
    rw (p.1, p.2) (λ other. anew_untaken parcel_shop-kind.takes
    stamp-of-parcel_shop-kind stamp-of-parcel_shop-as _ n n
    refl m (search rules)
    (λ charge z p h. h) _ _ _ (c.in_Break-variants-variants.ensures.err other))
