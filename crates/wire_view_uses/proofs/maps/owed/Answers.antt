use Rattle.std.proofs.Common.{◌∙◌, ap, refl}
use Rattle.std.specs.Cmp.Lexicographic.{slice_cmp}
use Rattle.std.specs.Ordering.{nat_cmp}
use Rattle.wire_albums.specs.Bill.{bill-view_value}
use Rattle.wire_fields.specs.Maps.{viewed}
use Rattle.wire_views.proofs.MapEntries.{viewed_map}
use Rattle.wire_view_uses.proofs.maps.owed.Goals as goal

pub returns-in_ok-in_order-in-Ok-clause-ok : goal.returns-in_ok-in_order-in-Ok-clause-ok
returns-in_ok-in_order-in-Ok-clause-ok c = (
  bill-view_value c.in-Ok.bill,
  c.in-Ok.ensures.ok,
  ap (viewed (λ s. s.now) (λ v. v)) c.in_ok-in_order-in-Ok.ensures.map
      ∙ viewed_map (λ s. s.now) (λ v. v) _ (slice_cmp nat_cmp) (λ x y. refl)
      c.in-Ok.bill.owed.items,
)
