use Rattle.std.proofs.Common.{◌≡◌, take}
use Rattle.wire_fields.specs.Maps.{viewed}
use Rattle.wire_views.specs.Entries.{map_with}
use Rattle.wire_views.proofs.map.own_entries.Given as goal

abbrev pub invariant-loop-entry : goal.invariant-loop-entry
invariant-loop-entry g l =
    viewed g.K.MapKey.owned g.V.ViewKind.owned l.map.entries
    ≡ map_with g.K.MapKey.order (viewed g.K.MapKey.view g.V.ViewKind.view (take l.entry-index l.entries))
