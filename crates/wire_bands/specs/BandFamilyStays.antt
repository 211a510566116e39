-- What decoding leaves of messages that hold one another is in range: `Band`, `Player`. Generated
-- by wire_gen from bands.proto; not to be edited.
use Rattle.std.proofs.Common.{arith, refl}
use Rattle.std.specs.Prelude.{ℕ, ◌==◌}
use Rattle.wire_bands.specs.BandFamily.{Band-Sort, Family-Sorts, Player-Sort, band-known}
use Rattle.wire_bands.specs.BandFamily.{band-name-kind, band-place, band-range-of-known}
use Rattle.wire_bands.specs.BandFamily.{band-runs_in_order, band-table, family-all}
use Rattle.wire_bands.specs.BandFamily.{family-leaf-ranges, family-ranges, family-shapes}
use Rattle.wire_bands.specs.BandFamily.{family-tables, player-known, player-name-kind, player-place}
use Rattle.wire_bands.specs.BandFamily.{player-range-of-known, player-runs_in_order}
use Rattle.wire_bands.specs.BandFamily.{player-since-kind, player-table}
use Rattle.wire_fields.specs.Grounds.{Grounds}
use Rattle.wire_fields.specs.NestRange.{any_beside}
use Rattle.wire_fields.specs.NestTable.{IsThere}
use Rattle.wire_fields.specs.Stays.{FieldsStay, Stays, known_stays, two_stays}
use Rattle.wire_fields.specs.StaysKinds.{fixed64_stays, numeric_stays, optional_stays, string_stays}
use Rattle.wire_fields.specs.StaysLeaf.{first_stay, known_stay, second_stay, table_stays}
use Rattle.wire_fields.specs.StaysLeaf.{there_where}
use Rattle.wire_fields.specs.StaysNest.{LeafStays, beside_stays}

pub band-there : (n : ℕ) → IsThere band-table (band-place n)
band-there n = there_where band-table (n == 2) _ _ (omega arith, refl)
    (there_where band-table (n == 3) _ _ (omega arith, refl)
    (tt))

pub band-stays-of-known : Grounds → FieldsStay band-known band-range-of-known
band-stays-of-known g =
    known_stays 1 band-name-kind
    (optional_stays string_stays)

pub band-leaf-stays : Grounds
    → LeafStays band-table (family-leaf-ranges Band-Sort) any_beside
band-leaf-stays g =
    table_stays band-table
    (first_stay (known_stay band-table (band-stays-of-known g)))
    refl refl band-runs_in_order band-there (λ i m. refl) (λ n l rs. refl)

pub player-there : (n : ℕ) → IsThere player-table (player-place n)
player-there n = there_where player-table (n == 3) _ _ (omega arith, refl)
    (tt)

pub player-stays-of-known : Grounds → FieldsStay player-known player-range-of-known
player-stays-of-known g =
    two_stays
    (known_stays 1 player-name-kind
    (optional_stays string_stays))
    (known_stays 2 player-since-kind
    (optional_stays (numeric_stays fixed64_stays)))

pub player-leaf-stays : Grounds
    → LeafStays player-table (family-leaf-ranges Player-Sort) any_beside
player-leaf-stays g =
    table_stays player-table
    (second_stay (known_stay player-table (player-stays-of-known g)))
    refl refl player-runs_in_order player-there (λ i m. refl) (λ n l rs. refl)

pub family-leaves-stay : Grounds → (s : Family-Sorts)
    → LeafStays (family-tables s) (family-leaf-ranges s) any_beside
family-leaves-stay g Band-Sort = band-leaf-stays g
family-leaves-stay g Player-Sort = player-leaf-stays g

pub family-stays : Grounds → (s : Family-Sorts)
    → Stays (family-shapes s) (family-ranges s)
family-stays g s =
    beside_stays g family-all (family-leaf-ranges) (λ s. any_beside)
    (family-leaves-stay g) s (family-shapes s) refl refl refl
