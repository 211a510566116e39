-- Rows that are measured and written one by one.
use Rattle.std.proofs.Common.{◌≡◌, ℕ, zero, suc, ◌+◌, ◌≤◌, List, [], ◌∷◌, length, drop, refl}
use Rattle.std.proofs.Common.{add-one, arith}
use Rattle.wire_codec.specs.Records.{Records, none, joined_records}
use Rattle.wire_fields.proofs.Measuring.{Splits}
use Rattle.wire_views.specs.Rows.{in_rows, records_in_row}

from_place : (rows : List Records) (place : ℕ) → in_rows (drop place rows)
    ≡ joined_records (records_in_row rows place) (in_rows (drop (suc place) rows))
from_place [] zero = refl
from_place [] (suc place) = refl
from_place (rs ∷ rows) zero = refl
from_place (rs ∷ rows) (suc place) = from_place rows place

-- those from a place on are the one that stands there and those behind it
pub next_row : (rows : List Records) (place : ℕ)
    → Splits (in_rows (drop place rows)) (records_in_row rows place) (in_rows (drop (place + 1) rows))
next_row rows place = rw add-one (record { is = from_place rows place })

-- behind the last there are none
pub no_rows : (rows : List Records) (place : ℕ) → length rows ≤ place
    → in_rows (drop place rows) ≡ none
no_rows [] zero past = refl
no_rows [] (suc place) past = refl
no_rows (rs ∷ rows) zero past = absurd (omega (arith, past))
no_rows (rs ∷ rows) (suc place) past = no_rows rows place (omega (arith, past))
