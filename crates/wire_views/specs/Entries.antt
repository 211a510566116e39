-- Entries of a map as they came, and the map that they are.
use Rattle.std.specs.BTreeMap.{insert_entry}
use Rattle.std.specs.declared.cmp.Ordering.{Ordering}
use Rattle.std.specs.declared.cmp.Ordering.TheVariants.{Less}
use Rattle.std.specs.Ordering.{is_eq}
use Rattle.std.specs.Prelude.{◌≡◌, ℤ, Bool, true, false, List, [], ◌∷◌, if◌then◌else◌}
use Rattle.wire_codec.specs.EnumValue.{EnumValue}
use Rattle.wire_codec.specs.EnumValue.TheVariants.{Known, Unknown}

-- the map with all of the entries put into it, of which the last of a key counts
abbrev pub with_entries : {K V : Type 0} → (K → K → Ordering) → List (K × V) → List (K × V)
    → List (K × V)
with_entries order m [] = m
with_entries order m (e ∷ es) = with_entries order (insert_entry order m e.0 e.1) es

-- the map that the entries are
abbrev pub map_with : {K V : Type 0} → (K → K → Ordering) → List (K × V) → List (K × V)
map_with order = with_entries order []

-- the entry is put into the map where its value is one that a closed enum has, and else not
abbrev pub AddsKnown : {K E : Type 0} → (K → K → Ordering) → Bool → List (K × EnumValue E)
    → List (K × EnumValue E) → K → EnumValue E → Type 0
AddsKnown {K} {E} order true before after key value =
    ((e : E) × (value ≡ Known e)) × (after ≡ insert_entry order before key value)
AddsKnown {K} {E} order false before after key value =
    ((i : ℤ) × (value ≡ Unknown i)) × (after ≡ before)

-- the entries with one more behind them, or with its value in the last where the keys are equal
abbrev pub put_last : {K V : Type 0} → (K → K → Ordering) → List (K × V) → K → V → List (K × V)
put_last order [] k v = (k, v) ∷ []
put_last order (e ∷ []) k v = if is_eq (order e.0 k) then (e.0, v) ∷ [] else e ∷ (k, v) ∷ []
put_last order (e ∷ f ∷ es) k v = e ∷ put_last order (f ∷ es) k v

-- of each run of equal keys the first key and the last value, behind the entries of m
abbrev pub with_runs : {K V : Type 0} → (K → K → Ordering) → List (K × V) → List (K × V)
    → List (K × V)
with_runs order m [] = m
with_runs order m (e ∷ es) = with_runs order (put_last order m e.0 e.1) es

-- each key is above the one before it
abbrev pub Rises : {K V : Type 0} → (K → K → Ordering) → List (K × V) → Type 0
Rises order [] = Unit {0}
Rises order (e ∷ []) = Unit {0}
Rises order (e ∷ f ∷ es) = (order e.0 f.0 ≡ Less) × Rises order (f ∷ es)
