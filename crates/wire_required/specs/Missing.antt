-- Which required field a value lacks.
use Rattle.std.specs.Option.{option_or}
use Rattle.std.specs.Prelude.{ℕ, suc, zero, List, [], ◌∷◌, Option, Some, None, option_map}
use Rattle.wire_required.specs.Path.{Key, PathPart, field, index, key}

-- the path to the first required field that is not there, where one is not
abbrev pub Missing : Type 0
Missing = Option (List PathPart)

-- what was found, or else the first of these
abbrev pub found_or : Missing → List Missing → Missing
found_or found [] = found
found_or found (missing ∷ rest) = found_or (option_or found missing) rest

-- the first of these
abbrev pub first_of : List Missing → Missing
first_of = found_or None

-- what is missing one step further in
abbrev pub under : PathPart → Missing → Missing
under step = option_map (λ path. step ∷ path)

-- a required field of this name, which is not there where it holds nothing
abbrev pub needs : {V : Type 0} → List ℕ → Option V → Missing
needs name None = Some (field name ∷ [])
needs name (Some v) = None

-- what the message lacks that a field or a variant of this name holds
abbrev pub in_message : {V : Type 0} → List ℕ → (V → Missing) → V → Missing
in_message name missing v = under (field name) (missing v)

-- the same where it may hold none
abbrev pub within : {V : Type 0} → List ℕ → (V → Missing) → Option V → Missing
within name missing None = None
within name missing (Some v) = in_message name missing v

-- what the first of the messages lacks that lacks something; the first has this index
abbrev pub each_from : {V : Type 0} → (V → Missing) → ℕ → List V → Missing
each_from missing i [] = None
each_from missing i (v ∷ vs) = option_or (under (index i) (missing v)) (each_from missing (suc i) vs)

abbrev pub within_each : {V : Type 0} → List ℕ → (V → Missing) → List V → Missing
within_each name missing vs = under (field name) (each_from missing 0 vs)

-- what the first of the values lacks that lacks something, in the order of the keys
abbrev pub entries_from : {K V : Type 0} → (K → Key) → (V → Missing) → List (K × V) → Missing
entries_from of missing [] = None
entries_from of missing (e ∷ es) =
    option_or (under (key (of e.0)) (missing e.1)) (entries_from of missing es)

abbrev pub within_entries : {K V : Type 0} → List ℕ → (K → Key) → (V → Missing) → List (K × V)
    → Missing
within_entries name of missing es = under (field name) (entries_from of missing es)
