-- What holds of the mapping. Each statement is proved as the contract of a law of src/laws.rt.
use Rattle.std.specs.Prelude.{◌≡◌, ℕ, List, ◌++◌, false}
use Rattle.wire_json.specs.Bytes.{begins}
use Rattle.wire_json.specs.Json.{Json}
use Rattle.wire_json.specs.Number.{is_of_number}
use Rattle.wire_json.specs.Written.{written}
use Rattle.wire_protojson.specs.declared.refusal.Reason.{Reason}
use Rattle.wire_protojson.specs.Reads.{ReadsMeaning, Refuses}

-- A tree means one value at most, and of the same bytes one value is read or one refusal told, and
-- never both.
pub record IsDecided {V : Type 0} (Means : Json → V → Type 0) : Type 0 where
  pub one_meaning : (json : Json) (v w : V) → Means json v → Means json w → v ≡ w
  pub one_value : (old : List ℕ) (v w : V) (x y : List ℕ) → ReadsMeaning Means old v x
      → ReadsMeaning Means old w y → (v ≡ w) × (x ≡ y)
  pub one_refusal : (old : List ℕ) (r s : Reason) (x y : List ℕ) → Refuses Means old r x
      → Refuses Means old s y → (r ≡ s) × (x ≡ y)
  pub no_value_refused : (old : List ℕ) (v : V) (x : List ℕ) (r : Reason) (y : List ℕ)
      → ReadsMeaning Means old v x → Refuses Means old r y → ⊥

-- the compact text of a tree is read as this value, whatever follows, where that goes on no number
abbrev pub IsReadAs : {V : Type 0} → (Json → V → Type 0) → V → Json → Type 0
IsReadAs Means value json =
    (rest : List ℕ) → begins is_of_number rest ≡ false → ReadsMeaning Means (written json ++ rest) value rest
