-- What is read of the enum that is `null`.
use Rattle.std.proofs.Common.{◌≡◌, ℕ, List, Some, Ok, refl, ap, arith}
use Rattle.std.specs.Prelude.{ℤ, pos, codes}
use Rattle.wire_json.specs.Bytes.{word_end}
use Rattle.wire_json.specs.declared.kind.Kind.TheVariants as kinds
use Rattle.wire_json.specs.Json.{Json, null, boolean, number, string, array, object}
use Rattle.wire_json.specs.Kind.{kind_begun}
use Rattle.wire_json.specs.Reading.{ReadsValue}
use Rattle.wire_json.proofs.Scalars.{word_parts}
use Rattle.wire_jsonfields.specs.Levels.{NothingMeant, ReadsWithin}
use Rattle.wire_protojson.specs.Enums.{MeansEnum}
use Rattle.wire_well_known_json.specs.NullValues.{MeansNull, null_value-json-names}

module _ (old : List ℕ) (levels : ℕ) where
  pub null_read : (new : List ℕ) → word_end (codes "null") old ≡ Ok new
      → ReadsWithin levels MeansNull old (pos 0) new
  null_read new reads = (null, reads, omega arith, refl)

  pub none_named : (kind_begun old ≡ Some kinds.Null → ⊥)
      → NothingMeant levels (MeansEnum null_value-json-names) old
      → NothingMeant levels MeansNull old
  none_named other nothing = λ z new read.
      nothing z new (read.0, read.1, read.2, named read.0 z new read.1 read.3)
    where
      named : (json : Json) (z : ℤ) (new : List ℕ) → ReadsValue json old new → MeansNull json z
          → MeansEnum null_value-json-names json z
      named null z new reads m =
          absurd (other (ap kind_begun (word_parts (codes "null") old new reads)))
      named (boolean b) z new reads m = m
      named (number text) z new reads m = m
      named (string text) z new reads m = m
      named (array es) z new reads m = m
      named (object ms) z new reads m = m
