-- What holds of paths. Each statement is proved as the contract of a law of src/laws.rt.
use Rattle.std.specs.Prelude.{◌≡◌, ℕ, List}
use Rattle.wire_jsonpath.specs.Path.{TreeStep}
use Rattle.wire_jsonpath.specs.Places.{IsPathTo}

-- a byte has one path at most
abbrev pub HasOnePath : Type 0
HasOnePath =
    (levels : ℕ) (text : List ℕ) (at : ℕ) (p q : List TreeStep) → IsPathTo levels text at p
    → IsPathTo levels text at q → p ≡ q
