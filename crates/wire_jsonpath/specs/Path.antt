-- Paths in a JSON text.
use Rattle.std.specs.Prelude.{ℕ, List}

-- a step of a path: to the member of this name, or to the element at this index
pub data TreeStep : Type 0 where
  member : List ℕ → TreeStep
  element : ℕ → TreeStep
