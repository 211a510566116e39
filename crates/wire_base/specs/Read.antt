-- What a reader takes from the front of the bytes that are left.
use Rattle.std.specs.Prelude.{◌≡◌, ℕ, List, ◌++◌}

-- old is a text of this kind, followed by new
pub record Reads (old : List ℕ) (IsText : List ℕ → Type 0) (new : List ℕ) : Type 0 where
  pub text : List ℕ
  pub parts : old ≡ text ++ new
  pub spelled : IsText text
