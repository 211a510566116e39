-- A tape of sizes: those that were recorded, and how many of them were read.
use Rattle.std.specs.Prelude.{◌≡◌, ℕ, ◌+◌, List, [], ◌++◌, drop, refl}
use Rattle.std.specs.Coded.{Coded, code_by, coded×, coded_list, coded_ℕ}

pub record Tape : Type 0 where
  pub sizes : List ℕ
  pub cursor : ℕ

-- it is stored as the pair of its fields
abbrev pub tape_code : Coded Tape
tape_code =
    code_by (List ℕ × ℕ) (coded× (coded_list coded_ℕ) coded_ℕ) (λ t. (t.sizes, t.cursor))
    (λ p. record { sizes = p.0; cursor = p.1 }) (λ _. refl)

-- no sizes
abbrev pub blank : Tape
blank = record { sizes = []; cursor = 0 }

-- sizes behind those that were recorded
abbrev pub recorded : Tape → List ℕ → Tape
recorded t more = record { sizes = t.sizes ++ more; cursor = t.cursor }

-- the sizes that are to be read
abbrev pub unread_of : Tape → List ℕ
unread_of t = drop t.cursor t.sizes

-- the sizes that are to be read begin with these
pub record NextAre (next : List ℕ) (t : Tape) : Type 0 where
  pub rest : List ℕ
  pub parts : unread_of t ≡ next ++ rest

-- so many sizes more were read
abbrev pub advanced : Tape → ℕ → Tape
advanced t count = record { sizes = t.sizes; cursor = t.cursor + count }
