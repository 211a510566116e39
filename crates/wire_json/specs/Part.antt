-- Parts of a string: characters as they are, and then an escape or the closing quotation mark.
use Rattle.std.specs.Prelude.{◌≡◌, ℕ, List, ◌∷◌, ◌++◌, Bool, true, not, ◌||◌, ◌==◌, nat_lt, Option, Some, None, encode_utf8_all}
use Rattle.std.specs.List.{AllByRecursion}
use Rattle.wire_json.specs.Text.{IsUnescaped, ReadsEscape}

-- a byte of a character that stands in a string as it is
abbrev pub is_plain : ℕ → Bool
is_plain b = not (nat_lt b 32 || (b == 34 || b == 92))

-- characters as they are stand at the front
pub record ReadsRun (run old new : List ℕ) : Type 0 where
  pub chars : List ℕ
  pub each : AllByRecursion IsUnescaped chars
  pub run_is : encode_utf8_all chars ≡ run
  pub plain : AllByRecursion (λ b. is_plain b ≡ true) run
  pub parts : old ≡ run ++ new

-- what ends a part
abbrev pub EndsPart : Option ℕ → List ℕ → List ℕ → Type 0
EndsPart None old new = old ≡ 34 ∷ new
EndsPart (Some c) old new = ReadsEscape c old new

-- characters as they are stand at the front, and behind them what ends a part
pub record ReadsPart (run : List ℕ) (character : Option ℕ) (old new : List ℕ) : Type 0 where
  pub middle : List ℕ
  pub reads_run : ReadsRun run old middle
  pub ends : EndsPart character middle new
