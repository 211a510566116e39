-- The front of bytes: what it begins with, and what stands behind it.
use Rattle.std.specs.Prelude.{ℕ, Bool, false, ◌||◌, ◌==◌, List, [], ◌∷◌, drop, if◌then◌else◌}
use Rattle.std.specs.Prelude.{Result, Ok, Err}

-- the first byte passes the test
abbrev pub begins : (ℕ → Bool) → List ℕ → Bool
begins p [] = false
begins p (c ∷ rest) = p c

-- what stands behind the bytes at the front that pass the test
abbrev pub past : (ℕ → Bool) → List ℕ → List ℕ
past p [] = []
past p (c ∷ rest) = if p c then past p rest else c ∷ rest

-- what stands behind the first byte, where that passes the test
abbrev pub past_one : (ℕ → Bool) → List ℕ → List ℕ
past_one p old = if begins p old then drop 1 old else old

-- the test of one byte
abbrev pub is_byte : ℕ → ℕ → Bool
is_byte b c = c == b

-- space, tab, line feed and carriage return
abbrev pub is_space : ℕ → Bool
is_space c = c == 32 || c == 9 || c == 10 || c == 13

-- what stands behind white space
abbrev pub past_space : List ℕ → List ℕ
past_space old = past is_space old

-- what is read is handed on, and a fault is told at once
infixl 10 ◌>>=◌
abbrev pub ◌>>=◌ : {A B E : Type 0} → Result A E → (A → Result B E) → Result B E
(Ok x) >>= f = f x
(Err e) >>= f = Err e

-- what stands behind this word, or the first place where it does not go on
abbrev pub word_end : List ℕ → List ℕ → Result (List ℕ) (List ℕ)
word_end [] old = Ok old
word_end (c ∷ word) old = if begins (is_byte c) old then word_end word (drop 1 old) else Err old
