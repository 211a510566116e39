-- What a type that a user plugged in makes of a payload that was read.
use Rattle.std.proofs.Common.{◌≡◌, ◌≤◌, ◌⊎◌, inl, inr, ℕ, List, ◌++◌, length, take, drop, Result, Ok, Err, sym, ap, ◌∙◌, take-append-drop}
use Rattle.std.proofs.lemmas.List.{take-append-le}
use Rattle.bytes.specs.Unread.{IsChunkOf}
use Rattle.std.specs.Prelude.{IfErr}
use Rattle.wire_base.specs.declared.error.DecodeError.{DecodeError}
use Rattle.wire_base.specs.declared.error.DecodeError.TheVariants.{OutOfMemory}
use Rattle.wire_base.specs.Delimited.{IsDelimited}
use Rattle.wire_base.specs.Read.{Reads}
use Rattle.wire_text.specs.FromWire.{Answer, ValueRefusal, AfterRefusal, refused}

module _ (answers : List ℕ → Answer
    → Type 0) (old payload rest : List ℕ) (h : Reads old (IsDelimited payload) rest) where
  -- the type refused it, or had no memory for it
  pub refuses_value : (e : DecodeError) (new : List ℕ) → AfterRefusal payload rest new
      → (e ≡ OutOfMemory) ⊎ answers payload (Err e) → ValueRefusal answers old new e
  refuses_value e new left (inl memory) = inr (memory, (rest, (payload, h)))
  refuses_value e new left (inr answer) = inl (refused payload rest h answer left)

  -- what it answers to a payload that was handed over
  pub refuses_owned : {P : Type 0} (result : Result P DecodeError) (new : List ℕ) → new ≡ rest
      → IfErr result (λ e. (e ≡ OutOfMemory) ⊎ answers payload (Err e))
      → IfErr result (ValueRefusal answers old new)
  refuses_owned (Ok value) new same why = tt
  refuses_owned (Err e) new same why = refuses_value e new (inr same) why

-- so many bytes of a chunk that has as many
pub chunk_front : (len : ℕ) (chunk bytes : List ℕ) → IsChunkOf chunk bytes → len ≤ length chunk
    → take len chunk ≡ take len bytes
chunk_front len chunk bytes shown enough =
    sym (take-append-le len chunk (drop (length chunk) bytes) enough)
    ∙ ap (take len) (ap (λ l. l ++ drop (length chunk) bytes) (sym shown.front)
    ∙ take-append-drop (length chunk) bytes)

-- what is left is so many bytes and the rest
pub lent_back : (len : ℕ) (mid new : List ℕ) → new ≡ mid
    → AfterRefusal (take len mid) (drop len mid) new
lent_back len mid new same = inl (same ∙ sym (take-append-drop len mid))
