-- Lemmas on the known bytes of a reader.
use Rattle.std.proofs.Common.{◌≡◌, ℕ, List, [], ◌++◌, None, Some, IfSome, take, sym, ap, ◌∙◌, append-nil}
use Rattle.std.specs.Prelude.{Option}
use Rattle.std.specs.Io.KnownBytes.{Consumes, IsAtEnd}

-- where a last read gives no byte, the bytes before it are all that there was
pub Consumes-to_end : (old mid new : Option (List ℕ)) (bytes buf : List ℕ) (n : ℕ)
    → n ≡ 0 → Consumes old mid bytes → Consumes mid new (take n buf) → IsAtEnd new
    → IfSome old (λ xs. bytes ≡ xs)
Consumes-to_end None mid new bytes buf n h p q e = tt
Consumes-to_end (Some x) None new bytes buf n h p q e = absurd p
Consumes-to_end (Some x) (Some y) None bytes buf n h p q e = absurd q
Consumes-to_end (Some x) (Some y) (Some z) bytes buf n h p q e =
    let none_left : y ≡ [] = q ∙ ap (λ k. take k buf ++ z) h ∙ e in
    sym (p ∙ ap (λ l. bytes ++ l) none_left ∙ append-nil bytes)
