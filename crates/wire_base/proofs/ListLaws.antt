-- Beginnings of lists.
use Rattle.std.proofs.Common.{◌≡◌, ◌≢◌, ◌<◌, ℕ, List, [], ◌∷◌, ◌++◌, length, refl, arith}

-- two beginnings of one list that are as long are one
pub one_beginning : (a b r s : List ℕ) → length a ≡ length b → a ++ r ≡ b ++ s → (a ≡ b) × (r ≡ s)
one_beginning [] [] r s same e = (refl, e)
one_beginning [] (y ∷ b) r s same e = absurd (omega arith)
one_beginning (x ∷ a) [] r s same e = absurd (omega arith)
one_beginning (x ∷ a) (y ∷ b) r s same e =
    let rest = one_beginning a b r s (omega arith) (cc) in
    let parts = rest.0 in
    (cc, rest.1)

-- bytes that are not none are some
pub some_left : (bytes : List ℕ) → length bytes ≢ 0 → 0 < length bytes
some_left [] some = absurd (some refl)
some_left (b ∷ bytes) some = omega arith
