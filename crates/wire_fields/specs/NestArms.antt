-- A record that a field of a leaf takes is one that its message takes, by the equations of one level
-- of the message before and after it; and so with the rows that stay beside it.
use Rattle.std.proofs.Common.{◌≡◌, ℕ, List, sym, subst}
use Rattle.std.specs.Prelude.{Result, Ok, Err, OnOk}
use Rattle.wire_codec.specs.DecodeError.{DecodeError}
use Rattle.wire_codec.specs.Field.{Payload}
use Rattle.wire_codec.specs.Folds.{Step}
use Rattle.wire_codec.specs.Limits.{Limits, Charge}
use Rattle.wire_codec.specs.Taking.{TakesRecord, IsCharged}
use Rattle.wire_codec.specs.WireType.{WireType}
use Rattle.wire_fields.specs.Arms.{arm_ok}
use Rattle.wire_fields.specs.Nest.{Nest, Rows, leaf_of, rows_of}

pub leaf_ok : {L T R : Type 0} (takes : Step L) (step : Step T) (k n : ℕ) (is : n ≡ k)
    (old old_level new new_level : Nest L) → old ≡ old_level → new ≡ new_level → (t u : T)
    → ((c : Charge) (p : Payload) → step t k p c u
    → takes (leaf_of old_level) k p c (leaf_of new_level))
    → (l after : Limits) (w : WireType) (bytes left : List ℕ) (r : Result R DecodeError)
    → OnOk r (IsCharged l after (λ c. TakesRecord step l n w t bytes c u left))
    → OnOk r (IsCharged l after (λ c. TakesRecord takes l n w (leaf_of old) bytes c (leaf_of new)
    left))
leaf_ok {L} takes step k n is old old_level new new_level begun ended t u put l after w bytes left r h =
    subst (λ (m : Nest L). OnOk r (IsCharged l after (λ c. TakesRecord takes l n w (leaf_of m) bytes
    c (leaf_of new) left))) (sym begun)
    (subst (λ (m : Nest L). OnOk r (IsCharged l after (λ c. TakesRecord takes l n w
    (leaf_of old_level) bytes c (leaf_of m) left))) (sym ended)
    (arm_ok takes step k n is (leaf_of old_level) (leaf_of new_level) t u put l after w bytes left r
    h))

pub rows_ok : {L P R : Type 0} (beside : ℕ → L → Rows L → Rows L) (k n : ℕ) (is : n ≡ k)
    (old old_level new new_level : Nest L) → old ≡ old_level → new ≡ new_level
    → (P → rows_of new_level ≡ beside k (leaf_of new_level) (rows_of old_level))
    → (r : Result R DecodeError) → OnOk r P
    → OnOk r (rows_of new ≡ beside n (leaf_of new) (rows_of old))
rows_ok {L} beside k n is old old_level new new_level begun ended stay (Ok x) h =
    subst (λ (m : Nest L). rows_of new ≡ beside n (leaf_of new) (rows_of m)) (sym begun)
    (subst (λ (m : Nest L). rows_of m ≡ beside n (leaf_of m) (rows_of old_level)) (sym ended)
    (subst (λ j. rows_of new_level ≡ beside j (leaf_of new_level) (rows_of old_level)) (sym is)
    (stay h)))
rows_ok beside k n is old old_level new new_level begun ended stay (Err e) h = tt
