-- Readings one behind another.
use Rattle.std.proofs.Common.{◌≡◌, Result, Ok, Err}
use Rattle.wire_json.specs.Bytes.{◌>>=◌}

-- what is refused at once
pub bind_err : {A B E : Type 0} (r : Result A E) (f : A → Result B E) (e : E) → r ≡ Err e
    → (r >>= f) ≡ Err e
bind_err (Ok x) f e h = absurd cc
bind_err (Err y) f e h = cc

-- what goes on
pub bind_ok : {A B E : Type 0} (r : Result A E) (f : A → Result B E) (x : A) → r ≡ Ok x
    → (r >>= f) ≡ f x
bind_ok (Ok y) f x h = cc
bind_ok (Err e) f x h = absurd cc
