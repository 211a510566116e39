-- What a result with its error replaced tells of the result before.
use Rattle.std.proofs.Common.{◌≡◌, Result, Ok, Err}
use Rattle.std.specs.Result.{result_or}

pub ok_before : {T E F : Type 0} (r : Result T E) (e : F) (x : T)
    → Ok x ≡ result_or {D = F} r (Err e) → r ≡ Ok x
ok_before (Ok y) e x same = cc
ok_before (Err d) e x same = absurd cc
