-- What a result tells that is no error, and an option that has nothing.
use Rattle.std.proofs.Common.{◌≡◌, false, Result, Ok, Err, Option, Some, None, refl}
use Rattle.std.specs.Prelude.{OnOk, IfNone, is_err}

pub at_ok : {T E : Type 0} (r : Result T E) (P : Type 0) → is_err r ≡ false → OnOk r P → P
at_ok (Ok x) P ok h = h
at_ok (Err e) P ok h = absurd cc

pub at_none : {T : Type 0} (o : Option T) (P : Type 0) → ((x : T) → o ≡ Some x → ⊥) → IfNone o P → P
at_none None P full h = h
at_none (Some x) P full h = absurd (full x refl)
