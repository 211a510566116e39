-- The status with which a run ends.
use Rattle.std.specs.Prelude.{ℕ, Result, Ok, Err}
use Rattle.wire_run.specs.declared.error.RunError.{RunError}
use Rattle.wire_run.specs.declared.error.RunError.TheVariants.{Broken, Usage, NotOpened, ReadFailed, TooLong, NotHexadecimal, NotBase64, WriteFailed, BrokenPipe, OutOfMemory, NoSchema, NoType, Unfit}

-- of a run that does not do all that it was asked for
abbrev pub error_status : RunError → ℕ
error_status Broken = 1
error_status Usage = 2
error_status (NotOpened e) = 3
error_status (ReadFailed e) = 4
error_status TooLong = 5
error_status NotHexadecimal = 6
error_status (WriteFailed e) = 8
error_status BrokenPipe = 9
error_status OutOfMemory = 10
error_status NotBase64 = 11
error_status NoSchema = 12
error_status NoType = 13
error_status Unfit = 14

-- of any run
abbrev pub run_status : Result (Unit {0}) RunError → ℕ
run_status (Ok done) = 0
run_status (Err e) = error_status e
