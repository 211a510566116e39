-- How a run ends: the exit status, and the calls that failed.
use Rattle.std.specs.Prelude.{ℕ, Result, Ok, Err}
use Rattle.wire_min.specs.declared.error.RunError.{RunError}
use Rattle.wire_min.specs.declared.error.RunError.TheVariants.{Refused, OutOfMemory, ReadFailed, WriteFailed}

-- the exit status of a run that ends with this error
abbrev pub failure_status : RunError → ℕ
failure_status (Refused e) = 1
failure_status OutOfMemory = 2
failure_status ReadFailed = 2
failure_status WriteFailed = 2

-- the exit status of a run that ends so
abbrev pub exit_status_of : Result (Unit {0}) RunError → ℕ
exit_status_of (Ok _) = 0
exit_status_of (Err e) = failure_status e

-- how many reads failed in a run that ends so
abbrev pub failed_reads : {T : Type 0} → Result T RunError → ℕ
failed_reads (Ok _) = 0
failed_reads (Err (Refused e)) = 0
failed_reads (Err OutOfMemory) = 0
failed_reads (Err ReadFailed) = 1
failed_reads (Err WriteFailed) = 0

-- how many writes and flushes failed in a run that ends so
abbrev pub failed_writes : {T : Type 0} → Result T RunError → ℕ
failed_writes (Ok _) = 0
failed_writes (Err (Refused e)) = 0
failed_writes (Err OutOfMemory) = 0
failed_writes (Err ReadFailed) = 0
failed_writes (Err WriteFailed) = 1
