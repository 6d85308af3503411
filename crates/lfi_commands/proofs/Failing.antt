-- Failures of what a line asks for.
use Rattle.std.proofs.Common.{◌≡◌, ℕ, List, true, inr, sym, true≢false}
use Rattle.lfi_command_line.specs.declared.line.Line.{Line}
use Rattle.lfi_file_commands.specs.declared.failure.Target.TheVariants.{StandardOutput, File}
use Rattle.lfi_file_commands.specs.declared.failure.Failure.{Failure}
use Rattle.lfi_file_commands.specs.declared.failure.Failure.TheVariants.{CannotRead, CannotWrite, CannotListen, NoMemory, NoThread}
use Rattle.lfi_file_commands.specs.Failures.{failure_of_load, is_of_output, FailsLoading, FailsServing, IsOfLoad, IsOfReadingOne}
use Rattle.lfi_sync.specs.declared.refusal.LoadError.{LoadError}
use Rattle.lfi_sync.specs.declared.refusal.LoadError.TheVariants as load_error
use Rattle.lfi_commands.specs.Runs.{FailsAs, FailsBy, IsSoundLine}

-- a failure of what a line asks for is one of the words that ask for the line
pub fails_by : (words : List (List ℕ)) (line : Line) (failure : Failure) → IsSoundLine words line → FailsAs line failure → FailsBy words failure
fails_by words line (CannotRead told cause) is fails = (line, is, fails)
fails_by words line (CannotWrite StandardOutput cause) is fails = inr (line, is, fails)
fails_by words line (CannotWrite (File path) cause) is fails = (line, is, fails)
fails_by words line (CannotListen told cause) is fails = (line, is, fails)
fails_by words line NoMemory is fails = tt
fails_by words line NoThread is fails = (line, is, fails)

-- a failure of the output is one of a load
pub is_of_load : (failure : Failure) → is_of_output failure ≡ true → IsOfLoad failure
is_of_load (CannotRead told cause) is = absurd (true≢false (sym is))
is_of_load (CannotWrite StandardOutput cause) is = tt
is_of_load (CannotWrite (File path) cause) is = absurd (true≢false (sym is))
is_of_load (CannotListen told cause) is = absurd (true≢false (sym is))
is_of_load NoMemory is = absurd (true≢false (sym is))
is_of_load NoThread is = absurd (true≢false (sym is))

-- a failure of reading one of these files is one of a load of them
pub fails_on_reading : (paths : List (List ℕ)) (failure : Failure) → IsOfReadingOne paths failure → FailsLoading paths failure
fails_on_reading paths (CannotRead told cause) is = is
fails_on_reading paths (CannotWrite StandardOutput cause) is = tt
fails_on_reading paths (CannotWrite (File path) cause) is = is
fails_on_reading paths (CannotListen told cause) is = is
fails_on_reading paths NoMemory is = tt
fails_on_reading paths NoThread is = tt

-- what a load fails with is a failure of `load`, and one of `serve`
pub fails_on_load : (paths : List (List ℕ)) (failure : Failure) → IsOfLoad failure → FailsLoading paths failure
fails_on_load paths (CannotRead told cause) is = absurd is
fails_on_load paths (CannotWrite StandardOutput cause) is = tt
fails_on_load paths (CannotWrite (File path) cause) is = absurd is
fails_on_load paths (CannotListen told cause) is = absurd is
fails_on_load paths NoMemory is = tt
fails_on_load paths NoThread is = tt

pub fails_serving_load : (socket : List ℕ) (failure : Failure) → IsOfLoad failure → FailsServing socket failure
fails_serving_load socket (CannotRead told cause) is = absurd is
fails_serving_load socket (CannotWrite StandardOutput cause) is = tt
fails_serving_load socket (CannotWrite (File path) cause) is = absurd is
fails_serving_load socket (CannotListen told cause) is = absurd is
fails_serving_load socket NoMemory is = tt
fails_serving_load socket NoThread is = tt

-- what refuses a load is a failure of it
pub refused : (error : LoadError) → IsOfLoad (failure_of_load error)
refused load_error.NoMemory = tt
refused load_error.NoThread = tt
