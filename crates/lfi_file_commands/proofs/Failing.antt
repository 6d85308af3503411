-- Failures of the output.
use Rattle.std.proofs.Common.{◌≡◌, ℕ, List, true, false, sym, ◌∙◌, true≢false}
use Rattle.lfi_file_commands.specs.declared.failure.Target.TheVariants.{StandardOutput, File}
use Rattle.lfi_file_commands.specs.declared.failure.Failure.{Failure}
use Rattle.lfi_file_commands.specs.declared.failure.Failure.TheVariants.{CannotRead, CannotWrite, CannotListen, NoMemory, NoThread}
use Rattle.lfi_file_commands.specs.Failures.{is_of_output, FailsOn}

-- a failure of the output is one of each command that writes there
pub fails_on_output : (paths : List (List ℕ)) (failure : Failure) → is_of_output failure ≡ true → FailsOn paths failure
fails_on_output paths (CannotRead told cause) is = absurd (true≢false (sym is))
fails_on_output paths (CannotWrite StandardOutput cause) is = tt
fails_on_output paths (CannotWrite (File path) cause) is = absurd (true≢false (sym is))
fails_on_output paths (CannotListen told cause) is = absurd (true≢false (sym is))
fails_on_output paths NoMemory is = tt
fails_on_output paths NoThread is = absurd (true≢false (sym is))

-- and no other
pub is_no_other : {P : Type 0} (failure : Failure) → is_of_output failure ≡ true → is_of_output failure ≡ false → P
is_no_other failure is other = absurd (true≢false (sym is ∙ other))
