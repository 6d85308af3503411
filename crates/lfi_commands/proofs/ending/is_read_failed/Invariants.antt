use Rattle.std.proofs.Common.{◌≢◌, ◌<◌, ℕ, Some}
use Rattle.std.specs.Prelude.{slice_get}
use Rattle.lfi_frame.specs.declared.fault.FrameFault.TheVariants.{ReadFailed}
use Rattle.lfi_commands.proofs.ending.is_read_failed.Given as goal

abbrev pub invariant-loop-number : goal.invariant-loop-number
invariant-loop-number l = record { none : (c : ℕ) → c < l.number → slice_get l.faults c ≢ Some (Some ReadFailed) }
