use Rattle.std.proofs.Common.{◌≡◌, ◌<◌, ℕ, Some, length, slice_get}
use Rattle.lfi_receive.specs.declared.receiver.Receiver.{Receiver}
use Rattle.lfi_receive.specs.Receivers.{start_of}
use Rattle.lfi_stage.proofs.telling.starts_of.Given as goal

abbrev pub invariant-loop-number : goal.invariant-loop-number
invariant-loop-number l = record {
  long : length l.starts ≡ 8;
  told : (c : ℕ) (r : Receiver) → c < l.number → slice_get l.receivers c ≡ Some r → slice_get l.starts c ≡ Some (start_of r);
}
