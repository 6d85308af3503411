use Rattle.std.proofs.Common.{◌≡◌, ◌<◌, ◌≤◌, ℕ, length, slice_get}
use Rattle.std.specs.Prelude.{slice_index}
use Rattle.std.specs.Option.{option_map_or}
use Rattle.lfi_receive.specs.Receivers.{strays_at}
use Rattle.lfi_stage.proofs.telling.connection_strays_of.Given as goal

abbrev pub invariant-loop-number : goal.invariant-loop-number
invariant-loop-number l = record {
  long : length l.strays ≡ 8;
  told : (c : ℕ) → c < l.number → slice_index l.strays c ≡ option_map_or strays_at (slice_get l.receivers c) 0;
  none : (c : ℕ) → l.number ≤ c → slice_index l.strays c ≡ 0;
}
