use Rattle.std.proofs.Common.{◌≡◌, ℕ, ◌<◌, ◌≤◌, None, length, slice_get}
use Rattle.std.specs.Prelude.{get_or}
use Rattle.std.specs.Option.{option_map}
use Rattle.lfi_queues.specs.Passes.{pass_at}
use Rattle.lfi_receive.specs.Receivers.{pass_of, seat_of}
use Rattle.lfi_stage.proofs.receivers_apart.take_apart.Given as goal

abbrev pub invariant-loop-receiver : goal.invariant-loop-receiver
invariant-loop-receiver l = record {
  few : length l.receivers.items ≤ 8;
  long : (length l.puts ≡ 8) × (length l.seats ≡ 8);
  same : (k : ℕ) → k < length l.receivers.items → slice_get l.receivers.items k ≡ slice_get l.fn.receivers.items k;
  puts : (k : ℕ) → length l.receivers.items ≤ k → pass_at l.puts k ≡ option_map pass_of (slice_get l.fn.receivers.items k);
  seats : (k : ℕ) → length l.receivers.items ≤ k → get_or l.seats k None ≡ option_map seat_of (slice_get l.fn.receivers.items k);
}

abbrev pub decreases-loop-receiver : goal.decreases-loop-receiver
decreases-loop-receiver l = goal.left-loop-receiver l
