use Rattle.std.proofs.Common.{◌≡◌, ℕ, ◌<◌, ◌≤◌, [], None, length, slice_get}
use Rattle.std.specs.Option.{option_map, option_map_or}
use Rattle.lfi_queues.specs.Passes.{pass_at}
use Rattle.lfi_sequence.specs.Handed.{take_pass_of, lane_puts_of, hand_of}
use Rattle.lfi_stage.specs.inner.Rows.{row_of, held_by}
use Rattle.lfi_stage.proofs.verifiers_apart.take_apart.Given as goal

abbrev pub invariant-loop-verifier : goal.invariant-loop-verifier
invariant-loop-verifier l = record {
  few : length l.verifiers.items ≤ 8;
  long : (length l.takes ≡ 8) × (length l.rows ≡ 8) × (length l.hands ≡ 8);
  same : (k : ℕ) → k < length l.verifiers.items → slice_get l.verifiers.items k ≡ slice_get l.fn.verifiers.items k;
  takes : (k : ℕ) → length l.verifiers.items ≤ k → pass_at l.takes k ≡ option_map take_pass_of (slice_get l.fn.verifiers.items k);
  rows : (k : ℕ) → length l.verifiers.items ≤ k → row_of l.rows k ≡ option_map_or lane_puts_of (slice_get l.fn.verifiers.items k) [];
  hands : (k : ℕ) → length l.verifiers.items ≤ k → held_by l.hands k ≡ option_map_or hand_of (slice_get l.fn.verifiers.items k) None;
}

abbrev pub decreases-loop-verifier : goal.decreases-loop-verifier
decreases-loop-verifier l = goal.left-loop-verifier l
