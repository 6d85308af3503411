use Rattle.std.proofs.Common.{◌≡◌, ◌≤◌, length}
use Rattle.lfi_queues.specs.Passes.{QueueId, new_passes}
use Rattle.lfi_sequence.proofs.Rows.{Dealt}
use Rattle.lfi_sequence.proofs.lanes.deal.Given as goal

abbrev pub invariant-loop-pass : goal.invariant-loop-pass
invariant-loop-pass l =
    (length l.rows.items ≡ length l.initial.rows.items) × (length l.passes.items ≤ length l.initial.rows.items)
    × ((lane : QueueId) → l.initial.passes.items ≡ new_passes lane (length l.initial.rows.items) → Dealt lane l.initial.rows.items (length l.passes.items) l.passes.items l.rows.items)

abbrev pub decreases-loop-pass : goal.decreases-loop-pass
decreases-loop-pass l = length l.passes.items
