use Rattle.std.proofs.Common.{◌≡◌, ℕ, ◌+◌, Some, length, slice_get}
use Rattle.std.specs.Vec.Iter.{into_iter_items, into_iter_len}
use Rattle.lfi_thread_loops.specs.declared.promises.PartExit.TheVariants.{Ended}
use Rattle.lfi_thread_loops.proofs.running.all_back.Given as goal

abbrev pub invariant-loop-left : goal.invariant-loop-left
invariant-loop-left g l = record {
  count : length l.parts.items + into_iter_len l.left-iterator ≡ length l.fn.exits.items;
  rest : (k : ℕ) → slice_get (into_iter_items l.left-iterator) k ≡ slice_get l.fn.exits.items (length l.parts.items + k);
  each : (k : ℕ) (part : _) → slice_get l.parts.items k ≡ Some part → slice_get l.fn.exits.items k ≡ Some (Ended part);
}
