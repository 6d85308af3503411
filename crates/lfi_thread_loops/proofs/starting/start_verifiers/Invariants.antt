use Rattle.std.proofs.Common.{◌≡◌, ℕ, ◌+◌, Some, length, slice_get}
use Rattle.std.specs.Vec.Iter.{into_iter_items, into_iter_len}
use Rattle.lfi_thread_loops.proofs.starting.start_verifiers.Given as goal

abbrev pub invariant-loop-verifier : goal.invariant-loop-verifier
invariant-loop-verifier g l = record {
  count : length l.handles.items + into_iter_len l.verifier-iterator ≡ length l.fn.verifiers.items;
  rest : (k : ℕ) → slice_get (into_iter_items l.verifier-iterator) k ≡ slice_get l.fn.verifiers.items (length l.handles.items + k);
  numbered : (k : ℕ) (h : _) → slice_get l.handles.items k ≡ Some h → (h.promise.part.shared.now ≡ l.env.shared.now) × (h.promise.part.number ≡ k);
}
