use Rattle.std.proofs.Common.{◌≡◌, ℕ, ◌+◌, Some, length, slice_get}
use Rattle.std.specs.Vec.Iter.{into_iter_items, into_iter_len}
use Rattle.lfi_thread_loops.proofs.starting.start_receivers.Given as goal

abbrev pub invariant-loop-receiver : goal.invariant-loop-receiver
invariant-loop-receiver g l = record {
  count : length l.handles.items + into_iter_len l.receiver-iterator ≡ length l.fn.receivers.items;
  rest : (k : ℕ) → slice_get (into_iter_items l.receiver-iterator) k ≡ slice_get l.fn.receivers.items (length l.handles.items + k);
  input_count : length l.handles.items + into_iter_len l.inputs ≡ length l.fn.inputs.items;
  input_rest : (k : ℕ) → slice_get (into_iter_items l.inputs) k ≡ slice_get l.fn.inputs.items (length l.handles.items + k);
  numbered : (k : ℕ) (h : _) → slice_get l.handles.items k ≡ Some h → (h.promise.part.shared.now ≡ l.env.shared.now) × (h.promise.part.number ≡ k);
  inputs : (k : ℕ) (h : _) → slice_get l.handles.items k ≡ Some h → slice_get l.fn.inputs.items k ≡ Some h.promise.input.value;
}
