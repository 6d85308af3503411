use Rattle.std.proofs.Common.{◌≡◌, ℕ, ◌+◌, Some, None, false, length, slice_get}
use Rattle.std.specs.Vec.Iter.{into_iter_items, into_iter_len}
use Rattle.lfi_receive.specs.Inputs.{left_of}
use Rattle.lfi_sync.specs.Clients.{sent_over_socket}
use Rattle.lfi_sync.specs.Deadlines.{limit_of_acceptor}
use Rattle.lfi_sync.specs.Fates.{fate_at, is_out_of_time}
use Rattle.lfi_thread_loops.specs.inner.Clients.{AreTaken}
use Rattle.lfi_thread_loops.proofs.serving.accept_all.Given as goal

abbrev pub invariant-loop-receiver : goal.invariant-loop-receiver
invariant-loop-receiver g l = record {
  count : length l.handles.items + into_iter_len l.receiver-iterator ≡ length l.fn.receivers.items;
  rest : (k : ℕ) → slice_get (into_iter_items l.receiver-iterator) k ≡ slice_get l.fn.receivers.items (length l.handles.items + k);
  long : length l.fates ≡ 8;
  taken : AreTaken l.fates l.handles.items (λ h. left_of sent_over_socket h.promise.input.value);
  endless : limit_of_acceptor l.clients.acceptor.now ≡ None → (c : ℕ) → is_out_of_time (fate_at l.fates c) ≡ false;
  numbered : (k : ℕ) (h : _) → slice_get l.handles.items k ≡ Some h → (h.promise.part.shared.now ≡ l.env.shared.now) × (h.promise.part.number ≡ k);
}
