-- Threads by the numbers of their parts. Only private clauses and proofs use it.
use Rattle.std.specs.Prelude.{◌≡◌, ℕ, List, Some, slice_get}
use Rattle.lfi_stage_model.specs.declared.shared.Shared.{Shared}
use Rattle.lfi_thread_loops.specs.declared.promises.PartId.{PartId}

-- Each of these threads is that of the part of the stage with its own number.
abbrev pub AreAt : {H : Type 0} → (shared : Shared) → (threads : List H) → (part_of : H → PartId) → Type 0
AreAt shared threads part_of = (k : ℕ) (h : _) → slice_get threads k ≡ Some h → ((part_of h).shared.now ≡ shared) × ((part_of h).number ≡ k)
