-- What became of a page that a pool was asked to take.
use Rattle.std.proofs.Common.{◌≡◌, ◌≢◌, ℕ, inl, inr}
use Rattle.std.specs.Prelude.{Result, Ok, Err, OnOk, OnErr, IsErr}
use Rattle.lfi_module.specs.Numbers.{small_page}
use Rattle.page_buf.specs.Members.{MemberView}
use Rattle.page_buf.specs.SeenSlots.{Found, Passed, empty}
use Rattle.lfi_sequence.specs.inner.Pools.{Offers}

-- whether it took it or not
pub offered : {A B : Type 0} (result : Result A B) (size : ℕ) (old new : MemberView) → OnOk result (Found empty old.seen new.seen) → (size ≡ small_page → OnErr result (Passed empty 64 old.seen new.seen))
    → (size ≢ small_page → IsErr result × (new.seen ≡ old.seen)) → Offers size old new
offered (Ok taken) size old new found passed large = (λ _. inl found, λ other. (large other).1)
offered (Err back) size old new found passed large = (λ small. inr (passed small), λ other. (large other).1)
