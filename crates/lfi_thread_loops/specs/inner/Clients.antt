-- What is known of what all clients send. Only private clauses and proofs use it.
use Rattle.std.specs.Prelude.{◌≡◌, ◌<◌, ◌≤◌, ℕ, List, Option, Some, Result, Ok, length, slice_get}
use Rattle.lfi_sync.specs.declared.fate.ClientFate.{ClientFate}
use Rattle.lfi_sync.specs.declared.fate.ClientFate.TheVariants.{Heard}
use Rattle.lfi_sync.specs.declared.fate.Unheard.{Unheard}
use Rattle.lfi_sync.specs.declared.refusal.LoadError.{LoadError}
use Rattle.lfi_sync.specs.Clients.{sent_at}
use Rattle.lfi_sync.specs.Fates.{fate_after, fate_at, is_unheard}

-- This became of the clients of these threads: of each is known what it has sent, as far as that is known at all.
pub record AreTaken {H : Type 0} (fates : List ClientFate) (threads : List H) (sent_of : H → Option (List ℕ)) : Type 0 where
  pub known : (k : ℕ) (h : H) → slice_get threads k ≡ Some h → sent_of h ≡ sent_at (fate_at fates k)
  pub no_other : (k : ℕ) → length threads ≤ k → fate_at fates k ≡ Heard

-- All clients could be waited for, with this, and then these had not ended when the time was over.
pub record HaveComeTo (accepted : Result (List ClientFate) LoadError) (unheard : Unheard) (fates : List ClientFate) : Type 0 where
  pub before : List ClientFate
  pub accepts : accepted ≡ Ok before
  pub each : (c : ℕ) → c < 8 → fate_at fates c ≡ fate_after (is_unheard unheard c) (fate_at before c)
  pub no_other : (c : ℕ) → 8 ≤ c → fate_at fates c ≡ Heard
