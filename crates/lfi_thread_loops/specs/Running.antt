-- All parts of a stage, before and after their threads.
use Rattle.std.specs.Prelude.{◌≡◌, ◌≤◌, ℕ, false, List, Option, length, Some, None, slice_get}
use Rattle.std.specs.Option.{option_map_or}
use Rattle.std.specs.declared.time.Duration.{Duration}
use Rattle.lfi_sync.specs.declared.fate.ClientFate.TheVariants.{Heard}
use Rattle.lfi_sync.specs.Clients.{sent_at}
use Rattle.lfi_sync.specs.Fates.{fate_at, is_out_of_time}
use Rattle.lfi_receive.specs.declared.receiver.Receiver.{Receiver}
use Rattle.lfi_receive.specs.declared.input.Input.{Input}
use Rattle.lfi_sequence.specs.declared.verifier.Verifier.{Verifier}
use Rattle.lfi_receive.specs.Inputs.{left_of}
use Rattle.lfi_stage_model.specs.declared.shared.Parts.{Parts}
use Rattle.lfi_stage_model.specs.declared.shared.Shared.{Shared}
use Rattle.lfi_stage_model.specs.Parts.{ArePartsOf}
use Rattle.lfi_stage_model.specs.Fresh.{IsFresh}
use Rattle.lfi_thread_loops.specs.declared.serving.Back.{Back}
use Rattle.lfi_thread_loops.specs.Heard.{HasHeard}
use Rattle.lfi_thread_loops.specs.Seated.{AreVerifiersOf, HasEnded}

-- These are all parts of a stage with `count` receivers, of which no byte has come.
pub record AreReady (shared : Shared) (count : ℕ) (parts : Parts) : Type 0 where
  pub all : ArePartsOf shared parts
  pub seated : AreVerifiersOf shared parts.verifiers.items
  pub counted : length parts.receivers.items ≡ count
  pub fresh : (c : ℕ) (r : Receiver) → slice_get parts.receivers.items c ≡ Some r → IsFresh r

-- These are all parts of a stage with `count` receivers and `verifiers` verifiers. Each receiver has heard what its input had, as far as that is known, and each verifier has ended after all receivers had.
pub record AreBack (shared : Shared) (count verifiers : ℕ) (had : ℕ → Option (List ℕ)) (parts : Parts) : Type 0 where
  pub all : ArePartsOf shared parts
  pub counted : length parts.receivers.items ≡ count
  pub verifiers_counted : length parts.verifiers.items ≡ verifiers
  pub heard : (c : ℕ) (r : Receiver) → slice_get parts.receivers.items c ≡ Some r → HasHeard (had c) r
  pub ended : (k : ℕ) (v : Verifier) → slice_get parts.verifiers.items k ≡ Some v → HasEnded shared v

-- what these inputs have, by their numbers
abbrev pub had_by : {R : Type 0} → (remaining : R → Option (List ℕ)) → List (Input R) → ℕ → Option (List ℕ)
had_by remaining inputs c = option_map_or (left_of remaining) (slice_get inputs c) None

-- The parts are back, each receiver from its client, of which this became: one that isn't there has sent nothing, and what another one has sent isn't known. Where there is no limit of
-- time, it was over for none. This is the limit.
pub record HaveServed (shared : Shared) (count verifiers : ℕ) (limit : Option Duration) (back : Back) : Type 0 where
  pub parts : AreBack shared count verifiers (λ c. sent_at (fate_at back.clients.fates c)) back.parts
  pub no_other : (c : ℕ) → count ≤ c → fate_at back.clients.fates c ≡ Heard
  pub endless : limit ≡ None → (c : ℕ) → is_out_of_time (fate_at back.clients.fates c) ≡ false
  pub limited : back.clients.limit ≡ limit
