-- A new stage is ready for its threads.
use Rattle.std.proofs.Common.{◌≡◌, ℕ, subst}
use Rattle.lfi_stage.specs.declared.stage.Stage.{Stage}
use Rattle.lfi_stage.specs.Stages.{IsNew}
use Rattle.lfi_thread_loops.specs.Running.{AreReady}

-- all parts of a new stage, each verifier with its seat
pub ready_of : (receivers verifiers : ℕ) (stage : Stage) → IsNew receivers verifiers stage
    → AreReady stage.shared receivers stage.parts
ready_of receivers verifiers stage is =
    let workers = is.parts.others_are.workers in
    record {
      all = is.parts;
      seated = λ k v at. record { lanes = workers.lane_count; is = workers.verifiers_are k v at; seat = is.seats k v at };
      counted = is.receiver_count;
      fresh = is.fresh;
    }

pub ready_for : (receivers verifiers count : ℕ) (stage : Stage) → IsNew receivers verifiers stage → receivers ≡ count → AreReady stage.shared count stage.parts
ready_for receivers verifiers count stage is same = subst (λ n. AreReady stage.shared n stage.parts) same (ready_of receivers verifiers stage is)
