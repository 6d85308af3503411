-- All parts of a stage, before their threads and after.
use Rattle.std.proofs.Common.{◌≡◌, ◌<◌, ◌≤◌, ◌∙◌, ℕ, List, Option, Some, None, length, slice_get, refl, sym, ap, subst, arith}
use Rattle.std.specs.Option.{option_map_or}
use Rattle.std.specs.Prelude.{Ok, Err, IsOk, IfOk, OnOk}
use Rattle.std.specs.Result.{result_and}
use Rattle.std.specs.declared.result.Result.{Result}
use Rattle.std.proofs.lemmas.Option.{slice_get_within}
use Rattle.lfi_receive.specs.declared.receiver.Receiver.{Receiver}
use Rattle.lfi_stage_model.specs.declared.shared.Parts.{Parts}
use Rattle.lfi_stage_model.specs.declared.shared.Shared.{Shared}
use Rattle.lfi_stage_model.specs.Parts.{ArePartsOf, IsReceiver}
use Rattle.lfi_stage_model.proofs.Each.{some_at}
use Rattle.lfi_stage_model.specs.Fresh.{IsFresh}
use Rattle.lfi_thread_loops.specs.Heard.{HasHeard}
use Rattle.lfi_thread_loops.specs.Running.{AreReady}
use Rattle.lfi_thread_loops.specs.Seated.{AreVerifiersOf}
use Rattle.lfi_thread_loops.specs.inner.Workers.{AreSequencersOf}

pub sequencers_of : (shared : Shared) (count : ℕ) (ready : Parts) → AreReady shared count ready → AreSequencersOf shared ready.sequencers.items
sequencers_of shared count ready are = (let others = are.all.others_are in record { lanes = others.workers.lane_count; count = others.workers.sequencer_count; are = others.workers.sequencers_are; seats = others.seats })

pub receivers_of : (shared : Shared) (count : ℕ) (ready : Parts) → AreReady shared count ready → (k : ℕ) (r : Receiver) → slice_get ready.receivers.items k ≡ Some r → IsReceiver shared k r × IsFresh r
receivers_of shared count ready are k r at = (are.all.receivers_are.each k r at, are.fresh k r at)

-- they are as many as before, and each is what it was
pub back_of : (shared : Shared) (count : ℕ) (old : Parts) (new : Parts) → AreReady shared count old → length new.receivers.items ≡ length old.receivers.items → ((k : ℕ) (r : Receiver) → slice_get new.receivers.items k ≡ Some r → IsReceiver shared k r)
    → length new.verifiers.items ≡ length old.verifiers.items → AreVerifiersOf shared new.verifiers.items → AreSequencersOf shared new.sequencers.items → ArePartsOf shared new
back_of shared count old new ready receiver_count receivers verifier_count verifiers sequencers =
    let all = ready.all in
    let was = all.others_are.workers in
    record {
      receivers_are = record {
        count = receiver_count ∙ all.receivers_are.count;
        few = subst (λ n. n ≤ 8) (sym receiver_count) all.receivers_are.few;
        board = receiver_count ∙ all.receivers_are.board;
        each = receivers;
      };
      others_are = record {
        workers = record {
          verifier_count = verifier_count ∙ was.verifier_count;
          some = was.some;
          few = was.few;
          lane_count = was.lane_count;
          sequencer_count = sequencers.count;
          putters = was.putters;
          takers = was.takers;
          verifiers_are = λ k v at. (verifiers k v at).is;
          sequencers_are = sequencers.are;
        };
        seats = sequencers.seats;
      };
    }

-- what holds where a Result has a value holds, since this one has
pub on_ok : {T E : Type 0} (r : Result T E) (P : Type 0) → IsOk r → OnOk r P → P
on_ok (Ok x) P is on = on
on_ok (Err e) P is on = absurd cc

-- what is known of the second of two Results, where the first has a value too
pub both_ok : {U T E : Type 0} (first : Result U E) (second r : Result T E) (P : T → Type 0) → r ≡ result_and first second → ((x : T) → IsOk first → second ≡ Ok x → P x) → IfOk r P
both_ok (Ok u) (Ok x) r P is f = subst (λ o. IfOk o P) (sym is) (f x refl refl)
both_ok (Ok u) (Err e) r P is f = subst (λ o. IfOk o P) (sym is) tt
both_ok (Err e) second r P is f = subst (λ o. IfOk o P) (sym is) tt

-- what three clauses say together of a value that comes back
pub of_three : {T E : Type 0} (r : Result T E) (A B C P : T → Type 0) → IfOk r A → IfOk r B → IfOk r C → ((x : T) → A x → B x → C x → P x) → IfOk r P
of_three (Ok x) A B C P a b c f = f x a b c
of_three (Err e) A B C P a b c f = tt

-- what is known of the input of each thread, by their numbers
abbrev pub had_of : {H : Type 0} → (H → Option (List ℕ)) → List H → ℕ → Option (List ℕ)
had_of had hs k = option_map_or had (slice_get hs k) None

pub had_of_is : {H : Type 0} (had : H → Option (List ℕ)) (hs : List H) (k : ℕ) (h : H) → slice_get hs k ≡ Some h → had_of had hs k ≡ had h
had_of_is had hs k h at = ap (λ o. option_map_or had o None) at

-- each receiver has heard what the input of its thread had
pub heard_by : {H : Type 0} (had : H → Option (List ℕ)) (hs : List H) (rs : List Receiver) → length rs ≡ length hs → ((k : ℕ) (r : Receiver) (h : H) → slice_get rs k ≡ Some r → slice_get hs k ≡ Some h → HasHeard (had h) r)
    → (k : ℕ) (r : Receiver) → slice_get rs k ≡ Some r → HasHeard (had_of had hs k) r
heard_by had hs rs same each k r at =
    let within : k < length hs = (let low = slice_get_within rs k r at in omega arith) in
    let h = some_at hs k within in
    subst (λ o. HasHeard o r) (sym (had_of_is had hs k h.0 h.1)) (each k r h.0 at h.1)
