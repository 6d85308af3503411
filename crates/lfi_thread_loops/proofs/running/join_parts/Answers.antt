use Rattle.std.proofs.Common.{◌≡◌, ◌∙◌, ℕ, Some, slice_get, sym, subst}
use Rattle.std.proofs.lemmas.Option.{same_Some}
use Rattle.std.proofs.lemmas.Result.{IfOk-at_ok, IfOk-weaker}
use Rattle.lfi_receive.specs.declared.receiver.Receiver.{Receiver}
use Rattle.lfi_sequence.specs.declared.verifier.Verifier.{Verifier}
use Rattle.lfi_receive.specs.Inputs.{left_of}
use Rattle.lfi_stage_model.specs.Parts.{IsReceiver}
use Rattle.lfi_thread_loops.specs.Heard.{HasHeard}
use Rattle.lfi_thread_loops.specs.Seated.{AreVerifiersOf, IsVerifierOf, HasEnded}
use Rattle.lfi_stage_model.specs.declared.shared.Parts.{Parts}
use Rattle.lfi_thread_loops.specs.inner.Workers.{AreSequencersOf}
use Rattle.lfi_thread_loops.proofs.running.join_parts.Goals as goal

pub returns-clause-receiver_count : goal.returns-clause-receiver_count
returns-clause-receiver_count g c = IfOk-weaker c.parts_of.result _ _ (λ parts is. IfOk-at_ok _ is c.join_each-receivers.ensures.count) c.parts_of.ensures.receivers

pub returns-clause-receivers : goal.returns-clause-receivers
returns-clause-receivers g c = IfOk-weaker c.parts_of.result _ _ (λ parts is. IfOk-at_ok _ is
    (IfOk-weaker c.join_each-receivers.result _ (λ receivers. (k : ℕ) (r : Receiver) → slice_get receivers.items k ≡ Some r → IsReceiver c.args.env.now.shared.now k r) (λ receivers kept k r at.
    let told = kept k r at in
    let here = c.requires.receiving k told.0 told.1 in
    subst (λ s. IsReceiver s k r) here.0 (subst (λ n. IsReceiver told.0.promise.part.shared.now n r) here.1 told.2.0)) c.join_each-receivers.ensures.kept)) c.parts_of.ensures.receivers

pub returns-clause-heard : goal.returns-clause-heard
returns-clause-heard g c = IfOk-weaker c.parts_of.result _ _ (λ parts is. IfOk-at_ok _ is
    (IfOk-weaker c.join_each-receivers.result _ (λ receivers. (k : ℕ) (r : Receiver) (h : _) → slice_get receivers.items k ≡ Some r → slice_get c.args.receiving.items k ≡ Some h → HasHeard (left_of g.R.Read.remaining h.promise.input.value) r)
    (λ receivers kept k r h at there.
    let told = kept k r at in
    subst (λ x. HasHeard (left_of g.R.Read.remaining x.promise.input.value) r) (same_Some told.0 h (sym told.1 ∙ there)) told.2.1) c.join_each-receivers.ensures.kept)) c.parts_of.ensures.receivers

pub returns-clause-verifier_count : goal.returns-clause-verifier_count
returns-clause-verifier_count g c = IfOk-weaker c.parts_of.result _ _ (λ parts is. IfOk-at_ok _ is c.join_each-verifiers.ensures.count) c.parts_of.ensures.verifiers

pub returns-clause-verifiers : goal.returns-clause-verifiers
returns-clause-verifiers g c = IfOk-weaker c.parts_of.result _ _ (λ parts is. IfOk-at_ok _ is
    (IfOk-weaker c.join_each-verifiers.result _ (λ verifiers. AreVerifiersOf c.args.env.now.shared.now verifiers.items) (λ verifiers kept k v at.
    let told = kept k v at in
    let here = c.requires.verifying k told.0 told.1 in
    subst (λ s. IsVerifierOf s k v) here.0 (subst (λ n. IsVerifierOf told.0.promise.part.shared.now n v) here.1 told.2.0)) c.join_each-verifiers.ensures.kept)) c.parts_of.ensures.verifiers

pub returns-clause-ended : goal.returns-clause-ended
returns-clause-ended g c = IfOk-weaker c.parts_of.result _ _ (λ parts is. IfOk-at_ok _ is
    (IfOk-weaker c.join_each-verifiers.result _ (λ verifiers. (k : ℕ) (v : Verifier) → slice_get verifiers.items k ≡ Some v → HasEnded c.args.env.now.shared.now v) (λ verifiers kept k v at.
    let told = kept k v at in
    let here = c.requires.verifying k told.0 told.1 in
    subst (λ s. HasEnded s v) here.0 told.2.1) c.join_each-verifiers.ensures.kept)) c.parts_of.ensures.verifiers

pub returns-clause-sequencers : goal.returns-clause-sequencers
returns-clause-sequencers g c = IfOk-weaker c.parts_of.result _ _ (λ (parts : Parts) (same : parts.sequencers ≡ c.args.placed.sequencers). subst (λ s. AreSequencersOf c.args.env.now.shared.now s.items) (sym same) c.requires.placed) c.parts_of.ensures.sequencers
