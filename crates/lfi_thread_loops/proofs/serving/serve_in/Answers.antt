use Rattle.std.proofs.Common.{◌≡◌, ◌∙◌, length, subst, arith}
use Rattle.std.proofs.lemmas.Result.{IfOk-at_ok, IfOk-from_err}
use Rattle.lfi_receive.specs.Inputs.{left_of}
use Rattle.lfi_sync.specs.Clients.{sent_over_socket}
use Rattle.lfi_thread_loops.specs.inner.Workers.{AreSequencersOf}
use Rattle.lfi_thread_loops.proofs.Clients.{heard_after, no_other_after, endless_after}
use Rattle.lfi_thread_loops.proofs.Through.{back_of, sequencers_of, receivers_of, heard_by, on_ok, of_three}
use Rattle.lfi_thread_loops.proofs.serving.serve_in.Goals as goal

pub start_sequencers-requires-clause-are : goal.start_sequencers-requires-clause-are
start_sequencers-requires-clause-are g c = λ κs within. sequencers_of c.args.env.now.shared.now c.requires.ready.0 c.args.ready c.requires.ready.1

pub start_verifiers-begun-requires-clause-are : goal.start_verifiers-begun-requires-clause-are
start_verifiers-begun-requires-clause-are g c = λ κs within. c.requires.ready.1.seated

pub accept_all-accepted-requires-clause-is : goal.accept_all-accepted-requires-clause-is
accept_all-accepted-requires-clause-is g c = λ κs within. λ k r at. receivers_of c.args.env.now.shared.now c.requires.ready.0 c.args.ready c.requires.ready.1 k r at

pub accept_all-accepted-requires-clause-few : goal.accept_all-accepted-requires-clause-few
accept_all-accepted-requires-clause-few g c = λ κs within. c.requires.ready.1.all.receivers_are.few

pub returns : goal.returns
returns g c = of_three c.back_from.result _ _ _ _ c.back_from.ensures.fates c.back_from.ensures.parts c.back_from.ensures.limit (λ back come are limit.
    let on = c.join_parts-back.ensures in
    let ready = c.requires.ready.1 in
    let accepted = c.accept_all-accepted.ensures in
    let told = come.accepts in
    let count = IfOk-at_ok _ told accepted.all in
    let verifiers = on_ok c.start_verifiers-begun.result _ (IfOk-at_ok _ told accepted.verifying) c.start_verifiers-begun.ensures.all in
    let taken = IfOk-at_ok _ told accepted.taken in
    let hs = c.accept_all-accepted.new.handles.items in
    let new = back.parts in
    let receiver_count = IfOk-at_ok _ are on.receiver_count in
    let verifier_count = IfOk-at_ok _ are on.verifier_count in
    let few = ready.all.receivers_are.few in
    let before = come.before in
    let unheard = c.wait_in_time-unheard in
    let long : c.len.result ≡ length hs = c.len.ensures ∙ c.accept_all-accepted.new.handles.ok.0 in
    record {
      parts = record {
        all = back_of c.args.env.now.shared.now c.requires.ready.0 c.args.ready new ready (receiver_count ∙ count) (IfOk-at_ok _ are on.receivers) (verifier_count ∙ verifiers) (IfOk-at_ok _ are on.verifiers) (IfOk-at_ok _ are on.sequencers);
        counted = receiver_count ∙ count;
        verifiers_counted = verifier_count ∙ verifiers;
        heard = heard_after before back.clients.fates unheard.result _ (λ h. left_of sent_over_socket h.promise.input.value) hs come.each come.no_other count few taken new.receivers.items (receiver_count ∙ count)
            (heard_by (λ h. left_of sent_over_socket h.promise.input.value) hs new.receivers.items receiver_count (IfOk-at_ok _ are on.heard));
        ended = IfOk-at_ok _ are on.ended;
      };
      no_other = no_other_after before back.clients.fates unheard.result _ (λ h. left_of sent_over_socket h.promise.input.value) hs come.each come.no_other count few taken (λ n past. unheard.ensures.beyond n (omega arith));
      endless = λ never. endless_after before back.clients.fates unheard.result _ (λ h. left_of sent_over_socket h.promise.input.value) hs come.each come.no_other count few taken (unheard.ensures.endless (c.close-closed.ensures ∙ never)) (IfOk-at_ok _ told accepted.endless never);
      limited = limit ∙ c.limit.ensures ∙ c.close-closed.ensures;
    })

pub accept_all-accepted-requires-clause-none : goal.accept_all-accepted-requires-clause-none
accept_all-accepted-requires-clause-none g c = λ κs within. c.new-receiving.ensures.items

pub start_verifiers-begun-requires-clause-none : goal.start_verifiers-begun-requires-clause-none
start_verifiers-begun-requires-clause-none g c = λ κs within. c.new-verifying.ensures.items

pub join_parts-back-requires-clause-receiving : goal.join_parts-back-requires-clause-receiving
join_parts-back-requires-clause-receiving g c = c.accept_all-accepted.ensures.numbered

pub join_parts-back-requires-clause-verifying : goal.join_parts-back-requires-clause-verifying
join_parts-back-requires-clause-verifying g c = c.start_verifiers-begun.ensures.numbered

pub join_parts-back-requires-clause-placed : goal.join_parts-back-requires-clause-placed
join_parts-back-requires-clause-placed g c = subst (λ s. AreSequencersOf s c.join-placed.result.sequencers.items) c.in_ok-placing.ensures.promised c.join-placed.ensures

pub returns-in_err-placing : goal.returns-in_err-placing
returns-in_err-placing g c = IfOk-from_err c.from_residual.result _ c.from_residual.ensures.0
