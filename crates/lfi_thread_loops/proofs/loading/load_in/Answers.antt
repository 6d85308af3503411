use Rattle.std.proofs.Common.{◌≡◌, ◌<◌, ◌∙◌, None, length, sym, ap, subst, arith}
use Rattle.std.specs.Option.{option_map_or}
use Rattle.std.proofs.lemmas.Option.{slice_get_within}
use Rattle.std.proofs.lemmas.Result.{IfOk-at_ok}
use Rattle.lfi_receive.specs.Inputs.{left_of}
use Rattle.lfi_stage_model.proofs.Each.{some_at}
use Rattle.lfi_thread_loops.specs.Heard.{HasHeard}
use Rattle.lfi_thread_loops.specs.Running.{had_by}
use Rattle.lfi_thread_loops.proofs.Through.{back_of, sequencers_of, receivers_of, on_ok, both_ok}
use Rattle.lfi_thread_loops.proofs.loading.load_in.Goals as goal

pub sequence_loop-placed-requires : goal.sequence_loop-placed-requires
sequence_loop-placed-requires g c = sequencers_of c.args.env.now.shared.now (length c.args.inputs.items) c.args.ready c.requires.ready

pub start_verifiers-begun-requires-clause-are : goal.start_verifiers-begun-requires-clause-are
start_verifiers-begun-requires-clause-are g c = λ κs within. c.requires.ready.seated

pub start_receivers-started-requires-clause-is : goal.start_receivers-started-requires-clause-is
start_receivers-started-requires-clause-is g c = λ κs within. λ k r at. receivers_of c.args.env.now.shared.now (length c.args.inputs.items) c.args.ready c.requires.ready k r at

pub returns : goal.returns
returns g c = both_ok c.start_receivers-started.result c.join_parts-back.result c.and.result _ c.and.ensures (λ new fine is.
    let on = c.join_parts-back.ensures in
    let ready = c.requires.ready in
    let started = c.start_receivers-started.ensures in
    let receivers = IfOk-at_ok _ is on.receiver_count ∙ on_ok c.start_receivers-started.result _ fine started.all in
    let verifiers = IfOk-at_ok _ is on.verifier_count ∙ on_ok c.start_verifiers-begun.result _ (on_ok c.start_receivers-started.result _ fine started.verifying) c.start_verifiers-begun.ensures.all in
    let hs = c.start_receivers-started.new.handles.items in
    let remaining = g.R.Read.remaining in
    let had = had_by remaining c.args.inputs.items in
    record {
      all = back_of c.args.env.now.shared.now (length c.args.inputs.items) c.args.ready new ready receivers (IfOk-at_ok _ is on.receivers) verifiers (IfOk-at_ok _ is on.verifiers) (IfOk-at_ok _ is on.sequencers);
      counted = receivers ∙ ready.counted;
      verifiers_counted = verifiers;
      heard = λ k r at.
          let within : k < length hs = (let e = IfOk-at_ok _ is on.receiver_count in let low = slice_get_within new.receivers.items k r at in omega arith) in
          let h = some_at hs k within in
          let is_had : had k ≡ left_of remaining h.0.promise.input.value = ap (λ o. option_map_or (left_of remaining) o None) (started.inputs k h.0 h.1) in
          subst (λ o. HasHeard o r) (sym is_had) ((IfOk-at_ok _ is on.heard) k r h.0 at h.1);
      ended = IfOk-at_ok _ is on.ended;
    })

pub join_parts-back-requires-clause-receiving : goal.join_parts-back-requires-clause-receiving
join_parts-back-requires-clause-receiving g c = c.start_receivers-started.ensures.numbered

pub join_parts-back-requires-clause-verifying : goal.join_parts-back-requires-clause-verifying
join_parts-back-requires-clause-verifying g c = c.start_verifiers-begun.ensures.numbered

pub join_parts-back-requires-clause-placed : goal.join_parts-back-requires-clause-placed
join_parts-back-requires-clause-placed g c = c.sequence_loop-placed.ensures

pub start_receivers-started-requires-clause-none : goal.start_receivers-started-requires-clause-none
start_receivers-started-requires-clause-none g c = λ κs within. c.new-receiving.ensures.items

pub start_receivers-started-requires-clause-inputs : goal.start_receivers-started-requires-clause-inputs
start_receivers-started-requires-clause-inputs g c = λ κs within. sym c.requires.ready.counted

pub start_verifiers-begun-requires-clause-none : goal.start_verifiers-begun-requires-clause-none
start_verifiers-begun-requires-clause-none g c = λ κs within. c.new-verifying.ensures.items
