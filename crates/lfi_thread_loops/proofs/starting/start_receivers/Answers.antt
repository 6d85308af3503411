use Rattle.std.proofs.Common.{◌≡◌, ◌++◌, ◌∷◌, [], ◌∙◌, ℕ, Some, length, slice_get, is_ok, ap, sym, subst, arith}
use Rattle.std.proofs.lemmas.Result.{IfOk-at_ok, IfOk-from_err}
use Rattle.std.specs.Vec.Iter.{into_iter_items, into_iter_steps}
use Rattle.lfi_stage_model.specs.Parts.{IsReceiver}
use Rattle.lfi_stage_model.proofs.Filling.{push_each, one_more, next_is, still_from}
use Rattle.lfi_sync.proofs.Begun.{all_left, from_first, each_of_none, one_left, all_kept}
use Rattle.lfi_thread_loops.proofs.starting.start_receivers.Goals as goal

pub loop-receiver-init : goal.loop-receiver-init
loop-receiver-init g c =
    let none = c.requires.none in
    let hs = c.args.handles.now.items in
    record {
      count = all_left hs _ _ c.args.receivers.items none c.into_iter-receiver-iterator.ensures.into_iter_gives.1 c.args.receivers.ok.0;
      rest = from_first hs _ c.args.receivers.items none c.into_iter-receiver-iterator.ensures.into_iter_gives.0;
      input_count = all_left hs _ _ c.args.inputs.items none c.into_iter-inputs.ensures.len c.args.inputs.ok.0;
      input_rest = from_first hs _ c.args.inputs.items none c.into_iter-inputs.ensures.rest;
      numbered = each_of_none (λ k h. (h.promise.part.shared.now ≡ c.args.env.now.shared.now) × (h.promise.part.number ≡ k)) hs none;
      inputs = each_of_none (λ k h. slice_get c.args.inputs.items k ≡ Some h.promise.input.value) hs none;
    }

pub unwrap-input-requires : goal.unwrap-input-requires
unwrap-input-requires g c = c.next-in-loop-receiver.ensures.variant.1 (one_left _ _ _ _ _ _ c.loop-receiver.invariant.count c.loop-receiver.invariant.input_count c.requires.inputs c.in-Some.ensures.steps.1)

pub returns-in_err-verifying-clause-numbered : goal.returns-in_err-verifying-clause-numbered
returns-in_err-verifying-clause-numbered g c = each_of_none (λ k h. (h.promise.part.shared.now ≡ c.args.env.now.shared.now) × (h.promise.part.number ≡ k)) c.args.handles.now.items c.requires.none

pub returns-in_err-verifying-clause-inputs : goal.returns-in_err-verifying-clause-inputs
returns-in_err-verifying-clause-inputs g c = each_of_none (λ k h. slice_get c.args.inputs.items k ≡ Some h.promise.input.value) c.args.handles.now.items c.requires.none

pub returns-in_err-verifying-clause-all : goal.returns-in_err-verifying-clause-all
returns-in_err-verifying-clause-all g c = IfOk-from_err c.from_residual.result _ c.from_residual.ensures.0

pub returns-in_err-verifying-clause-verifying : goal.returns-in_err-verifying-clause-verifying
returns-in_err-verifying-clause-verifying g c = IfOk-from_err c.from_residual.result _ c.from_residual.ensures.0

pub returns-in_err-keep-clause-all : goal.returns-in_err-keep-clause-all
returns-in_err-keep-clause-all g c = IfOk-from_err c.from_residual-in_err-keep.result _ c.from_residual-in_err-keep.ensures.0

pub returns-in_err-keep-clause-verifying : goal.returns-in_err-keep-clause-verifying
returns-in_err-keep-clause-verifying g c = IfOk-from_err c.from_residual-in_err-keep.result _ c.from_residual-in_err-keep.ensures.0

pub returns-clause-numbered : goal.returns-clause-numbered
returns-clause-numbered g c = c.loop-receiver.invariant.numbered

pub returns-clause-inputs : goal.returns-clause-inputs
returns-clause-inputs g c = c.loop-receiver.invariant.inputs

pub returns-clause-all : goal.returns-clause-all
returns-clause-all g c = all_kept _ _ _ c.loop-receiver.invariant.count c.in-None.ensures.steps.0

pub returns-clause-verifying : goal.returns-clause-verifying
returns-clause-verifying g c = ap is_ok c.in_ok-verifying.was

pub start_receiver-handle-requires-clause-is : goal.start_receiver-handle-requires-clause-is
start_receiver-handle-requires-clause-is g c = λ κs within.
    let i = c.loop-receiver.invariant in
    let step = c.in-Some.ensures.steps in
    let n : ℕ = length c.loop-receiver.handles.items in
    let at : n ≡ c.len-number.result = sym (c.len-number.ensures ∙ c.loop-receiver.handles.ok.0) in
    subst (λ k. IsReceiver c.args.env.now.shared.now k c.in-Some.receiver) at (c.requires.is n c.in-Some.receiver (next_is c.args.receivers.items (into_iter_items c.loop-receiver.receiver-iterator) (into_iter_items c.next.new.self) c.in-Some.receiver n i.rest step.0)).0

pub start_receiver-handle-requires-clause-fresh : goal.start_receiver-handle-requires-clause-fresh
start_receiver-handle-requires-clause-fresh g c = λ κs within.
    let i = c.loop-receiver.invariant in
    let step = c.in-Some.ensures.steps in
    let n : ℕ = length c.loop-receiver.handles.items in
    (c.requires.is n c.in-Some.receiver (next_is c.args.receivers.items (into_iter_items c.loop-receiver.receiver-iterator) (into_iter_items c.next.new.self) c.in-Some.receiver n i.rest step.0)).1

pub loop-receiver-preserved : goal.loop-receiver-preserved
loop-receiver-preserved g c =
    let i = c.loop-receiver.invariant in
    let step = c.in-Some.ensures.steps in
    let n : ℕ = length c.loop-receiver.handles.items in
    let at : c.len-number.result ≡ n = c.len-number.ensures ∙ c.loop-receiver.handles.ok.0 in
    let kept = c.in_ok-keep.ensures.kept in
    let handle = kept.0 in
    let inputs = c.args.inputs.items in
    let old_inputs = into_iter_items c.loop-receiver.inputs in
    let new_inputs = into_iter_items c.next-in-loop-receiver.new.self in
    let taken = subst (λ o. into_iter_steps c.loop-receiver.inputs o c.next-in-loop-receiver.new.self) c.unwrap-input.ensures c.next-in-loop-receiver.ensures.cases in
    let grown : c.keep.new.handles.items ≡ c.loop-receiver.handles.items ++ handle ∷ [] = kept.2 in
    let more = one_more c.loop-receiver.handles.items c.keep.new.handles.items handle grown in
    let started = IfOk-at_ok _ kept.1 c.start_receiver-handle.ensures.promised in
    record {
      count = (let count = i.count in let less = step.1 in omega arith);
      rest = still_from c.args.receivers.items (into_iter_items c.loop-receiver.receiver-iterator) (into_iter_items c.next.new.self) c.in-Some.receiver n i.rest step.0 (length c.keep.new.handles.items) more;
      input_count = (let count = i.input_count in let less = taken.1 in omega arith);
      input_rest = still_from inputs old_inputs new_inputs c.unwrap-input.result n i.input_rest taken.0 (length c.keep.new.handles.items) more;
      numbered = push_each (λ k h. (h.promise.part.shared.now ≡ c.args.env.now.shared.now) × (h.promise.part.number ≡ k)) c.loop-receiver.handles.items c.keep.new.handles.items handle grown i.numbered (started.0, started.1 ∙ at);
      inputs = push_each (λ k h. slice_get inputs k ≡ Some h.promise.input.value) c.loop-receiver.handles.items c.keep.new.handles.items handle grown i.inputs
          (next_is inputs old_inputs new_inputs c.unwrap-input.result n i.input_rest taken.0 ∙ ap Some (sym started.2));
    }

pub returns-in_err-keep-clause-numbered : goal.returns-in_err-keep-clause-numbered
returns-in_err-keep-clause-numbered g c = λ k h at. c.loop-receiver.invariant.numbered k h (subst (λ l. slice_get l k ≡ Some h) c.in_err-keep.ensures.refused at)

pub returns-in_err-keep-clause-inputs : goal.returns-in_err-keep-clause-inputs
returns-in_err-keep-clause-inputs g c = λ k h at. c.loop-receiver.invariant.inputs k h (subst (λ l. slice_get l k ≡ Some h) c.in_err-keep.ensures.refused at)
