use Rattle.std.proofs.Common.{◌≡◌, false, ◌++◌, ◌∷◌, [], ◌∙◌, ◌<◌, ℕ, Some, length, slice_get, is_ok, rules, sym, ap, subst, inl, inr, arith}
use Rattle.std.proofs.Math.ListN.{set}
use Rattle.std.proofs.lemmas.Bool.Decides.{eqb_tells}
use Rattle.std.proofs.lemmas.List.{length-set, get_or-set_same, get_or-set_other}
use Rattle.std.proofs.lemmas.Result.{IfOk-at_ok, IfOk-from_err}
use Rattle.std.specs.Vec.Iter.{into_iter_items}
use Rattle.lfi_stage_model.specs.Parts.{IsReceiver}
use Rattle.lfi_stage_model.proofs.Filling.{push_each, one_more, next_is, still_from}
use Rattle.lfi_receive.specs.Inputs.{left_of}
use Rattle.lfi_sync.specs.declared.fate.ClientFate.TheVariants.{Heard}
use Rattle.lfi_sync.specs.Clients.{sent_over_socket}
use Rattle.lfi_sync.specs.Fates.{fate_at, is_out_of_time}
use Rattle.lfi_thread_loops.proofs.Clients.{none_taken, one_more_taken}
use Rattle.lfi_sync.proofs.Begun.{all_left, from_first, each_of_none, all_kept}
use Rattle.lfi_thread_loops.proofs.serving.accept_all.Goals as goal

pub loop-receiver-init : goal.loop-receiver-init
loop-receiver-init g c =
    let none = c.requires.none in
    let hs = c.args.handles.now.items in
    record {
      count = all_left hs _ _ c.args.receivers.items none c.into_iter-receiver-iterator.ensures.into_iter_gives.1 c.args.receivers.ok.0;
      rest = from_first hs _ c.args.receivers.items none c.into_iter-receiver-iterator.ensures.into_iter_gives.0;
      long = search rules;
      taken = none_taken _ (λ h. left_of sent_over_socket h.promise.input.value) hs none (λ c. search rules);
      endless = λ never c. search rules;
      numbered = each_of_none (λ k h. (h.promise.part.shared.now ≡ c.args.env.now.shared.now) × (h.promise.part.number ≡ k)) hs none;
    }

pub returns-in_err-verifying-clause-numbered : goal.returns-in_err-verifying-clause-numbered
returns-in_err-verifying-clause-numbered g c = each_of_none (λ k h. (h.promise.part.shared.now ≡ c.args.env.now.shared.now) × (h.promise.part.number ≡ k)) c.args.handles.now.items c.requires.none

pub returns-in_err-verifying-clause-all : goal.returns-in_err-verifying-clause-all
returns-in_err-verifying-clause-all g c = IfOk-from_err c.from_residual.result _ c.from_residual.ensures.0

pub returns-in_err-verifying-clause-taken : goal.returns-in_err-verifying-clause-taken
returns-in_err-verifying-clause-taken g c = IfOk-from_err c.from_residual.result _ c.from_residual.ensures.0

pub returns-in_err-verifying-clause-endless : goal.returns-in_err-verifying-clause-endless
returns-in_err-verifying-clause-endless g c = IfOk-from_err c.from_residual.result _ c.from_residual.ensures.0

pub returns-in_err-verifying-clause-verifying : goal.returns-in_err-verifying-clause-verifying
returns-in_err-verifying-clause-verifying g c = IfOk-from_err c.from_residual.result _ c.from_residual.ensures.0

pub returns-in_err-keep-clause-all : goal.returns-in_err-keep-clause-all
returns-in_err-keep-clause-all g c = IfOk-from_err c.from_residual-in_err-keep.result _ c.from_residual-in_err-keep.ensures.0

pub returns-in_err-keep-clause-taken : goal.returns-in_err-keep-clause-taken
returns-in_err-keep-clause-taken g c = IfOk-from_err c.from_residual-in_err-keep.result _ c.from_residual-in_err-keep.ensures.0

pub returns-in_err-keep-clause-endless : goal.returns-in_err-keep-clause-endless
returns-in_err-keep-clause-endless g c = IfOk-from_err c.from_residual-in_err-keep.result _ c.from_residual-in_err-keep.ensures.0

pub returns-in_err-keep-clause-verifying : goal.returns-in_err-keep-clause-verifying
returns-in_err-keep-clause-verifying g c = IfOk-from_err c.from_residual-in_err-keep.result _ c.from_residual-in_err-keep.ensures.0

pub returns-in_err-input-clause-all : goal.returns-in_err-input-clause-all
returns-in_err-input-clause-all g c = IfOk-from_err c.from_residual-in_err-input.result _ c.from_residual-in_err-input.ensures.0

pub returns-in_err-input-clause-taken : goal.returns-in_err-input-clause-taken
returns-in_err-input-clause-taken g c = IfOk-from_err c.from_residual-in_err-input.result _ c.from_residual-in_err-input.ensures.0

pub returns-in_err-input-clause-endless : goal.returns-in_err-input-clause-endless
returns-in_err-input-clause-endless g c = IfOk-from_err c.from_residual-in_err-input.result _ c.from_residual-in_err-input.ensures.0

pub returns-in_err-input-clause-verifying : goal.returns-in_err-input-clause-verifying
returns-in_err-input-clause-verifying g c = IfOk-from_err c.from_residual-in_err-input.result _ c.from_residual-in_err-input.ensures.0

pub returns-in_err-input-clause-numbered : goal.returns-in_err-input-clause-numbered
returns-in_err-input-clause-numbered g c = c.loop-receiver.invariant.numbered

pub returns-clause-numbered : goal.returns-clause-numbered
returns-clause-numbered g c = c.loop-receiver.invariant.numbered

pub returns-clause-taken : goal.returns-clause-taken
returns-clause-taken g c = c.loop-receiver.invariant.taken

pub returns-clause-endless : goal.returns-clause-endless
returns-clause-endless g c = c.loop-receiver.invariant.endless

pub returns-clause-all : goal.returns-clause-all
returns-clause-all g c = all_kept _ _ _ c.loop-receiver.invariant.count c.in-None.ensures.steps.0

pub returns-clause-verifying : goal.returns-clause-verifying
returns-clause-verifying g c = ap is_ok c.in_ok-verifying.was

pub start_receiver-handle-requires-clause-is : goal.start_receiver-handle-requires-clause-is
start_receiver-handle-requires-clause-is g c = λ κs within.
    let i = c.loop-receiver.invariant in
    let step = c.in-Some.ensures.steps in
    let n : ℕ = length c.loop-receiver.handles.items in
    let at : n ≡ c.len-number.result = sym (c.len-number.ensures ∙ c.loop-receiver.handles.ok.0) in
    subst (λ k. IsReceiver c.args.env.now.shared.now k c.in-Some.receiver) at (c.requires.is n c.in-Some.receiver (next_is c.args.receivers.items (into_iter_items c.loop-receiver.receiver-iterator) (into_iter_items c.next.new.self) c.in-Some.receiver n i.rest step.0)).0

pub start_receiver-handle-requires-clause-fresh : goal.start_receiver-handle-requires-clause-fresh
start_receiver-handle-requires-clause-fresh g c = λ κs within.
    let i = c.loop-receiver.invariant in
    let step = c.in-Some.ensures.steps in
    let n : ℕ = length c.loop-receiver.handles.items in
    (c.requires.is n c.in-Some.receiver (next_is c.args.receivers.items (into_iter_items c.loop-receiver.receiver-iterator) (into_iter_items c.next.new.self) c.in-Some.receiver n i.rest step.0)).1

pub loop-receiver-preserved : goal.loop-receiver-preserved
loop-receiver-preserved g c =
    let i = c.loop-receiver.invariant in
    let step = c.in-Some.ensures.steps in
    let n : ℕ = length c.loop-receiver.handles.items in
    let at : c.len-number.result ≡ n = c.len-number.ensures ∙ c.loop-receiver.handles.ok.0 in
    let kept = c.in_ok-keep.ensures.kept in
    let handle = kept.0 in
    let grown : c.keep.new.handles.items ≡ c.loop-receiver.handles.items ++ handle ∷ [] = kept.2 in
    let more = one_more c.loop-receiver.handles.items c.keep.new.handles.items handle grown in
    let started = IfOk-at_ok _ kept.1 c.start_receiver-handle.ensures.promised in
    let k : ℕ = c.len-number.result in
    let fate = c.fate-fate.result in
    let room : k < length c.loop-receiver.fates = (let long = i.long in let count = i.count in let few = c.requires.few in let less = step.1 in omega arith) in
    record {
      count = (let count = i.count in let less = step.1 in omega arith);
      rest = still_from c.args.receivers.items (into_iter_items c.loop-receiver.receiver-iterator) (into_iter_items c.next.new.self) c.in-Some.receiver n i.rest step.0 (length c.keep.new.handles.items) more;
      long = length-set c.loop-receiver.fates k fate ∙ i.long;
      taken = one_more_taken c.loop-receiver.fates (λ h. left_of sent_over_socket h.promise.input.value) c.loop-receiver.handles.items c.keep.new.handles.items handle k fate at room grown i.taken (ap (left_of sent_over_socket) started.2 ∙ (IfOk-at_ok _ c.in_ok-input.was c.input_of.ensures ∙ c.fate-fate.ensures.sent));
      endless = λ never n. elim (eqb_tells n k) as (λ _. is_out_of_time (fate_at (set c.loop-receiver.fates k fate) n) ≡ false) [
        | inl e ↦ ap is_out_of_time (subst (λ z. fate_at (set c.loop-receiver.fates k fate) z ≡ fate) (sym e.1) (get_or-set_same c.loop-receiver.fates k fate Heard room) ∙ c.fate-fate.ensures.is) ∙ c.accept-client.ensures never
        | inr other ↦ ap is_out_of_time (get_or-set_other c.loop-receiver.fates k n fate Heard other.1) ∙ i.endless never n
      ];
      numbered = push_each (λ k h. (h.promise.part.shared.now ≡ c.args.env.now.shared.now) × (h.promise.part.number ≡ k)) c.loop-receiver.handles.items c.keep.new.handles.items handle grown i.numbered (started.0, started.1 ∙ at);
    }

pub returns-in_err-keep-clause-numbered : goal.returns-in_err-keep-clause-numbered
returns-in_err-keep-clause-numbered g c = λ k h at. c.loop-receiver.invariant.numbered k h (subst (λ l. slice_get l k ≡ Some h) c.in_err-keep.ensures.refused at)
