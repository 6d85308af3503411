use Rattle.std.proofs.Common.{◌≡◌, ◌++◌, ◌∷◌, [], ◌∙◌, ℕ, Some, length, slice_get, sym, subst, arith}
use Rattle.std.proofs.lemmas.Result.{IfOk-at_ok, IfOk-from_err}
use Rattle.std.specs.Vec.Iter.{into_iter_items}
use Rattle.lfi_stage_model.proofs.Filling.{push_each, one_more, next_is, still_from}
use Rattle.lfi_thread_loops.specs.Seated.{IsVerifierOf}
use Rattle.lfi_sync.proofs.Begun.{all_left, from_first, each_of_none, all_kept}
use Rattle.lfi_thread_loops.proofs.starting.start_verifiers.Goals as goal

pub loop-verifier-init : goal.loop-verifier-init
loop-verifier-init g c =
    let none = c.requires.none in
    let hs = c.args.handles.now.items in
    record {
      count = all_left hs _ _ c.args.verifiers.items none c.into_iter-verifier-iterator.ensures.into_iter_gives.1 c.args.verifiers.ok.0;
      rest = from_first hs _ c.args.verifiers.items none c.into_iter-verifier-iterator.ensures.into_iter_gives.0;
      numbered = each_of_none (λ k h. (h.promise.part.shared.now ≡ c.args.env.now.shared.now) × (h.promise.part.number ≡ k)) hs none;
    }

pub returns-in_err-keep-clause-all : goal.returns-in_err-keep-clause-all
returns-in_err-keep-clause-all g c = IfOk-from_err c.from_residual.result _ c.from_residual.ensures.0

pub returns-clause-numbered : goal.returns-clause-numbered
returns-clause-numbered g c = c.loop-verifier.invariant.numbered

pub returns-clause-all : goal.returns-clause-all
returns-clause-all g c = all_kept _ _ _ c.loop-verifier.invariant.count c.in-None.ensures.steps.0

pub start_verifier-handle-requires-clause-is : goal.start_verifier-handle-requires-clause-is
start_verifier-handle-requires-clause-is g c = λ κs within.
    let i = c.loop-verifier.invariant in
    let step = c.in-Some.ensures.steps in
    let n : ℕ = length c.loop-verifier.handles.items in
    let at : n ≡ c.len-number.result = sym (c.len-number.ensures ∙ c.loop-verifier.handles.ok.0) in
    subst (λ k. IsVerifierOf c.args.env.now.shared.now k c.in-Some.verifier) at (c.requires.are n c.in-Some.verifier (next_is c.args.verifiers.items (into_iter_items c.loop-verifier.verifier-iterator) (into_iter_items c.next.new.self) c.in-Some.verifier n i.rest step.0))

pub loop-verifier-preserved : goal.loop-verifier-preserved
loop-verifier-preserved g c =
    let i = c.loop-verifier.invariant in
    let step = c.in-Some.ensures.steps in
    let n : ℕ = length c.loop-verifier.handles.items in
    let at : c.len-number.result ≡ n = c.len-number.ensures ∙ c.loop-verifier.handles.ok.0 in
    let kept = c.in_ok-keep.ensures.kept in
    let handle = kept.0 in
    let grown : c.keep.new.handles.items ≡ c.loop-verifier.handles.items ++ handle ∷ [] = kept.2 in
    let more = one_more c.loop-verifier.handles.items c.keep.new.handles.items handle grown in
    let started = IfOk-at_ok _ kept.1 c.start_verifier-handle.ensures.promised in
    record {
      count = (let count = i.count in let less = step.1 in omega arith);
      rest = still_from c.args.verifiers.items (into_iter_items c.loop-verifier.verifier-iterator) (into_iter_items c.next.new.self) c.in-Some.verifier n i.rest step.0 (length c.keep.new.handles.items) more;
      numbered = push_each (λ k h. (h.promise.part.shared.now ≡ c.args.env.now.shared.now) × (h.promise.part.number ≡ k)) c.loop-verifier.handles.items c.keep.new.handles.items handle grown i.numbered (started.0, started.1 ∙ at);
    }

pub returns-in_err-keep-clause-numbered : goal.returns-in_err-keep-clause-numbered
returns-in_err-keep-clause-numbered g c = λ k h at. c.loop-verifier.invariant.numbered k h (subst (λ l. slice_get l k ≡ Some h) c.in_err-keep.ensures.refused at)
