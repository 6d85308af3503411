use Rattle.std.proofs.Common.{◌≡◌, ◌++◌, ◌∷◌, [], ◌∙◌, ℕ, Some, length, slice_get, ap, arith}
use Rattle.std.specs.Vec.Iter.{into_iter_items}
use Rattle.lfi_stage_model.proofs.Filling.{push_each, one_more, next_is, still_from}
use Rattle.lfi_thread_loops.specs.declared.promises.PartExit.TheVariants.{Ended}
use Rattle.lfi_thread_loops.proofs.running.all_back.Goals as goal

pub loop-left-preserved : goal.loop-left-preserved
loop-left-preserved g c =
    let i = c.loop-left.invariant in
    let rs = c.loop-left.parts.items in
    let r = c.in-Ended.part in
    let n : ℕ = length rs in
    let exits = c.args.exits.items in
    let old = into_iter_items c.loop-left.left-iterator in
    let new = into_iter_items c.next.new.self in
    let step = c.in-Some.ensures.steps in
    let grown : c.push.new.self.items ≡ rs ++ r ∷ [] = c.in_ok-push-in-Ended.ensures.items in
    let more = one_more rs c.push.new.self.items r grown in
    record {
      count = (let count = i.count in let less = step.1 in omega arith);
      rest = still_from exits old new c.in-Some.left n i.rest step.0 (length c.push.new.self.items) more;
      each = push_each (λ k q. slice_get exits k ≡ Some (Ended q)) rs c.push.new.self.items r grown i.each (next_is exits old new c.in-Some.left n i.rest step.0 ∙ ap Some c.in-Ended.is);
    }
