use Rattle.std.proofs.lemmas.Result.{IfOk-weaker}
use Rattle.lfi_thread_loops.specs.declared.promises.PartExit.TheVariants.{Ended}
use Rattle.lfi_thread_loops.proofs.running.join_each.Goals as goal

pub returns-clause-kept : goal.returns-clause-kept
returns-clause-kept g c = IfOk-weaker c.all_back.result _ _ (λ parts ended k part at. c.in_ok-exits.ensures.kept k (Ended part) (ended k part at)) c.all_back.ensures.ended
