use Rattle.std.proofs.Common.{sym, subst, arith}
use Rattle.lfi_stage.specs.inner.Made.{AreUnusedSeats, AreFreshOf}
use Rattle.lfi_stage.proofs.Fresh.{count_of_new, unused_passes}
use Rattle.lfi_stage.proofs.making.make_hearing.Goals as goal

pub make_receivers-requires-clause-few : goal.make_receivers-requires-clause-few
make_receivers-requires-clause-few c = (let count = count_of_new c.in_ok-intake.intake c.args.count c.in_ok-intake.puts.items c.in_ok-intake.ensures.puts in let few = c.requires.few in omega arith)

pub make_receivers-requires-clause-puts : goal.make_receivers-requires-clause-puts
make_receivers-requires-clause-puts c = unused_passes c.in_ok-intake.intake c.args.count c.in_ok-intake.puts.items c.in_ok-intake.ensures.puts

pub make_receivers-requires-clause-seats : goal.make_receivers-requires-clause-seats
make_receivers-requires-clause-seats c = subst (λ n. AreUnusedSeats n c.args.seats) (sym (count_of_new c.in_ok-intake.intake c.args.count c.in_ok-intake.puts.items c.in_ok-intake.ensures.puts)) c.requires.seats

pub returns-clause-receivers : goal.returns-clause-receivers
returns-clause-receivers c = subst (λ p. AreFreshOf p c.args.seats c.in_ok-receivers.receivers.items) c.in_ok-intake.ensures.puts c.in_ok-receivers.ensures.fresh

pub returns-clause-pool : goal.returns-clause-pool
returns-clause-pool c = c.in_ok-receivers.ensures.pool
