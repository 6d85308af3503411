use Rattle.lfi_thread_loops.proofs.Hears.{looked_at, looked_before, unchanged}
use Rattle.lfi_thread_loops.proofs.notices.SeenRefused.look_at.Goals as goal

pub look-requires : goal.look-requires
look-requires g c = record { board = c.requires.is.seat }

pub returns-then-self-number-clause-is : goal.returns-then-self-number-clause-is
returns-then-self-number-clause-is g c = c.requires.is

pub returns-then-self-number-clause-before : goal.returns-then-self-number-clause-before
returns-then-self-number-clause-before g c = unchanged c.args.receiver.now

pub returns-then-self-number-clause-finished : goal.returns-then-self-number-clause-finished
returns-then-self-number-clause-finished g c = λ finished. finished

pub returns-then-eq-clause-is : goal.returns-then-eq-clause-is
returns-then-eq-clause-is g c = looked_at c.args.part.shared.now c.args.part.number c.args.receiver.now c.look.new.self c.look.ensures.pass c.look.ensures.board c.requires.is

pub returns-then-eq-clause-before : goal.returns-then-eq-clause-before
returns-then-eq-clause-before g c = looked_before c.args.receiver.now c.look.new.self _ _ c.look.ensures.stands c.look.ensures.cause c.look.ensures.saw

pub returns-then-eq-clause-finished : goal.returns-then-eq-clause-finished
returns-then-eq-clause-finished g c = c.look.ensures.finished

pub returns-else-eq-clause-is : goal.returns-else-eq-clause-is
returns-else-eq-clause-is g c = looked_at c.args.part.shared.now c.args.part.number c.args.receiver.now c.look.new.self c.look.ensures.pass c.look.ensures.board c.requires.is

pub returns-else-eq-clause-before : goal.returns-else-eq-clause-before
returns-else-eq-clause-before g c = looked_before c.args.receiver.now c.look.new.self _ _ c.look.ensures.stands c.look.ensures.cause c.look.ensures.saw

pub returns-else-eq-clause-finished : goal.returns-else-eq-clause-finished
returns-else-eq-clause-finished g c = c.look.ensures.finished
