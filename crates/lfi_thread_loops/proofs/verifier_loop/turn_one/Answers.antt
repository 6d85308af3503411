use Rattle.std.proofs.Common.{sym, subst}
use Rattle.lfi_sequence.specs.Handed.{AreLanes, AsTold, lane_puts_of}
use Rattle.lfi_stage_model.proofs.Kept.{lanes_of, verifier_stays}
use Rattle.lfi_stage_model.proofs.Staying.{seat_turns}
use Rattle.lfi_thread_loops.proofs.verifier_loop.turn_one.Goals as goal

pub turn-requires-clause-intake : goal.turn-requires-clause-intake
turn-requires-clause-intake g c = c.requires.is.is.takes.1

pub turn-requires-clause-lanes : goal.turn-requires-clause-lanes
turn-requires-clause-lanes g c = subst (λ lanes. AreLanes lanes (lane_puts_of c.args.verifier.now)) (sym c.deref.ensures.value)
    (lanes_of c.args.part.shared.now.intake c.args.part.shared.now.lanes.items c.args.part.number c.args.verifier.now c.requires.is.is c.requires.is.lanes)

pub returns-clause-is : goal.returns-clause-is
returns-clause-is g c = record {
  lanes = c.requires.is.lanes;
  is = verifier_stays c.args.part.shared.now.intake c.args.part.shared.now.lanes.items c.args.part.number c.args.verifier.now c.turn.new.self c.requires.is.is c.turn.ensures.pass c.turn.ensures.same c.turn.ensures.tie;
  seat = seat_turns c.args.part.shared.now c.args.verifier.now c.turn.new.self c.requires.is.seat c.turn.ensures.seat;
}

pub returns-clause-idle : goal.returns-clause-idle
returns-clause-idle g c = λ idle. subst (λ did. AsTold did c.args.verifier.now c.turn.new.self) idle c.turn.ensures.did
