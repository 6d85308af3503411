use Rattle.std.proofs.Common.{subst}
use Rattle.lfi_sequence.specs.Turns.{lane_pass_of, LaneTaken}
use Rattle.lfi_thread_loops.proofs.Placed.{took_item, took_more}
use Rattle.lfi_thread_loops.proofs.sequencer_loop.empty_lane.Goals as goal

pub loop-turn-init : goal.loop-turn-init
loop-turn-init g c =
    let old = c.args.sequencer.now in
    let new = c.turn_one.new.sequencer in
    record {
      is = c.turn_one.ensures.is;
      took = took_item old new (subst (λ did. LaneTaken did (lane_pass_of old) (lane_pass_of new)) c.in-Worked.is c.turn_one.ensures.takes);
    }

pub loop-turn-preserved : goal.loop-turn-preserved
loop-turn-preserved g c =
    let turned = c.turn_one-in-loop-turn in
    record {
      is = turned.ensures.is;
      took = took_more c.args.sequencer.now c.loop-turn.sequencer turned.new.sequencer turned.result c.loop-turn.invariant.took turned.ensures.takes;
    }
