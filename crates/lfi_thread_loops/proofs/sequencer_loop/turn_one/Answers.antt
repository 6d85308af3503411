use Rattle.std.proofs.Common.{◌≡◌, ◌∙◌, ℕ, Some, length, slice_get, refl, subst, arith}
use Rattle.std.proofs.lemmas.Option.{slice_get_read}
use Rattle.lfi_stage_model.proofs.Kept.{sequencer_stays}
use Rattle.lfi_stage_model.specs.Shares.{lanes_of}
use Rattle.lfi_thread_loops.proofs.sequencer_loop.turn_one.Goals as goal

pub turn-requires-clause-lane : goal.turn-requires-clause-lane
turn-requires-clause-lane g c =
    let i = c.requires.is in
    let lanes = lanes_of c.args.shared.now in
    let m : ℕ = c.index.result in
    let lane = c.index-2.result.now in
    let at : slice_get lanes m ≡ Some lane = slice_get_read lanes (length lanes) m lane refl (let all = i.lanes in let low = c.index.ensures.range in omega arith) c.index-2.ensures in
    (i.is lane (subst (λ (k : ℕ). slice_get lanes k ≡ Some lane) c.index.ensures.value at)).takes.1

pub returns-clause-is : goal.returns-clause-is
returns-clause-is g c =
    let i = c.requires.is in
    let did = c.turn.ensures in
    record {
      lanes = i.lanes;
      is = λ lane at. sequencer_stays lane c.args.«module» c.args.sequencer.now c.turn.new.self c.turn.result (i.is lane at) did.takes did.tie did.board.1;
      seat = did.board.0 ∙ i.seat;
    }
