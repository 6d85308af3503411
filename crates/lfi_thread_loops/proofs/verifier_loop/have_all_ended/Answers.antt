use Rattle.lfi_stage_model.proofs.Kept.{verifier_looked}
use Rattle.lfi_stage_model.proofs.Staying.{seat_saw}
use Rattle.lfi_thread_loops.proofs.verifier_loop.have_all_ended.Goals as goal

pub ended-requires : goal.ended-requires
ended-requires c = record { board = c.requires.is.seat.seat }

pub returns-clause-is : goal.returns-clause-is
returns-clause-is c =
    let did = c.ended.ensures in
    record {
      lanes = c.requires.is.lanes;
      is = verifier_looked _ _ c.args.part.number c.args.verifier.now c.ended.new.self c.requires.is.is did.pass did.lanes did.hand;
      seat = seat_saw c.args.part.shared.now c.args.verifier.now c.ended.new.self c.ended.result c.requires.is.seat did.board did.saw;
    }
