use Rattle.std.proofs.Common.{◌≡◌, ◌∙◌, ◌<◌, ℕ, Bool, Some, length, slice_get, refl, sym, subst, arith}
use Rattle.std.specs.Prelude.{IsTrue}
use Rattle.std.proofs.lemmas.List.{length-set}
use Rattle.std.proofs.lemmas.Option.{slice_get_read, slice_get_within}
use Rattle.lfi_board.specs.Known.{board_id, sequencer_board}
use Rattle.lfi_queues.specs.Passes.{QueueId}
use Rattle.lfi_sequence.specs.declared.sequencer.Sequencer.{Sequencer}
use Rattle.lfi_sequence.specs.Turns.{seat_of}
use Rattle.lfi_stage_model.specs.Workers.{IsSequencer}
use Rattle.lfi_stage_model.specs.Shares.{board_at, lanes_of}
use Rattle.lfi_stage_model.proofs.Each.{set_each, set_other}
use Rattle.lfi_sync.specs.LaneSets.{has_lane}
use Rattle.lfi_thread_loops.specs.inner.Workers.{HasLooked, IsSequencerOf}
use Rattle.lfi_thread_loops.proofs.Placed.{set_looked, took_before, takes_here, none_here}
use Rattle.lfi_thread_loops.proofs.sequencer_loop.sequence_once.Goals.{then-look_at, else-look_at}
use Rattle.lfi_thread_loops.proofs.sequencer_loop.sequence_once.Goals as goal

pub look_at-requires : goal.look_at-requires
look_at-requires g c =
    let i = c.loop-number.invariant.are in
    let ss = c.loop-number.sequencers.items in
    let lanes = lanes_of c.args.shared.now in
    let m : ℕ = c.loop-number.number in
    let s = c.index_mut.result.now in
    let within : m < length ss = (let count = i.count in let end = c.len-number-end.ensures in omega arith) in
    let at : slice_get ss m ≡ Some s = slice_get_read ss (length ss) m s refl within c.index_mut.ensures.value in
    record { is = subst (λ (k : ℕ). IsSequencerOf c.args.shared.now k s) (sym c.at-module.ensures) (record { lanes = i.lanes; is = λ lane at_lane. i.are m s lane at at_lane; seat = i.seats m s at }) }

pub loop-number-preserved : goal.loop-number-preserved
loop-number-preserved g c =
    let inv = c.loop-number.invariant in
    let i = inv.are in
    let ss = c.loop-number.sequencers.items in
    let lanes = lanes_of c.args.shared.now in
    let m : ℕ = c.loop-number.number in
    let s = c.index_mut.result.now in
    let t = c.look_at.new.sequencer in
    let filled = has_lane c.args.filled.now in
    let within : m < length ss = (let count = i.count in let end = c.len-number-end.ensures in omega arith) in
    let at : slice_get ss m ≡ Some s = slice_get_read ss (length ss) m s refl within c.index_mut.ensures.value in
    let old = c.args.sequencers.now.items in
    let was : slice_get old m ≡ Some s = sym (inv.left m (omega arith)) ∙ at in
    let is : IsSequencerOf c.args.shared.now m t = subst (λ (k : ℕ). IsSequencerOf c.args.shared.now k t) c.at-module.ensures c.look_at.ensures.is in
    let looked : HasLooked (filled m) c.look_at.result s t = subst (λ (k : ℕ). HasLooked (filled k) c.look_at.result s t) c.at-module.ensures c.look_at.ensures.looked in
    record {
      are = record {
        lanes = i.lanes;
        count = length-set ss m _ ∙ i.count;
        are = λ n q lane. (λ e at_lane. set_each (λ j w. (l : QueueId) → slice_get lanes j ≡ Some l → IsSequencer l j w) ss m t (λ j w e l. i.are j w l e) is.is n q e lane at_lane);
        seats = set_each (λ j w. sequencer_board (seat_of w) ≡ board_id (board_at c.args.shared.now)) ss m t i.seats is.seat;
      };
      left = λ n past. set_other ss m n t (λ e. omega arith) ∙ inv.left n (omega arith);
      each = set_looked (λ n a b. (took : Bool) × HasLooked (filled n) took a b) old ss m s t within inv.each was (c.look_at.result, looked);
      some = λ yes. elim c.if-look_at.branch [
        | then-look_at w ↦ takes_here old ss m s t within was (filled m) (subst (λ took. HasLooked (filled m) took s t) w.if-look_at.true looked)
        | else-look_at w ↦ took_before old ss m s t within was (inv.some (subst (λ b. IsTrue b) w.worked-is yes))
      ];
      none = λ no. elim c.if-look_at.branch [
        | then-look_at w ↦ absurd (let yes = w.worked-is in cc)
        | else-look_at w ↦ none_here old ss m s t within was filled (subst (λ took. HasLooked (filled m) took s t) w.if-look_at.false looked) (inv.none (sym w.worked-is ∙ no))
      ];
    }

pub returns-clause-placed : goal.returns-clause-placed
returns-clause-placed g c =
    let inv = c.loop-number.invariant in
    let new = c.loop-number.sequencers.items in
    let past : (m : ℕ) (t : Sequencer) → slice_get new m ≡ Some t → m < c.loop-number.number =
    λ m t by. (let less = slice_get_within new m t by in let count = inv.are.count in let was = c.requires.count in let end = c.len-number-end.ensures in let test = c.loop-number-test.false in omega arith) in
    record {
      each = λ m s t at by. inv.each m s t (past m t by) at by;
      some = λ yes. (let took = inv.some yes in (took.0, took.1, took.2, took.4, took.5, took.6));
      none = λ no m s t at by. inv.none no m s t (past m t by) at by;
    }
