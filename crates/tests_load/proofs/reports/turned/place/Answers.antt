use Rattle.std.proofs.Common.{◌≡◌, ◌∙◌, ◌<◌, ℕ, Some, length, slice_get, refl, arith}
use Rattle.std.proofs.lemmas.Option.{slice_get_read}
use Rattle.lfi_stage_model.proofs.Kept.{sequencer_stays}
use Rattle.lfi_stage_model.specs.Shares.{lanes_of}
use Rattle.lfi_stage_model.proofs.Staying.{with_sequencer}
use Rattle.tests_load.proofs.reports.turned.place.Goals as goal

pub turn-requires-clause-lane : goal.turn-requires-clause-lane
turn-requires-clause-lane g c =
    let workers = c.requires.pair.parts.others_are.workers in
    let ss = c.args.stage.now.parts.sequencers.items in
    let lanes = lanes_of c.args.stage.now.shared in
    let m : ℕ = c.args.number in
    let s = c.index_mut.result.now in
    let few = c.requires.number in
    let within : m < length ss = (let count = workers.sequencer_count in omega arith) in
    let at : slice_get ss m ≡ Some s = slice_get_read ss (length ss) m s refl within c.index_mut.ensures.value in
    let lane : slice_get lanes m ≡ Some c.index.result.now = slice_get_read lanes (length lanes) m c.index.result.now refl (let all = workers.lane_count in omega arith) c.index.ensures in
    (workers.sequencers_are m s c.index.result.now at lane).takes.1

pub turn-requires-clause-board : goal.turn-requires-clause-board
turn-requires-clause-board g c =
    let others = c.requires.pair.parts.others_are in
    let ss = c.args.stage.now.parts.sequencers.items in
    let m : ℕ = c.args.number in
    let s = c.index_mut.result.now in
    let few = c.requires.number in
    let within : m < length ss = (let count = others.workers.sequencer_count in omega arith) in
    others.seats m s (slice_get_read ss (length ss) m s refl within c.index_mut.ensures.value)

pub returns : goal.returns
returns g c =
    let p = c.requires.pair in
    let stage = c.args.stage.now in
    let others = p.parts.others_are in
    let ss = stage.parts.sequencers.items in
    let m : ℕ = c.args.number in
    let s = c.index_mut.result.now in
    let t = c.turn.new.self in
    let few = c.requires.number in
    let within : m < length ss = (let count = others.workers.sequencer_count in omega arith) in
    let at : slice_get ss m ≡ Some s = slice_get_read ss (length ss) m s refl within c.index_mut.ensures.value in
    record {
      receiver_count = p.receiver_count;
      verifier_count = p.verifier_count;
      parts = with_sequencer stage.shared stage.parts.receivers.items stage.parts.verifiers.items ss m t p.parts
          (λ lane at_lane. sequencer_stays lane m s t c.turn.result (others.workers.sequencers_are m s lane at at_lane) c.turn.ensures.takes c.turn.ensures.tie c.turn.ensures.board.1)
          (c.turn.ensures.board.0 ∙ others.seats m s at);
    }
