use Rattle.std.proofs.Common.{◌≡◌, ◌∙◌, ◌<◌, ℕ, Some, length, slice_get, refl, arith}
use Rattle.std.proofs.lemmas.List.{length-set}
use Rattle.std.proofs.lemmas.Option.{slice_get_read}
use Rattle.lfi_stage_model.proofs.Kept.{verifier_stays}
use Rattle.lfi_stage_model.specs.Shares.{intake_of, lanes_of}
use Rattle.lfi_stage_model.proofs.Staying.{with_verifier}
use Rattle.tests_load.proofs.reports.turned.verify.Goals as goal

pub returns : goal.returns
returns g c =
    let p = c.requires.pair in
    let s = c.args.stage.now in
    let vs = s.parts.verifiers.items in
    let k : ℕ = c.args.number in
    let v = c.index_mut.result.now in
    let within : k < length vs = (let count = p.verifier_count in let few = c.requires.number in omega arith) in
    let at : slice_get vs k ≡ Some v = slice_get_read vs (length vs) k v refl within c.index_mut.ensures.value in
    let was = p.parts.others_are.workers.verifiers_are k v at in
    let is = verifier_stays (intake_of s.shared) (lanes_of s.shared) k v c.turn.new.self was c.turn.ensures.pass c.turn.ensures.same c.turn.ensures.tie in
    record {
      receiver_count = p.receiver_count;
      verifier_count = length-set vs k _ ∙ p.verifier_count;
      parts = with_verifier s.shared s.parts.receivers.items vs s.parts.sequencers.items k c.turn.new.self p.parts is;
    }
