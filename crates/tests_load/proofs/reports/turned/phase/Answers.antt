use Rattle.std.proofs.Common.{◌≡◌, ◌∙◌, ◌<◌, ℕ, Some, length, slice_get, refl, arith}
use Rattle.std.proofs.lemmas.List.{length-set}
use Rattle.std.proofs.lemmas.Option.{slice_get_read}
use Rattle.lfi_receive.specs.declared.receiver.ReceiverTurn.TheVariants.{More}
use Rattle.lfi_stage_model.proofs.Staying.{with_receiver, receiver_turns}
use Rattle.tests_load.proofs.reports.turned.phase.Goals as goal

pub returns : goal.returns
returns c =
    let p = c.requires.pair in
    let s = c.args.stage.now in
    let rs = s.parts.receivers.items in
    let k : ℕ = c.args.number in
    let r = c.index_mut.result.now in
    let within : k < length rs = (let count = p.receiver_count in let few = c.requires.number in omega arith) in
    let at : slice_get rs k ≡ Some r = slice_get_read rs (length rs) k r refl within c.index_mut.ensures.value in
    let is = receiver_turns s.shared k r c.look.new.self More (p.parts.receivers_are.each k r at) c.look.ensures.pass c.look.ensures.board in
    record {
      receiver_count = length-set rs k _ ∙ p.receiver_count;
      verifier_count = p.verifier_count;
      parts = with_receiver s.shared rs s.parts.verifiers.items s.parts.sequencers.items k c.look.new.self p.parts is;
    }
