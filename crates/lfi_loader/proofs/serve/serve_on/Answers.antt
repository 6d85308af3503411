use Rattle.std.proofs.Common.{rules, ◌∙◌, length, subst, sym}
use Rattle.std.proofs.lemmas.Result.{IfOk-from_err}
use Rattle.lfi_sync.specs.Deadlines.{limit_of_acceptor}
use Rattle.lfi_loader.specs.Served.{HasServed}
use Rattle.lfi_loader.proofs.Begins.{ready_of}
use Rattle.lfi_loader.proofs.serve.serve_on.Goals as goal

pub returns-in-Ok : goal.returns-in-Ok
returns-in-Ok g c =
    let made = c.in_ok-parts.ensures in
    let limit = limit_of_acceptor c.args.acceptor in
    let result = c.settled.result in
    subst (λ n. HasServed n c.args.size.verifiers limit result) made.receiver_count
    (subst (λ n. HasServed (length c.in_ok-parts.field-0.parts.receivers.items) n limit result) made.verifier_count
    (c.settled.ensures (length c.in_ok-parts.field-0.parts.receivers.items) (length c.in_ok-parts.field-0.parts.verifiers.items) limit c.in-Ok.ensures.1))

pub new-requires-clause-receivers : goal.new-requires-clause-receivers
new-requires-clause-receivers g c = c.requires.connections

pub returns-in_err-parts : goal.returns-in_err-parts
returns-in_err-parts g c = IfOk-from_err c.from_residual.result _ c.from_residual.ensures.0

pub new-requires-clause-verifiers : goal.new-requires-clause-verifiers
new-requires-clause-verifiers g c = c.requires.verifiers

pub scoped-back-requires : goal.scoped-back-requires
scoped-back-requires g c = record {
  at = λ a. (
    (
      (c.args.size.connections, ready_of c.args.size.connections c.args.size.verifiers c.in_ok-parts.field-0 c.in_ok-parts.ensures),
      c.new-2.ensures ∙ sym c.in_ok-parts.ensures.verifier_count,
    ),
    search rules,
  );
}
