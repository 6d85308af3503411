use Rattle.std.proofs.Common.{◌≡◌, ◌∙◌, false, true, refl, sym, subst}
use Rattle.std.proofs.lemmas.Result.{IfErr-weaker, IfOk-weaker}
use Rattle.lfi_loader.specs.Served.{HasServed}
use Rattle.lfi_commands.specs.Serving.{HasServedAll, IsLimit, TellsServed}
use Rattle.lfi_file_commands.proofs.Failing.{is_no_other}
use Rattle.lfi_file_commands.specs.Failures.{is_of_output, FailsServing}
use Rattle.lfi_commands.proofs.Failing.{fails_serving_load, is_of_load}
use Rattle.lfi_commands.proofs.program.run_serve.Goals as goal

pub serve_on-requires-clause-connections : goal.serve_on-requires-clause-connections
serve_on-requires-clause-connections g c κs within = c.requires.connections

pub serve_on-requires-clause-verifiers : goal.serve_on-requires-clause-verifiers
serve_on-requires-clause-verifiers g c κs within = c.requires.verifiers

pub end_serve-requires : goal.end_serve-requires
end_serve-requires g c = c.requires.connections.1

pub returns-in-Err : goal.returns-in-Err
returns-in-Err g c = record { found = tt; failure = refl; output = λ other. refl; untold = (refl, (refl, refl)) }

pub returns-in-Ok-serve_on : goal.returns-in-Ok-serve_on
returns-in-Ok-serve_on g c =
    let asked = c.args.asked.now in
    let served = c.in-Ok-serve_on.served in
    let is = c.in-Ok-serve_on.ensures in
    let did = c.end_serve in
    let result = did.result in
    let old = c.args.outputs.now in
    let new = did.new.outputs in
    record {
      found = IfOk-weaker result (TellsServed asked.connections served asked.report old new) (HasServedAll asked old new) (λ ending told. record {
        found = served;
        served = subst (λ limit. HasServed asked.connections asked.verifiers limit served) (sym is.limited) is;
        limited = subst (IsLimit asked.seconds) (sym (is.limited ∙ c.new-acceptor.ensures)) c.limit_of.ensures;
        told = told;
      }) did.ensures.told;
      failure = IfErr-weaker result (λ failure. is_of_output failure ≡ true) (FailsServing asked.socket.now) (λ failure is. fails_serving_load asked.socket.now failure (is_of_load failure is)) did.ensures.failure;
      output = IfErr-weaker result (λ failure. is_of_output failure ≡ true) (λ failure. is_of_output failure ≡ false → new.out ≡ old.out) (λ failure is other. is_no_other failure is other) did.ensures.failure;
      untold = did.ensures.untold;
    }
