use Rattle.std.proofs.Common.{IfOk, sym, subst}
use Rattle.lfi_commands.specs.Loading.{TellsAs}
use Rattle.lfi_commands.specs.inner.Known.{known_of}
use Rattle.lfi_commands.proofs.program.end_load.Goals as goal

pub returns-in-Text-clause-told : goal.returns-in-Text-clause-told
returns-in-Text-clause-told g c =
    let did = c.end_as_text in
    subst (λ format. IfOk did.result (TellsAs format c.args.report.now (known_of c.args.sources.now) c.args.asked.now c.args.outputs.now did.new.outputs)) (sym c.in-Text.is) did.ensures.told

pub returns-in-Json-clause-told : goal.returns-in-Json-clause-told
returns-in-Json-clause-told g c =
    let did = c.end_as_object in
    subst (λ format. TellsAs format c.args.report.now (known_of c.args.sources.now) c.args.asked.now c.args.outputs.now did.new.outputs did.result) (sym c.in-Json.is) did.ensures
