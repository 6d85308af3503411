use Rattle.std.proofs.Common.{sym, subst}
use Rattle.lfi_stream.specs.Endings.{LosesIn}
use Rattle.lfi_verifier.specs.Streams.{FindsLost}
use Rattle.lfi_verifier.proofs.stream.lost.Goals as goal

pub returns-in-End-clause-found : goal.returns-in-End-clause-found
returns-in-End-clause-found c = λ items old new fault judged loses.
    let k = c.in-End.«module» in
    let extent = c.in-End.extent in
    let pages = c.in-End.pages in
    subst (λ e. LosesIn fault old new e → FindsLost e c.end.result items) (sym c.in-End.is)
    (λ l. c.end.ensures.found extent pages (items k) (judged k extent pages l.0.0.was)) loses
