use Rattle.std.proofs.Common.{◌≡◌, ◌∙◌, sym, subst, refl}
use Rattle.lfi_frame.specs.Streams.{close_message}
use Rattle.lfi_model.specs.declared.connection.Progress.TheVariants.{Going}
use Rattle.lfi_connection.specs.Modules.{IsOver}
use Rattle.lfi_connection.proofs.Growth.{close_stray, over_by}
use Rattle.lfi_connection.proofs.Books.{closed, strayed}
use Rattle.lfi_connection.proofs.step.close.Goals as goal

pub returns-in-Going-clause-holds : goal.returns-in-Going-clause-holds
returns-in-Going-clause-holds g c = λ coming claimed ms payload holds.
    let P = g.P.ProgressTable.progress_at c.args.table.now in
    let was : P c.args.«module» ≡ Going c.in-Going.extent c.in-Going.pages = sym c.at.ensures.at ∙ c.in-Going.is in
    closed P (g.P.ProgressTable.progress_at c.set.new.self) coming coming claimed ms payload c.args.«module» c.in-Going.extent c.in-Going.pages was refl c.set.ensures.at holds

pub returns-in_default-clause-holds : goal.returns-in_default-clause-holds
returns-in_default-clause-holds g c = λ coming claimed ms payload holds.
    let P = g.P.ProgressTable.progress_at c.args.table.now in
    let k = c.args.«module» in
    let over : IsOver (P k) = subst IsOver c.at.ensures.at (over_by _ c.in_default.not-Going) in
    strayed P coming claimed ms payload (close_message k) (λ s. close_stray (claimed k) k s (P k) over) holds
