use Rattle.std.proofs.Common.{◌≡◌, ◌∙◌, sym, refl}
use Rattle.lfi_frame.specs.Streams.{open_message}
use Rattle.lfi_model.specs.declared.connection.Progress.TheVariants.{Unclaimed}
use Rattle.lfi_connection.proofs.Growth.{open_stray, open_taken}
use Rattle.lfi_connection.proofs.Books.{opened, strayed}
use Rattle.lfi_connection.proofs.step.open.Goals as goal

pub returns-then-not-is_free-clause-holds : goal.returns-then-not-is_free-clause-holds
returns-then-not-is_free-clause-holds g c = λ coming claimed ms payload free holds.
    let P = g.P.ProgressTable.progress_at c.args.table.now in
    let k = c.args.«module» in
    let was : P k ≡ Unclaimed = sym c.at.ensures.at ∙ c.in-Unclaimed.is in
    strayed P coming claimed ms payload (open_message k c.args.extent) (λ s. open_taken (claimed k) k c.args.extent s (P k) (free was ∙ c.if-not-is_free.true)) holds

pub returns-else-not-is_free-clause-holds : goal.returns-else-not-is_free-clause-holds
returns-else-not-is_free-clause-holds g c = λ coming claimed ms payload free holds.
    let P = g.P.ProgressTable.progress_at c.args.table.now in
    let was : P c.args.«module» ≡ Unclaimed = sym c.at.ensures.at ∙ c.in-Unclaimed.is in
    opened P (g.P.ProgressTable.progress_at c.set.new.self) coming coming claimed ms payload c.args.«module» c.args.extent (free was ∙ c.if-not-is_free.false) was refl c.set.ensures.at holds

pub returns-in_default-clause-holds : goal.returns-in_default-clause-holds
returns-in_default-clause-holds g c = λ coming claimed ms payload free holds.
    let P = g.P.ProgressTable.progress_at c.args.table.now in
    let k = c.args.«module» in
    strayed P coming claimed ms payload (open_message k c.args.extent) (λ s. open_stray (claimed k) k c.args.extent s (P k) (λ e. c.in_default.not-Unclaimed (c.at.ensures.at ∙ e))) holds
