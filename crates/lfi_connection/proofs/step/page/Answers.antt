use Rattle.std.proofs.Common.{◌≡◌, ◌∙◌, sym, subst, true, false, refl, []}
use Rattle.lfi_model.specs.declared.connection.Progress.TheVariants.{Going}
use Rattle.lfi_connection.specs.Modules.{IsOver}
use Rattle.lfi_connection.proofs.Growth.{next_by, header_stray, over_by}
use Rattle.lfi_connection.proofs.Books.{header_strayed, header_undue, header_due, due_follows}
use Rattle.lfi_connection.proofs.step.page.Goals as goal

pub returns-in_default-clause-holds : goal.returns-in_default-clause-holds
returns-in_default-clause-holds g c = λ coming claimed ms rest payload count holds is bare.
    let P = g.P.ProgressTable.progress_at c.args.table.now in
    let k = c.args.«module» in
    let over : IsOver (P k) = subst IsOver c.at.ensures.at (over_by _ c.in_default.not-Going) in
    header_strayed P coming claimed ms rest payload k c.args.size c.args.index c.args.len (λ s. header_stray k c.args.size c.args.index c.args.len s (P k) over) over holds is

pub returns-then-not-is_next-clause-holds : goal.returns-then-not-is_next-clause-holds
returns-then-not-is_next-clause-holds g c = λ coming claimed ms rest payload count holds is bare.
    let P = g.P.ProgressTable.progress_at c.args.table.now in
    let k = c.args.«module» in
    let was : P k ≡ Going c.in-Going.extent c.in-Going.pages = sym c.at.ensures.at ∙ c.in-Going.is in
    let undue : next_by c.in-Going.extent c.in-Going.pages c.args.size c.args.index c.args.len ≡ false = sym c.is_next.ensures ∙ c.if-not-is_next.true in
    header_undue P (g.P.ProgressTable.progress_at c.set.new.self) coming coming claimed ms rest payload k c.in-Going.extent c.in-Going.pages c.args.size c.args.index c.args.len was undue refl c.set.ensures.at holds is

pub returns-clause-holds : goal.returns-clause-holds
returns-clause-holds g c = λ coming claimed ms rest payload count holds is bare.
    let P = g.P.ProgressTable.progress_at c.args.table.now in
    let k = c.args.«module» in
    let was : P k ≡ Going c.in-Going.extent c.in-Going.pages = sym c.at.ensures.at ∙ c.in-Going.is in
    let due : next_by c.in-Going.extent c.in-Going.pages c.args.size c.args.index c.args.len ≡ true = sym c.is_next.ensures ∙ c.if-not-is_next.false in
    header_due claimed ms rest k c.in-Going.extent c.in-Going.pages c.args.size c.args.index c.args.len due P P coming payload was (λ m. refl) holds is bare

pub returns-clause-follows : goal.returns-clause-follows
returns-clause-follows g c =
    let P = g.P.ProgressTable.progress_at c.args.table.now in
    let was : P c.args.«module» ≡ Going c.in-Going.extent c.in-Going.pages = sym c.at.ensures.at ∙ c.in-Going.is in
    let due : next_by c.in-Going.extent c.in-Going.pages c.args.size c.args.index c.args.len ≡ true = sym c.is_next.ensures ∙ c.if-not-is_next.false in
    due_follows (λ _. true) [] [] c.args.«module» c.in-Going.extent c.in-Going.pages c.args.size c.args.index c.args.len due P was
