use Rattle.std.proofs.Common.{rules, sym, subst, ◌++◌, ◌+◌, ◌∷◌, []}
use Rattle.lfi_model.specs.Items.{item_of}
use Rattle.lfi_model.specs.declared.item.ItemKind.TheVariants as item
use Rattle.lfi_verifier.specs.States.{Keeps}
use Rattle.lfi_verifier.specs.StreamVerdicts.{state_at, FindsOutcome}
use Rattle.lfi_verifier.proofs.Ends.{found}
use Rattle.lfi_verifier.proofs.verdicts.end.Goals as goal

pub returns-in-Some-clause-bad : goal.returns-in-Some-clause-bad
returns-in-Some-clause-bad c = λ no.
    let keeps : Keeps (state_at c.args.verdicts.now.modules c.args.«module») c.in-Some.whole = search rules in
    absurd (no (record { beginning = c.in-Some.whole; keeps = keeps; in_range = search rules }))

pub returns-in-Some-clause-found : goal.returns-in-Some-clause-found
returns-in-Some-clause-found c = λ extent pages items h.
    let s = state_at c.args.verdicts.now.modules c.args.«module» in
    let keeps : Keeps s c.in-Some.whole = search rules in
    subst (λ f. FindsOutcome extent (items ++ item_of c.args.«module» (pages + 1) extent (item.End c.args.reason) ∷ []) f) (sym c.of_end.ensures)
    (found s extent pages items c.in-Some.whole c.args.«module» c.args.reason keeps h)
