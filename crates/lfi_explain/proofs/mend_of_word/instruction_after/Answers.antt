use Rattle.std.proofs.Common.{◌≡◌, ◌+◌, Some, None, refl, sym, subst, arith}
use Rattle.std.specs.Prelude.{slice_get}
use Rattle.std.proofs.lemmas.Option.{slice_get_past}
use Rattle.lfi_rules.proofs.Before.{stands_at}
use Rattle.lfi_explain.specs.Mendings.{IsDecoded}
use Rattle.lfi_explain.proofs.mend_of_word.instruction_after.Goals as goal

pub returns-then-place-count : goal.returns-then-place-count
returns-then-place-count g c =
    let ws = g.W.Words.words c.args.words.now in
    let at : slice_get ws (c.args.place + 1) ≡ Some c.word.result = stands_at ws _ (c.args.place + 1) c.word.result c.word.ensures refl (omega arith) in
    subst (λ o. IsDecoded c.args.profile o c.decoded.result) (sym at) c.decoded.ensures

pub returns-else-place-count : goal.returns-else-place-count
returns-else-place-count g c =
    let ws = g.W.Words.words c.args.words.now in
    let none : slice_get ws (c.args.place + 1) ≡ None = slice_get_past ws (c.args.place + 1) (omega arith) in
    subst (λ o. IsDecoded c.args.profile o None) (sym none) refl
