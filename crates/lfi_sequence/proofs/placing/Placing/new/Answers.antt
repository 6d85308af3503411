use Rattle.std.proofs.Common.{[], ap, refl, sym, ◌∙◌}
use Rattle.lfi_sequence.specs.Placed.{builder_with}
use Rattle.lfi_sequence.proofs.Placings.{just_opened}
use Rattle.lfi_sequence.proofs.placing.Placing.new.Goals as goal

pub returns : goal.returns
returns c = λ first extent is.
    let m = c.args.«module» in
    let same = ap (λ z. z.extent) c.in_memory.ensures in
    just_opened m _ first (extent ∙ sym same) is refl refl (c.in_memory.ensures ∙ ap (λ e. builder_with m e []) (sym same))
