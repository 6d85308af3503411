use Rattle.std.proofs.Common.{◌<◌, ℕ, None, length, sym, ◌∙◌, ap, arith}
use Rattle.std.proofs.lemmas.List.{get_or_default}
use Rattle.lfi_stage.proofs.Carrying.{handled_at}
use Rattle.lfi_stage.proofs.carry.carry.Goals as goal

pub returns : goal.returns
returns c = λ taken have.
    let k : ℕ = c.index-module.result in
    let room : k < length c.args.sequences.now = (let range = c.index-module.ensures.range in let long = c.told-sequences in omega arith) in
    let here = get_or_default c.args.sequences.now k None c.index-sequences-module.result room in
    handled_at c.args.sequences.now k c.handle_in.new.slot c.args.item taken (c.index-module.ensures.value ∙ ap (λ j. j.«module») c.item.view_is) room (λ s is. c.handle_in.ensures s (sym here ∙ is)) have
