use Rattle.std.proofs.Common.{◌∙◌, sym, append_assoc}
use Rattle.std.proofs.Output.{has_written_of_eq}
use Rattle.lfi_model.proofs.Lines.{claimed_line}
use Rattle.lfi_model.proofs.summary.write_module.Goals as goal

pub returns-in_default : goal.returns-in_default
returns-in_default g c = λ plain ok.
    has_written_of_eq _ _ _ _ _ ((simp append_assoc) ∙ sym (claimed_line c.args.number c.args.outcome c.in_default.not-Unused)) (c.write.ensures.writes plain ok)
