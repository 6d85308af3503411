use Rattle.std.proofs.Common.{◌∙◌, ap, sym, append_assoc, ◌++◌, Some, option_map}
use Rattle.std.specs.Prelude.{codes, decimal, Option}
use Rattle.std.proofs.Output.{has_written_of_eq}
use Rattle.lfi_frame.specs.Faults.{fault_text}
use Rattle.lfi_frame.specs.declared.fault.FrameFault.{FrameFault}
use Rattle.lfi_commands.specs.Explained.{first_line, fault_lines, of_text}
use Rattle.lfi_commands.proofs.explained.write_fault.Goals as goal

pub returns-in-Some : goal.returns-in-Some
returns-in-Some g c = λ plain ok.
    let path = option_map (λ p. p.now) c.args.path in
    has_written_of_eq _ _ _ _ _
    ((simp append_assoc)
    ∙ ap (λ kind. codes "connection " ++ decimal c.args.number ++ codes ": " ++ fault_text c.in-Some.fault ++ codes "\n  message at byte " ++ decimal c.args.start.byte ++ of_text path ++ codes "\n" ++ first_line kind) c.first_kind.ensures
    ∙ sym (ap (λ (fault : Option FrameFault). fault_lines c.args.number fault (Some c.args.start) path) c.in-Some.is))
    (c.write.ensures.writes plain ok)
