use Rattle.std.proofs.Common.{◌∙◌, ap, sym, append_assoc, ◌++◌, Some, codes, decimal}
use Rattle.std.specs.Prelude.{Option}
use Rattle.std.proofs.Output.{has_written_of_eq}
use Rattle.lfi_frame.specs.Faults.{fault_text, number_of}
use Rattle.lfi_frame.specs.declared.fault.FrameFault.{FrameFault}
use Rattle.lfi_commands.specs.Objects.{file_member, read_member, stream_members}
use Rattle.lfi_commands.proofs.members.StreamMembersDisplay.fmt.Goals as goal

pub returns-in-Some-clause-writes : goal.returns-in-Some-clause-writes
returns-in-Some-clause-writes g c = λ plain ok.
    let start = c.args.self.now.start in
    let kind = c.args.self.now.kind in
    let fault = c.in-Some.fault in
    has_written_of_eq _ _ _ _ _
    ((simp append_assoc)
    ∙ ap (λ n. codes ",\"fault\":" ++ decimal n ++ codes ",\"reason\":\"" ++ fault_text fault ++ codes "\",\"byte\":" ++ decimal start.byte ++ file_member c.first_kind.result ++ read_member fault kind) c.number-number.ensures
    ∙ ap (λ first. codes ",\"fault\":" ++ decimal (number_of fault) ++ codes ",\"reason\":\"" ++ fault_text fault ++ codes "\",\"byte\":" ++ decimal start.byte ++ file_member first ++ read_member fault kind) c.first_kind.ensures
    ∙ sym (ap (λ (fault : Option FrameFault). stream_members fault (Some start) kind) c.in-Some.is))
    (c.write.ensures.writes plain ok)
