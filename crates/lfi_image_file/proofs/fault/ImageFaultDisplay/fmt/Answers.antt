use Rattle.std.proofs.Common.{sym, subst, append_assoc}
use Rattle.std.specs.Fmt.{HasWritten}
use Rattle.lfi_image_file.specs.Faults.{fault_text}
use Rattle.lfi_image_file.proofs.fault.ImageFaultDisplay.fmt.Goals as goal

pub returns-in-Unlawful-clause-writes : goal.returns-in-Unlawful-clause-writes
returns-in-Unlawful-clause-writes g c = λ plain ok.
    subst (λ fault. HasWritten {W = g.row.W.Denot} g.W.Write.write_str_gives c.args.f.now (fault_text fault) c.write.new.self) (sym c.in-Unlawful.is) (simp append_assoc (c.write.ensures.writes plain ok))
