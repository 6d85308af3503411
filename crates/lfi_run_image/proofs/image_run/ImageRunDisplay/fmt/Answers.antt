use Rattle.std.proofs.Common.{sym, subst, append_assoc}
use Rattle.std.specs.Fmt.{HasWritten}
use Rattle.lfi_run_image.specs.declared.image_run.ImageRun.{ImageRun}
use Rattle.lfi_run_image.specs.Texts.{run_text}
use Rattle.lfi_run_image.proofs.image_run.ImageRunDisplay.fmt.Goals as goal

pub returns-in-Ended-clause-writes : goal.returns-in-Ended-clause-writes
returns-in-Ended-clause-writes g c = λ plain ok.
    subst (λ (run : ImageRun). HasWritten {W = g.row.W.Denot} g.W.Write.write_str_gives c.args.f.now (run_text run) c.write-in-Ended.new.self)
    (sym c.in-Ended.is) (simp append_assoc (c.write-in-Ended.ensures.writes plain ok))
