use Rattle.std.proofs.Common.{◌≡◌, ◌∙◌, refl, ℕ, List, ◌++◌, ap, subst}
use Rattle.std.specs.Prelude.{codes}
use Rattle.std.specs.Fmt.{HasWritten, digits, decimal}
use Rattle.lfi_confinement.specs.declared.cause.StopCause.{StopCause}
use Rattle.lfi_machine.specs.Halting.{halt_number}
use Rattle.lfi_machine.specs.declared.halt.Halt.{Halt}
use Rattle.lfi_machine.specs.declared.halt.Halt.TheVariants as halts
use Rattle.lfi_run_image.specs.Texts.{halt_text}
use Rattle.lfi_run_image.proofs.image_run.HaltTextDisplay.fmt.Goals as goal

other_text : (halt : Halt) → ((cause : StopCause) → halt ≡ halts.Stopped cause → ⊥) → codes "halt " ++ decimal (halt_number halt) ≡ halt_text halt
unfolding digits
other_text halts.StepsUsed other = refl
other_text (halts.Stopped cause) other = absurd (other cause refl)
other_text halts.NoMemory other = refl

pub returns-in_default-clause-writes : goal.returns-in_default-clause-writes
returns-in_default-clause-writes g c = λ plain ok.
    subst (λ (text : List ℕ). HasWritten {W = g.row.W.Denot} g.W.Write.write_str_gives c.args.f.now text c.write-in_default.new.self)
    (ap (λ n. codes "halt " ++ decimal n) c.number.ensures ∙ other_text c.args.self.now.0 c.in_default.not-Stopped)
    (c.write-in_default.ensures.writes plain ok)
