use Rattle.std.proofs.Common.{refl, ap, sym, subst}
use Rattle.lfi_model.specs.declared.outcome.Outcome.TheVariants as outcome_kind
use Rattle.lfi_model.specs.Outcomes.{by_end}
use Rattle.lfi_sequence.specs.declared.report.ImageState.TheVariants.{Part}
use Rattle.lfi_sequence.specs.Placed.{extent_at}
use Rattle.lfi_sequence.specs.Tells.{Tells}
use Rattle.lfi_sequence.proofs.Reporting.{told_by}
use Rattle.lfi_sequence.proofs.report.by_end.Goals as goal

pub returns-in-Lost : goal.returns-in-Lost
returns-in-Lost c = λ m items ended. subst (λ r. Tells m r items) (sym c.part.ensures)
    (told_by m c.args.builder c.args.ended items (outcome_kind.Lost c.in-Lost.fault) (Part c.args.builder) ended (sym (ap (λ r. by_end (extent_at items) items r) c.in-Lost.is)) (ended.builder, λ n e. absurd (cc)) refl)

pub returns-in-PageFault : goal.returns-in-PageFault
returns-in-PageFault c = λ m items ended. subst (λ r. Tells m r items) (sym c.part-in-PageFault.ensures)
    (told_by m c.args.builder c.args.ended items (outcome_kind.PageFault c.in-PageFault.index) (Part c.args.builder) ended (sym (ap (λ r. by_end (extent_at items) items r) c.in-PageFault.is)) (ended.builder, λ n e. absurd (cc)) refl)

pub returns-in-NoMemory : goal.returns-in-NoMemory
returns-in-NoMemory c = λ m items ended. subst (λ r. Tells m r items) (sym c.part-in-NoMemory.ensures)
    (told_by m c.args.builder c.args.ended items outcome_kind.NoMemory (Part c.args.builder) ended (sym (ap (λ r. by_end (extent_at items) items r) c.in-NoMemory.is)) (ended.builder, λ n e. absurd (cc)) refl)
