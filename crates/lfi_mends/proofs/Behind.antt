-- A mend behind what meets a need.
use Rattle.std.proofs.Common.{◌≡◌, List, ◌++◌, [], sym, subst}
use Rattle.a64_word.specs.declared.instruction.Instruction.{Instruction}
use Rattle.a64_semantics.specs.Registers.{x_at}
use Rattle.lfi_mends.specs.Outcomes.{Agree, AgreeBounded, DoesTheSame, DoesTheSameBounded, after, after_all}
use Rattle.lfi_mends.proofs.Summed.{after_more}

pub same_behind : (before is all : List Instruction) (i : Instruction) → all ≡ before ++ is → DoesTheSame [] is i → DoesTheSame before all i
same_behind before is all i e h s whole lies =
    subst (λ l. Agree (after_all l s) (after i (after_all before s))) (sym e)
    (subst (λ t. Agree t (after i (after_all before s))) (sym (after_more before is s)) (h (after_all before s) whole lies))

pub bounded_behind : (before is all : List Instruction) (i : Instruction) → all ≡ before ++ is → DoesTheSameBounded [] is i → DoesTheSameBounded before all i
bounded_behind before is all i e h s whole lies =
    subst (λ l. AgreeBounded i (x_at (after_all before s).registers 21) (after_all l s) (after i (after_all before s))) (sym e)
    (subst (λ t. AgreeBounded i (x_at (after_all before s).registers 21) t (after i (after_all before s))) (sym (after_more before is s)) (h (after_all before s) whole lies))
