-- The words of a mend, of the profile and the fault that numbers told.
use Rattle.std.proofs.Common.{◌≡◌, ℕ, List, Ok, subst}
use Rattle.a64_word.specs.declared.instruction.Instruction.{Instruction}
use Rattle.a64_word.specs.Words.{words_of}
use Rattle.lfi_module.specs.declared.profile.Profile.{Profile}
use Rattle.lfi_rules.specs.declared.fault.Fault.{Fault}
use Rattle.lfi_mends.specs.declared.mend.Mend.{Mend}
use Rattle.lfi_mends.specs.Mends.{mended}
use Rattle.lfi_explain.specs.Mendings.{MendsNear}
use Rattle.lfi_verifier.specs.Mended.{Spell, SpellMend}

pub spell_mend : (p by : Profile) (f found : Fault) (come code : List ℕ) (mend : Mend) (is : List Instruction) (spelling : List ℕ) → p ≡ by → f ≡ found → come ≡ code
    → MendsNear p f.rule (words_of come) f.word (Ok mend) → is ≡ mended mend → Spell p is spelling → SpellMend by code found spelling
spell_mend p by f found come code mend is spelling same_profile same_fault same_code mends same spells =
    subst (λ q. SpellMend q code found spelling) same_profile
    (subst (λ g. SpellMend p code g spelling) same_fault
    (record {
      mend = mend;
      mends = subst (λ bytes. MendsNear p f.rule (words_of bytes) f.word (Ok mend)) same_code mends;
      spells = subst (λ l. Spell p l spelling) same spells;
    }))
