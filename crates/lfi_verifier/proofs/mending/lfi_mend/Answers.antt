use Rattle.std.proofs.Common.{◌≡◌, sym, subst}
use Rattle.lfi_rules.specs.declared.needs.Need.TheVariants.{Nothing}
use Rattle.lfi_mends.specs.Mends.{mended}
use Rattle.lfi_verifier.specs.Mended.{AreSpelled, Spell}
use Rattle.lfi_verifier.proofs.SpelledMends.{spell_mend}
use Rattle.lfi_verifier.proofs.Spelled.{leads_spelled}
use Rattle.lfi_verifier.proofs.mending.lfi_mend.Goals as goal

pub words_of-requires-clause-spelled : goal.words_of-requires-clause-spelled
words_of-requires-clause-spelled c =
    subst (λ is. AreSpelled c.in-Some.by is) (sym c.instructions.ensures) (leads_spelled c.in-Some.by _ Nothing (mended c.in-Ok.it) c.in-Ok.ensures.mends.leads)

pub returns-in-Ok-clause-told : goal.returns-in-Ok-clause-told
returns-in-Ok-clause-told c = λ by found is_by is_fault lawful.
    let known = c.profile_of.ensures.only by is_by in
    let fault = is_fault.found in
    let same_profile : c.in-Some.by ≡ by = cc in
    let same_fault : c.in-Some-Some.found ≡ found = cc in
    let put = c.put.ensures.put lawful in (
      c.as_slice.result.now,
      spell_mend c.in-Some.by by c.in-Some-Some.found found c.in-Some-code_with.come c.args.code.now c.in-Ok.it c.instructions.result.now c.as_slice.result.now
          same_profile same_fault c.in-Some-code_with.ensures.some.1 c.in-Ok.ensures c.instructions.ensures (subst (λ ws. Spell c.in-Some.by c.instructions.result.now ws) (sym c.as_slice.ensures.value) c.words_of.ensures),
      put.0,
      put.1,
    )

pub returns-in-Ok-clause-short : goal.returns-in-Ok-clause-short
returns-in-Ok-clause-short c = λ by found is_by is_fault unlawful unrefused.
    let known = c.profile_of.ensures.only by is_by in
    let fault = is_fault.found in
    let same_profile : c.in-Some.by ≡ by = cc in
    let same_fault : c.in-Some-Some.found ≡ found = cc in
    let no_room = c.put.ensures.other unlawful in (
      no_room,
      (
        c.as_slice.result.now,
        spell_mend c.in-Some.by by c.in-Some-Some.found found c.in-Some-code_with.come c.args.code.now c.in-Ok.it c.instructions.result.now c.as_slice.result.now
            same_profile same_fault c.in-Some-code_with.ensures.some.1 c.in-Ok.ensures c.instructions.ensures (subst (λ ws. Spell c.in-Some.by c.instructions.result.now ws) (sym c.as_slice.ensures.value) c.words_of.ensures),
        c.put.ensures.short no_room,
      ),
    )
