use Rattle.std.proofs.Common.{◌++◌, ◌∷◌, [], ◌+◌, take, sym, subst, arith}
use Rattle.std.proofs.lemmas.List.{take_more}
use Rattle.a64_word.specs.Profiles.{SpellsIn}
use Rattle.lfi_verifier.specs.Mended.{Spell}
use Rattle.lfi_verifier.proofs.Spelled.{spell_more, spelled_at}
use Rattle.lfi_verifier.proofs.mending.words_of.Goals as goal

pub push-requires : goal.push-requires
push-requires c = omega (arith, c.loop-instruction.invariant.0, c.loop-instruction-test.true, c.requires.few)

pub unreachable-requires : goal.unreachable-requires
unreachable-requires c =
    let i = c.instruction-item.result in
    let found = spelled_at c.args.profile c.args.instructions.now c.loop-instruction.instruction-index i c.requires.spelled (omega arith) in
    absurd (c.in-None.ensures found.0 (subst (λ j. SpellsIn c.args.profile j found.0) (sym c.instruction-item.is) found.1))

pub loop-instruction-preserved : goal.loop-instruction-preserved
loop-instruction-preserved c =
    let k = c.loop-instruction.instruction-index in
    let is = c.args.instructions.now in
    let i = c.instruction-item.result in
    let more = take_more is k i (omega arith) in
    let spells = subst (λ j. SpellsIn c.args.profile j c.in-Some.word) c.instruction-item.is c.in-Some.ensures in
    let spell = spell_more c.args.profile (take k is) c.loop-instruction.words.items _ c.in-Some.word c.loop-instruction.invariant.1 spells in (
      omega (arith, c.push.ensures.len, c.loop-instruction.invariant.0),
      subst (λ words. Spell c.args.profile (take (k + 1) is) words) (sym c.push.ensures.items) (subst (λ js. Spell c.args.profile js (c.loop-instruction.words.items ++ c.in-Some.word ∷ [])) (sym more) spell),
    )
