use Rattle.std.proofs.Common.{rules, ◌≡◌, ◌≢◌, eqb, eqb-true, false, ℤ, pos, negsuc, true, [], ap, ◌∙◌, ◌++◌, sym, subst, arith, SFits, w32, inl, inr}
use Rattle.std.specs.Prelude.{◌||◌}
use Rattle.std.proofs.Math.Facts.{to_z-of_z}
use Rattle.std.proofs.lemmas.Bool.{cases_Bool, and_parts, eqb-false}
use Rattle.a64_word.specs.Operands.{IsSigned}
use Rattle.a64_word.specs.declared.instruction.Instruction.TheVariants.{SignedOffset}
use Rattle.a64_word.specs.declared.operands.IndexMode.TheVariants.{Unscaled, PreIndex, PostIndex}
use Rattle.lfi_mends.specs.Mends.{mended}
use Rattle.lfi_mends.specs.Outcomes.{DoesTheSame, DoesTheSameBounded, is_unscaled, moves_itself}
use Rattle.lfi_mends.specs.Registers.{is_free}
use Rattle.lfi_mends.specs.inner.Rows.{accessed, any_accessed, stack_changing}
use Rattle.lfi_mends.proofs.Summed.{signed_same}
use Rattle.lfi_mends.proofs.Beside.{no_offset}
use Rattle.lfi_mends.proofs.Bounded.{unscaled_bounded, unloaded}
use Rattle.lfi_mends.proofs.BoundedBases.{pre_bounded, post_bounded}
use Rattle.lfi_mends.proofs.StackBases.{pre_stack, post_stack}
use Rattle.lfi_mends.proofs.Changed.{pre_same, post_same, free_base}
use Rattle.lfi_mends.proofs.accesses.signed.Goals as goal

fits : (z : ℤ) → IsSigned 9 z → SFits w32 z
fits (pos n) h = record { sfits = omega (arith, h) }
fits (negsuc n) h = record { sfits = omega (arith, h) }

pub returns-in-Unscaled-clause-does : goal.returns-in-Unscaled-clause-does
returns-in-Unscaled-clause-does c = λ plain.
    let i = c.args.i.now in
    let d = c.distance_of-distance.result in
    let far = c.distance_of-distance.ensures in
    let is = mended c.plain.result in
    let near = far.near in
    let free = (and_parts (moves_itself i.transfer i.rt) (is_unscaled i.mode || is_free i.rn) plain).0 in
    subst (λ mode. DoesTheSame [] is (SignedOffset (record { size = i.size; transfer = i.transfer; mode = mode; imm9 = i.imm9; rn = i.rn; rt = i.rt }))) (sym c.in-Unscaled.is)
    (signed_same i.size i.transfer i.imm9 i.rn i.rt d.below d.bytes is (far.is ∙ to_z-of_z {w = w32} (fits i.imm9 c.requires.legal.1)) (omega (arith, near)) far.some (no_offset i.transfer i.rt free)
    (c.plain.ensures.items free ∙ ap (λ l. l ++ accessed i.size i.transfer i.rt i.rn d.below d.bytes) c.new.ensures.items))

pub returns-in-PreIndex-clause-does : goal.returns-in-PreIndex-clause-does
returns-in-PreIndex-clause-does c = λ plain.
    let i = c.args.i.now in
    let d = c.distance_of-distance.result in
    let far = c.distance_of-distance.ensures in
    let is = mended c.changing.result in
    let near = far.near in
    let tests = and_parts (moves_itself i.transfer i.rt) (is_unscaled i.mode || is_free i.rn) plain in
    let free = tests.0 in
    let free_rn : is_free i.rn ≡ true = subst (λ mode. (is_unscaled mode || is_free i.rn) ≡ true) c.in-PreIndex.is tests.1 in
    let changes : i.mode ≢ Unscaled = λ e. let same : PreIndex ≡ Unscaled = sym c.in-PreIndex.is ∙ e in cc in
    let base = free_base i.rn i.rt free_rn (c.requires.legal.2 changes) in
    subst (λ mode. DoesTheSame [] is (SignedOffset (record { size = i.size; transfer = i.transfer; mode = mode; imm9 = i.imm9; rn = i.rn; rt = i.rt }))) (sym c.in-PreIndex.is)
    (pre_same i.size i.transfer i.imm9 i.rn i.rt d.below d.bytes is (far.is ∙ to_z-of_z {w = w32} (fits i.imm9 c.requires.legal.1)) near far.some
    base.stack base.base (search rules) base.apart (c.changing.ensures.items free free_rn))

pub returns-in-PostIndex-clause-does : goal.returns-in-PostIndex-clause-does
returns-in-PostIndex-clause-does c = λ plain.
    let i = c.args.i.now in
    let d = c.distance_of-distance.result in
    let far = c.distance_of-distance.ensures in
    let is = mended c.changing-in-PostIndex.result in
    let near = far.near in
    let tests = and_parts (moves_itself i.transfer i.rt) (is_unscaled i.mode || is_free i.rn) plain in
    let free = tests.0 in
    let free_rn : is_free i.rn ≡ true = subst (λ mode. (is_unscaled mode || is_free i.rn) ≡ true) c.in-PostIndex.is tests.1 in
    let changes : i.mode ≢ Unscaled = λ e. let same : PostIndex ≡ Unscaled = sym c.in-PostIndex.is ∙ e in cc in
    let base = free_base i.rn i.rt free_rn (c.requires.legal.2 changes) in
    subst (λ mode. DoesTheSame [] is (SignedOffset (record { size = i.size; transfer = i.transfer; mode = mode; imm9 = i.imm9; rn = i.rn; rt = i.rt }))) (sym c.in-PostIndex.is)
    (post_same i.size i.transfer i.imm9 i.rn i.rt d.below d.bytes is (far.is ∙ to_z-of_z {w = w32} (fits i.imm9 c.requires.legal.1)) near far.some
    base.stack (search rules) base.apart (c.changing-in-PostIndex.ensures.items free free_rn))

pub returns-in-Unscaled-clause-bounded : goal.returns-in-Unscaled-clause-bounded
returns-in-Unscaled-clause-bounded c =
    let i = c.args.i.now in
    let d = c.distance_of-distance.result in
    let far = c.distance_of-distance.ensures in
    let is = mended c.plain.result in
    let near = far.near in
    subst (λ mode. DoesTheSameBounded [] is (SignedOffset (record { size = i.size; transfer = i.transfer; mode = mode; imm9 = i.imm9; rn = i.rn; rt = i.rt }))) (sym c.in-Unscaled.is)
    (unscaled_bounded i.size i.transfer i.imm9 i.rn i.rt d.below d.bytes is (far.is ∙ to_z-of_z {w = w32} (fits i.imm9 c.requires.legal.1)) (omega (arith, near)) far.some
    (unloaded i.transfer i.rt (sym c.loads_base.ensures ∙ c.if-loads_base.false))
    (c.plain.ensures.all ∙ ap (λ l. l ++ any_accessed i.size i.transfer i.rt i.rn d.below d.bytes) c.new.ensures.items))

pub returns-in-PreIndex-clause-bounded : goal.returns-in-PreIndex-clause-bounded
returns-in-PreIndex-clause-bounded c =
    let i = c.args.i.now in
    let d = c.distance_of-distance.result in
    let far = c.distance_of-distance.ensures in
    let is = mended c.changing.result in
    let near = far.near in
    let changes : i.mode ≢ Unscaled = λ e. let same : PreIndex ≡ Unscaled = sym c.in-PreIndex.is ∙ e in cc in
    let base : eqb i.rn 21 ≡ false = search rules in
    let loads = unloaded i.transfer i.rt (sym c.loads_base.ensures ∙ c.if-loads_base.false) in
    let as_meant = far.is ∙ to_z-of_z {w = w32} (fits i.imm9 c.requires.legal.1) in
    subst (λ mode. DoesTheSameBounded [] is (SignedOffset (record { size = i.size; transfer = i.transfer; mode = mode; imm9 = i.imm9; rn = i.rn; rt = i.rt }))) (sym c.in-PreIndex.is)
    (elim (cases_Bool (eqb i.rn 31)) [
      | inl stack ↦
          let sp : i.rn ≡ 31 = eqb-true i.rn 31 stack in
          subst (λ k. DoesTheSameBounded [] is (SignedOffset (record { size = i.size; transfer = i.transfer; mode = PreIndex; imm9 = i.imm9; rn = k; rt = i.rt }))) (sym sp)
          (pre_stack i.size i.transfer i.imm9 i.rt d.below d.bytes is as_meant near far.some loads
          (subst (λ k. is ≡ stack_changing true i.size i.transfer i.rt k d.below d.bytes) sp (c.changing.ensures.stack sp)))
      | inr stack ↦
          let apart : i.rn ≢ i.rt = λ e. eqb-false i.rn 31 stack (c.requires.legal.2 changes e) in
          pre_bounded i.size i.transfer i.imm9 i.rn i.rt d.below d.bytes is as_meant near far.some stack base (search rules) apart loads (c.changing.ensures.all stack)
    ])

pub returns-in-PostIndex-clause-bounded : goal.returns-in-PostIndex-clause-bounded
returns-in-PostIndex-clause-bounded c =
    let i = c.args.i.now in
    let d = c.distance_of-distance.result in
    let far = c.distance_of-distance.ensures in
    let is = mended c.changing-in-PostIndex.result in
    let near = far.near in
    let changes : i.mode ≢ Unscaled = λ e. let same : PostIndex ≡ Unscaled = sym c.in-PostIndex.is ∙ e in cc in
    let base : eqb i.rn 21 ≡ false = search rules in
    let loads = unloaded i.transfer i.rt (sym c.loads_base.ensures ∙ c.if-loads_base.false) in
    let as_meant = far.is ∙ to_z-of_z {w = w32} (fits i.imm9 c.requires.legal.1) in
    subst (λ mode. DoesTheSameBounded [] is (SignedOffset (record { size = i.size; transfer = i.transfer; mode = mode; imm9 = i.imm9; rn = i.rn; rt = i.rt }))) (sym c.in-PostIndex.is)
    (elim (cases_Bool (eqb i.rn 31)) [
      | inl stack ↦
          let sp : i.rn ≡ 31 = eqb-true i.rn 31 stack in
          subst (λ k. DoesTheSameBounded [] is (SignedOffset (record { size = i.size; transfer = i.transfer; mode = PostIndex; imm9 = i.imm9; rn = k; rt = i.rt }))) (sym sp)
          (post_stack i.size i.transfer i.imm9 i.rt d.below d.bytes is as_meant near far.some loads
          (subst (λ k. is ≡ stack_changing false i.size i.transfer i.rt k d.below d.bytes) sp (c.changing-in-PostIndex.ensures.stack sp)))
      | inr stack ↦
          let apart : i.rn ≢ i.rt = λ e. eqb-false i.rn 31 stack (c.requires.legal.2 changes e) in
          post_bounded i.size i.transfer i.imm9 i.rn i.rt d.below d.bytes is as_meant near far.some stack base (search rules) apart loads (c.changing-in-PostIndex.ensures.all stack)
    ])
