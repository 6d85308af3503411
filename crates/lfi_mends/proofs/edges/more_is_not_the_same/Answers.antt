use Rattle.std.proofs.Common.{◌≡◌, refl, lit≤, arith}
use Rattle.a64_word.specs.declared.operands.Transfer.TheVariants.{Load}
use Rattle.lfi_mends.specs.Edges.{at_the_base}
use Rattle.lfi_mends.proofs.AtTheBase.{whole, lies, keeps_15, keeps_30}
use Rattle.lfi_mends.proofs.edges.more_is_not_the_same.Goals as goal

pub returns-clause-scratch : goal.returns-clause-scratch
returns-clause-scratch c = λ same. let e : 4294967297 ≡ 4294967296 = (same at_the_base whole (lies Load 0)).general 16 (lit≤ tt) refl in omega (arith, e)

pub returns-clause-link : goal.returns-clause-link
returns-clause-link c = λ same. let e : 4294967297 ≡ 4294967296 = (same at_the_base whole (lies Load 0)).general 30 (lit≤ tt) refl in omega (arith, e)

pub returns-clause-stack : goal.returns-clause-stack
returns-clause-stack c = λ same. let e : 4294967297 ≡ 4294967296 = (same at_the_base whole (lies Load 0)).stack in omega (arith, e)

pub returns-clause-flags : goal.returns-clause-flags
returns-clause-flags c = λ same. let e : 2 ≡ 0 = (same at_the_base whole (lies Load 0)).flags in omega (arith, e)

pub returns-clause-memory : goal.returns-clause-memory
returns-clause-memory c = λ same. let e : 0 ≡ 7 = (same at_the_base whole (lies Load 0)).memory 4294967296 in omega (arith, e)

pub returns-clause-bounded_free : goal.returns-clause-bounded_free
returns-clause-bounded_free c = λ same. let e : 4294967297 ≡ 4294967296 = (same at_the_base whole (lies Load 0)).general 15 (lit≤ tt) keeps_15 refl in omega (arith, e)

pub returns-clause-bounded_link : goal.returns-clause-bounded_link
returns-clause-bounded_link c = λ same. let e : 4294967297 ≡ 4294967296 = (same at_the_base whole (lies Load 0)).general 30 (lit≤ tt) keeps_30 refl in omega (arith, e)

pub returns-clause-bounded_stack : goal.returns-clause-bounded_stack
returns-clause-bounded_stack c = λ same. let e : 4294967297 ≡ 4294967296 = (same at_the_base whole (lies Load 0)).stack in omega (arith, e)

pub returns-clause-bounded_flags : goal.returns-clause-bounded_flags
returns-clause-bounded_flags c = λ same. let e : 2 ≡ 0 = (same at_the_base whole (lies Load 0)).flags in omega (arith, e)
