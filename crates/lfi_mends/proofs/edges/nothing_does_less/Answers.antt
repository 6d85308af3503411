use Rattle.std.proofs.Common.{◌≡◌, refl, lit≤, arith}
use Rattle.a64_word.specs.declared.operands.Transfer.TheVariants.{Load, Store}
use Rattle.lfi_mends.specs.Edges.{at_the_base}
use Rattle.lfi_mends.proofs.AtTheBase.{whole, lies, loads_0, loads_18, loads_22, loads_23, loads_24, loads_30}
use Rattle.lfi_mends.proofs.edges.nothing_does_less.Goals as goal

pub returns-clause-load : goal.returns-clause-load
returns-clause-load c = λ same. let e : 4294967296 ≡ 506381209866536711 = (same at_the_base whole (lies Load 0)).general 0 (lit≤ tt) refl in omega (arith, e)

pub returns-clause-store : goal.returns-clause-store
returns-clause-store c = λ same. let e : 7 ≡ 0 = (same at_the_base whole (lies Store 0)).memory 4294967296 in omega (arith, e)

pub returns-clause-bounded_store : goal.returns-clause-bounded_store
returns-clause-bounded_store c = λ same. let e : 7 ≡ 0 = (same at_the_base whole (lies Store 22)).memory 4294967296 in omega (arith, e)

pub returns-clause-bounded_load : goal.returns-clause-bounded_load
returns-clause-bounded_load c = λ same. let e : 4294967296 ≡ 506381209866536711 = (same at_the_base whole (lies Load 0)).written 0 (lit≤ tt) loads_0 in omega (arith, e)

pub returns-clause-first_address : goal.returns-clause-first_address
returns-clause-first_address c = λ same. let e : 4294967296 ≡ 4412868359 = (same at_the_base whole (lies Load 18)).written 18 (lit≤ tt) loads_18 in omega (arith, e)

pub returns-clause-offset : goal.returns-clause-offset
returns-clause-offset c = λ same. let e : 4294967296 ≡ 117901063 = (same at_the_base whole (lies Load 22)).written 22 (lit≤ tt) loads_22 in omega (arith, e)

pub returns-clause-second_address : goal.returns-clause-second_address
returns-clause-second_address c = λ same. let e : 4294967296 ≡ 4412868359 = (same at_the_base whole (lies Load 23)).written 23 (lit≤ tt) loads_23 in omega (arith, e)

pub returns-clause-third_address : goal.returns-clause-third_address
returns-clause-third_address c = λ same. let e : 4294967296 ≡ 4412868359 = (same at_the_base whole (lies Load 24)).written 24 (lit≤ tt) loads_24 in omega (arith, e)

pub returns-clause-link : goal.returns-clause-link
returns-clause-link c = λ same. let e : 4294967296 ≡ 4412868359 = (same at_the_base whole (lies Load 30)).written 30 (lit≤ tt) loads_30 in omega (arith, e)
