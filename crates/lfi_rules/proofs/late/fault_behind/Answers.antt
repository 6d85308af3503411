use Rattle.std.proofs.Common.{◌≡◌, ℕ, ◌+◌, ◌<◌, ◌≤◌, List, length, Some, None, sym, subst, arith, rules}
use Rattle.std.specs.Prelude.{slice_get}
use Rattle.lfi_rules.specs.declared.needs.Need.{Need}
use Rattle.lfi_rules.specs.Needs.{window}
use Rattle.lfi_rules.specs.Faults.{IsFirstInside}
use Rattle.lfi_rules.specs.inner.Least.{IsLeastBroken}
use Rattle.lfi_rules.proofs.Before.{stands_at}
use Rattle.lfi_rules.proofs.Behind.{begun, one_more_kept, fine_closed, fine_at_end, fine_over}
use Rattle.lfi_rules.proofs.Inside.{fault_here}
use Rattle.lfi_rules.proofs.late.fault_behind.Goals.{then-eq-via-then-eq, then-eq-via-else-eq+then-at-count}
use Rattle.lfi_rules.proofs.late.fault_behind.Goals as goal

pub loop-gone-init : goal.loop-gone-init
loop-gone-init g c = begun c.args.region.profile (g.W.Words.words c.args.region.words.now) c.args.region.first c.args.region.n c.args.i c.args.opened c.requires.opens c.requires.some

pub returns-then-eq-clause-none : goal.returns-then-eq-clause-none
returns-then-eq-clause-none g c =
    let ws : List ℕ = g.W.Words.words c.args.region.words.now in
    elim c.then-eq.branch [
      | then-eq-via-then-eq w ↦ fine_closed c.args.region.profile ws c.args.region.first c.args.region.n c.args.i c.loop-gone.gone c.args.opened c.loop-gone.need c.requires.opens c.loop-gone.invariant (search rules)
      | then-eq-via-else-eq+then-at-count w ↦ fine_at_end c.args.region.profile ws c.args.region.first c.args.region.n c.args.i c.loop-gone.gone c.args.opened c.loop-gone.need c.requires.opens c.loop-gone.invariant (omega arith)
    ]

pub returns-in-Some-clause-some : goal.returns-in-Some-clause-some
returns-in-Some-clause-some g c = λ fine.
    let p = c.args.region.profile in
    let ws : List ℕ = g.W.Words.words c.args.region.words.now in
    let first : ℕ = c.args.region.first in
    let n : ℕ = c.args.region.n in
    let j : ℕ = c.args.i + c.loop-gone.gone + 1 in
    let need : Need = c.loop-gone.need in
    let room : j < length ws = omega arith in
    let at : slice_get ws j ≡ Some c.word.result = stands_at ws _ j c.word.result c.word.ensures (omega arith) room in
    let place : first + (c.args.i + 1 + c.from.result) ≡ first + j = omega arith in
    subst (λ k. IsFirstInside p ws first n (Some (record { word = k; rule = c.in-Some.rule }))) (sym place)
    (fault_here p ws first n j c.word.result c.in-Some.rule need at (c.loop-gone.invariant.none fine) c.loop-gone.invariant.left
    (subst (λ k. IsLeastBroken p c.word.result need k n (Some c.in-Some.rule)) place
    (subst (λ x. IsLeastBroken p c.word.result need (first + (c.args.i + 1 + c.from.result)) n x) c.in-Some.is c.inspect-rule.ensures.rule)))

pub loop-gone-preserved : goal.loop-gone-preserved
loop-gone-preserved g c =
    let p = c.args.region.profile in
    let ws : List ℕ = g.W.Words.words c.args.region.words.now in
    let first : ℕ = c.args.region.first in
    let n : ℕ = c.args.region.n in
    let j : ℕ = c.args.i + c.loop-gone.gone + 1 in
    let need : Need = c.loop-gone.need in
    let room : j < length ws = omega arith in
    let at : slice_get ws j ≡ Some c.word.result = stands_at ws _ j c.word.result c.word.ensures (omega arith) room in
    let place : first + (c.args.i + 1 + c.from.result) ≡ first + j = omega arith in
    one_more_kept p ws first n c.args.i c.loop-gone.gone c.word.result need c.inspect-rule.result.1 c.loop-gone.invariant at
    (subst (λ k. IsLeastBroken p c.word.result need k n None) place
    (subst (λ x. IsLeastBroken p c.word.result need (first + (c.args.i + 1 + c.from.result)) n x) c.in_default.is c.inspect-rule.ensures.rule))
    c.inspect-rule.ensures.leaves

pub returns-clause-none : goal.returns-clause-none
returns-clause-none g c =
    let ws : List ℕ = g.W.Words.words c.args.region.words.now in
    let all : window c.args.region.profile ≤ c.loop-gone.gone = omega (arith, c.window-gone-end.ensures) in
    fine_over c.args.region.profile ws c.args.region.first c.args.region.n c.args.i c.loop-gone.gone c.args.opened c.loop-gone.need c.requires.opens c.loop-gone.invariant all
