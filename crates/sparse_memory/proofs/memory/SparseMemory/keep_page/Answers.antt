use Rattle.std.proofs.Common.{rules, ◌≡◌, ℕ, ◌+◌, ◌*◌, ◌/◌, ◌<◌, List, length, sym, subst, ap, ◌∙◌, arith, inl, inr, lit≤}
use Rattle.std.specs.Prelude.{slice_index, slice_index_or}
use mathlib.Core.Logic.{dite}
use native.Mathlib.Decide.{ℕ_discrete}
use Rattle.std.proofs.lemmas.List.{get_or-set_other}
use Rattle.sparse_memory.specs.Kept.{IsKept, some_in}
use Rattle.sparse_memory.proofs.Counted.{some_below, some_more}
use Rattle.sparse_memory.proofs.memory.SparseMemory.keep_page.Goals as goal

pub add_frame-requires : goal.add_frame-requires
add_frame-requires c =
    let table : List ℕ = c.self.inside.table.items in
    let page : ℕ = c.args.offset / 65536 in
    let fits : c.args.offset < 4294967296 = search rules in
    let whole : length table ≡ 65536 = c.self.invariant.whole in
    let inside : page < length table = omega (arith, whole, fits) in
    let none : slice_index table page ≡ 0 = sym (subst (λ x. x ≡ slice_index_or table page x) c.if-index-eq0.true c.index.ensures) in
    let less = some_below table page inside none in
    let counted : length c.self.inside.frames.items ≡ some_in table * 65536 = c.self.invariant.counted in
    record { room = omega (arith, less, whole, counted) }

pub invariant_of-self-then-index-eq0 : goal.invariant_of-self-then-index-eq0
invariant_of-self-then-index-eq0 c =
    let table : List ℕ = c.self.inside.table.items in
    let page : ℕ = c.args.offset / 65536 in
    let fits : c.args.offset < 4294967296 = search rules in
    let whole : length table ≡ 65536 = c.self.invariant.whole in
    let inside : page < length table = omega (arith, whole, fits) in
    let none : slice_index table page ≡ 0 = sym (subst (λ x. x ≡ slice_index_or table page x) c.if-index-eq0.true c.index.ensures) in
    let counted : length c.self.inside.frames.items ≡ some_in table * 65536 = c.self.invariant.counted in
    let longer : length c.add_frame.new.frames.items ≡ length c.self.inside.frames.items + 65536 = c.in_ok-self-inside.ensures.length in
    let frame : c.in_ok-self-inside.field-0 ≡ length c.self.inside.frames.items / 65536 + 1 = c.in_ok-self-inside.ensures.frame in
    let some : 0 < c.in_ok-self-inside.field-0 = omega (arith, frame) in
    let more = some_more table page c.in_ok-self-inside.field-0 inside none some in
    record {
      whole = search rules;
      frames = search rules;
      counted = omega (arith, more, counted, longer);
      within = search rules;
      apart = search rules;
    }

pub returns-in_ok-self-inside-clause-only : goal.returns-in_ok-self-inside-clause-only
returns-in_ok-self-inside-clause-only c = λ other kept.
    let page : ℕ = c.args.offset / 65536 in
    dite (ℕ_discrete (other / 65536) page)
    (λ same. inr (0, lit≤ tt, same ∙ ap (λ o. o / 65536) (omega arith)))
    (λ apart. inl (subst (λ v. IsKept v other) c.self.view_is
    (subst (λ v. 0 < v) (get_or-set_other c.self.inside.table.items page (other / 65536) c.in_ok-self-inside.field-0 0 apart) kept)))
