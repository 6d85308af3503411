use Rattle.std.proofs.Common.{rules, ◌≡◌, ◌++◌, arith, length, subst}
use Rattle.std.proofs.lemmas.List.{length-append}
use Rattle.a64_word.specs.Words.{words_of}
use Rattle.lfi_explain.specs.Explanations.{AreTold, one_or_none}
use Rattle.lfi_explain.proofs.Lines.{told_more, told_count, one_at_most, mended_more, mended_count}
use Rattle.lfi_file_commands.specs.Json.{refused_item}
use Rattle.lfi_file_commands.proofs.Pushed.{one_more}
use Rattle.lfi_file_commands.proofs.members.push_each_refused.Goals as goal

pub overflow_add-refused : goal.overflow_add-refused
overflow_add-refused c =
    let ws = words_of c.args.code.now in
    let done = c.loop-place.invariant in
    let count = told_count c.args.profile ws 0 c.loop-place.place done.0 done.1 in
    let one = one_at_most c.explained_at-told.result in
    omega (arith, count, one, done.2, c.counts_of-here.ensures.refused, c.loop-place-test.true, c.count-place-end.ensures, c.requires)

pub overflow_add-mended : goal.overflow_add-mended
overflow_add-mended c =
    let ws = words_of c.args.code.now in
    let done = c.loop-place.invariant in
    let count = told_count c.args.profile ws 0 c.loop-place.place done.0 done.1 in
    let fewer = mended_count done.0 in
    let here = mended_count (one_or_none c.explained_at-told.result) in
    let one = one_at_most c.explained_at-told.result in
    omega (arith, count, fewer, here, one, done.3, c.counts_of-here.ensures.mended, c.loop-place-test.true, c.count-place-end.ensures, c.requires)

pub loop-place-preserved : goal.loop-place-preserved
loop-place-preserved c =
    let ws = words_of c.args.code.now in
    let done = c.loop-place.invariant in
    let here = c.explained_at-told.result in
    let longer = length-append done.0 (one_or_none here) in
    let mended = mended_more done.0 (one_or_none here) in (
      done.0 ++ one_or_none here,
      told_more c.args.profile ws 0 c.loop-place.place done.0 here done.1 c.explained_at-told.ensures,
      omega (arith, longer, done.2, c.counts_of-here.ensures.refused),
      omega (arith, mended, done.3, c.counts_of-here.ensures.mended),
      one_more refused_item _ _ _ c.loop-place.refused done.0 (one_or_none here) done.2 done.4 c.in_ok-push_told.ensures,
    )

pub returns : goal.returns
returns c =
    let ws = words_of c.args.code.now in
    let done = c.loop-place.invariant in
    let same : c.loop-place.place ≡ length ws = search rules in
    (done.0, subst (λ k. AreTold c.args.profile ws 0 k done.0) same done.1, done.2, done.3, done.4)
