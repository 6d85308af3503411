use Rattle.std.proofs.Common.{rules, ◌≡◌, ◌++◌, arith, length, subst}
use Rattle.std.specs.Prelude.{flat_map}
use Rattle.std.specs.Io.KnownBytes.{Appends}
use Rattle.std.proofs.lemmas.List.{length-append}
use Rattle.lfi_explain.specs.Explanations.{AreTold, explanation_line, mended_text, one_or_none, refused_text}
use Rattle.lfi_explain.proofs.Lines.{all_written, kept_more, text_kept, told_more, told_count, one_at_most, mended_more, mended_count}
use Rattle.lfi_explain.proofs.refusals.write_refusals.Goals as goal

pub overflow_add-refused : goal.overflow_add-refused
overflow_add-refused g c =
    let ws = g.L.Words.words c.args.words.now in
    let done = c.loop-place.invariant in
    let count = told_count c.args.profile ws c.args.slot c.loop-place.place done.0 done.1 in
    let one = one_at_most c.explained_at-told.result in
    omega (arith, count, one, done.2, c.counts_of-here.ensures.refused, c.loop-place-test.true, c.count-place-end.ensures, c.requires)

pub overflow_add-mended : goal.overflow_add-mended
overflow_add-mended g c =
    let ws = g.L.Words.words c.args.words.now in
    let done = c.loop-place.invariant in
    let count = told_count c.args.profile ws c.args.slot c.loop-place.place done.0 done.1 in
    let fewer = mended_count done.0 in
    let here = mended_count (one_or_none c.explained_at-told.result) in
    let one = one_at_most c.explained_at-told.result in
    omega (arith, count, fewer, here, one, done.3, c.counts_of-here.ensures.mended, c.loop-place-test.true, c.count-place-end.ensures, c.requires)

pub loop-place-preserved : goal.loop-place-preserved
loop-place-preserved g c =
    let ws = g.L.Words.words c.args.words.now in
    let done = c.loop-place.invariant in
    let here = c.explained_at-told.result in
    let longer = length-append done.0 (one_or_none here) in
    let mended = mended_more done.0 (one_or_none here) in (
      done.0 ++ one_or_none here,
      told_more c.args.profile ws c.args.slot c.loop-place.place done.0 here done.1 c.explained_at-told.ensures,
      omega (arith, longer, done.2, c.counts_of-here.ensures.refused),
      omega (arith, mended, done.3, c.counts_of-here.ensures.mended),
      kept_more explanation_line (g.W.Write.contents c.args.out.now) (g.W.Write.contents c.loop-place.out) (g.W.Write.contents c.write_many.new.out) c.loop-place.kept.items
          c.write_told.new.out.items c.write_many.new.kept.items done.0 (one_or_none here) done.4 c.in_ok-write_told.ensures c.in_ok-write_many.ensures,
    )

pub returns : goal.returns
returns g c =
    let ws = g.L.Words.words c.args.words.now in
    let done = c.loop-place.invariant in
    let same : c.loop-place.place ≡ length ws = search rules in
    let old = g.W.Write.contents c.args.out.now in
    let half = g.W.Write.contents c.loop-place.out in
    let new = g.W.Write.contents c.write_kept.new.out in
    let lines = flat_map explanation_line done.0 in
    let refused = refused_text c.loop-place.refused in
    let mended = mended_text c.loop-place.mended in
    let first = text_kept old half c.loop-place.kept.items c.write_refused_count.new.out.items lines refused done.4 c.in_ok-write_refused_count.ensures in
    let second = text_kept old half c.write_refused_count.new.out.items c.write_mended_count.new.out.items (lines ++ refused) mended first c.in_ok-write_mended_count.ensures in
    let all = all_written old half new c.write_mended_count.new.out.items c.write_kept.new.kept.items (lines ++ refused ++ mended) second
    c.in_ok-write_kept.ensures.moved c.in_ok-write_kept.ensures.none in (
      done.0,
      subst (λ k. AreTold c.args.profile ws c.args.slot k done.0) same done.1,
      done.2,
      subst (λ count. Appends old new (lines ++ refused ++ mended_text count)) done.3 all,
    )
