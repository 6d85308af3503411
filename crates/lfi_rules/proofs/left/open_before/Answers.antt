use Rattle.std.proofs.Common.{◌≡◌, ◌<◌, ◌-◌, length, Some, sym, subst, arith}
use Rattle.std.specs.List.{slice_get}
use Rattle.lfi_rules.specs.Faults.{IsOpenAt}
use Rattle.lfi_rules.proofs.Before.{all_gone, at_first, at_loud, no_calm, one_more_calm, stands_at}
use Rattle.lfi_rules.proofs.left.open_before.Goals as goal

pub loop-gone-init : goal.loop-gone-init
loop-gone-init g c = record { within = omega arith; calm = no_calm c.args.profile (g.W.Words.words c.args.words.now) c.args.place }

pub returns-then-from-place : goal.returns-then-from-place
returns-then-from-place g c = at_first c.args.profile (g.W.Words.words c.args.words.now) c.args.place c.loop-gone.gone c.loop-gone.invariant.calm (omega arith)

pub returns-then-not-calm : goal.returns-then-not-calm
returns-then-not-calm g c =
    let ws = g.W.Words.words c.args.words.now in
    let within : c.loop-gone.gone < c.args.place = omega arith in
    let room : c.args.place - 1 - c.loop-gone.gone < length ws = omega arith in
    let at : slice_get ws (c.args.place - 1 - c.loop-gone.gone) ≡ Some c.word.result = stands_at ws _ (c.args.place - 1 - c.loop-gone.gone) c.word.result c.word.ensures (omega arith) room in
    subst (λ x. IsOpenAt c.args.profile ws c.args.place x) (sym c.rest_of.ensures)
    (at_loud c.args.profile ws c.args.place c.loop-gone.gone c.word.result c.kind_of-opened.result.0 c.loop-gone.invariant.calm within c.requires at c.kind_of-opened.ensures.opens
    (c.kind_of-opened.ensures.calm.no c.if-not-calm.true))

pub loop-gone-preserved : goal.loop-gone-preserved
loop-gone-preserved g c =
    let ws = g.W.Words.words c.args.words.now in
    let within : c.loop-gone.gone < c.args.place = omega arith in
    let room : c.args.place - 1 - c.loop-gone.gone < length ws = omega arith in
    let at : slice_get ws (c.args.place - 1 - c.loop-gone.gone) ≡ Some c.word.result = stands_at ws _ (c.args.place - 1 - c.loop-gone.gone) c.word.result c.word.ensures (omega arith) room in
    record {
      within = omega arith;
      calm = one_more_calm c.args.profile ws c.args.place c.loop-gone.gone c.word.result c.loop-gone.invariant.calm within at (c.kind_of-opened.ensures.calm.yes c.if-not-calm.false);
    }

pub returns : goal.returns
returns g c = all_gone c.args.profile (g.W.Words.words c.args.words.now) c.args.place c.loop-gone.gone c.loop-gone.invariant.calm (omega (arith, c.window-gone-end.ensures))
