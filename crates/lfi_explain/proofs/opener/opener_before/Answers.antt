use Rattle.std.proofs.Common.{◌≡◌, ◌-◌, ◌<◌, ◌≤◌, ℕ, List, length, Some, sym, ap, ◌∙◌, arith}
use Rattle.std.specs.Prelude.{slice_get}
use Rattle.lfi_rules.specs.Needs.{window, term_of}
use Rattle.lfi_rules.proofs.Broken.{most_of_window}
use Rattle.lfi_rules.proofs.Before.{all_gone, at_first, no_calm, one_more_calm, stands_at}
use Rattle.lfi_explain.specs.Spellings.{opened_by}
use Rattle.lfi_explain.proofs.Found.{calm_told, opener_found, none_found}
use Rattle.lfi_explain.proofs.opener.opener_before.Goals as goal

pub loop-gone-init : goal.loop-gone-init
loop-gone-init g c = record { within = omega arith; calm = no_calm c.args.profile (g.W.Words.words c.args.words.now) c.args.place }

pub returns-then-from-place : goal.returns-then-from-place
returns-then-from-place g c = at_first c.args.profile (g.W.Words.words c.args.words.now) c.args.place c.loop-gone.gone c.loop-gone.invariant.calm (omega arith)

pub returns-then-gone-term : goal.returns-then-gone-term
returns-then-gone-term g c =
    let ws : List ℕ = g.W.Words.words c.args.words.now in
    let j : ℕ = c.args.place - 1 - c.loop-gone.gone in
    let within : c.loop-gone.gone < c.args.place = omega arith in
    let room : j < length ws = omega arith in
    let at : slice_get ws j ≡ Some c.word-word.result = stands_at ws _ j c.word-word.result c.word-word.ensures (omega arith) room in
    let asks : c.term.result ≡ term_of (opened_by c.of-spelling.result) = c.term.ensures ∙ ap term_of c.opens.ensures in
    let term : c.loop-gone.gone < term_of (opened_by c.of-spelling.result) = omega arith in
    opener_found c.args.profile ws c.args.place c.loop-gone.gone c.word-word.result c.of-spelling.result c.loop-gone.invariant.calm within c.requires at c.of-spelling.ensures term

pub returns-then-not-is_calm : goal.returns-then-not-is_calm
returns-then-not-is_calm g c =
    let ws : List ℕ = g.W.Words.words c.args.words.now in
    let j : ℕ = c.args.place - 1 - c.loop-gone.gone in
    let within : c.loop-gone.gone < c.args.place = omega arith in
    let room : j < length ws = omega arith in
    let at : slice_get ws j ≡ Some c.word-word.result = stands_at ws _ j c.word-word.result c.word-word.ensures (omega arith) room in
    let asks : c.term.result ≡ term_of (opened_by c.of-spelling.result) = c.term.ensures ∙ ap term_of c.opens.ensures in
    let late : term_of (opened_by c.of-spelling.result) ≤ c.loop-gone.gone = omega arith in
    none_found c.args.profile ws c.args.place c.loop-gone.gone c.word-word.result c.of-spelling.result c.loop-gone.invariant.calm within c.requires at c.of-spelling.ensures (sym c.is_calm.ensures ∙ c.if-not-is_calm.true) late

pub loop-gone-preserved : goal.loop-gone-preserved
loop-gone-preserved g c =
    let ws : List ℕ = g.W.Words.words c.args.words.now in
    let j : ℕ = c.args.place - 1 - c.loop-gone.gone in
    let within : c.loop-gone.gone < c.args.place = omega arith in
    let room : j < length ws = omega arith in
    let at : slice_get ws j ≡ Some c.word-word.result = stands_at ws _ j c.word-word.result c.word-word.ensures (omega arith) room in
    record {
      within = omega arith;
      calm = one_more_calm c.args.profile ws c.args.place c.loop-gone.gone c.word-word.result c.loop-gone.invariant.calm within at (calm_told c.args.profile c.word-word.result c.of-spelling.result c.of-spelling.ensures (sym c.is_calm.ensures ∙ c.if-not-is_calm.false));
    }

pub returns : goal.returns
returns g c =
    let most : window c.args.profile ≤ 4 = most_of_window c.args.profile in
    all_gone c.args.profile (g.W.Words.words c.args.words.now) c.args.place c.loop-gone.gone c.loop-gone.invariant.calm (omega arith)
