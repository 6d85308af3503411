use Rattle.std.proofs.Common.{◌≡◌, ℕ, ◌+◌, ◌^◌, ◌<◌, List, length, Some, sym, subst, ap, ◌∙◌, arith, rules}
use Rattle.std.specs.Prelude.{slice_get}
use Rattle.std.proofs.lemmas.Option.{slice_get_within, slice_get-get_or}
use Rattle.lfi_rules.specs.declared.needs.Need.TheVariants.{Probe}
use Rattle.lfi_rules.specs.Needs.{window}
use Rattle.lfi_rules.specs.Faults.{Meets}
use Rattle.lfi_rules.specs.inner.Quiet.{IsToldWord}
use Rattle.lfi_rules.proofs.Broken.{quiet_told}
use Rattle.lfi_rules.proofs.ByKind.{probe_opens}
use Rattle.lfi_rules.proofs.Before.{stands_at}
use Rattle.lfi_rules.proofs.Due.{same_at}
use Rattle.lfi_rules.proofs.Behind.{more_calm, fine_late}
use Rattle.lfi_rules.proofs.late.is_told_late.Goals as goal

pub returns-then-at-count : goal.returns-then-at-count
returns-then-at-count g c = λ _.
    let p = c.args.region.profile in
    let ws : List ℕ = g.W.Words.words c.args.region.words.now in
    let i : ℕ = c.args.i in
    let w : ℕ = c.word.result in
    let fits : w < 2 ^ 32 = search rules in
    let at : slice_get ws i ≡ Some w = slice_get-get_or ws i 0 c.requires.within ∙ ap Some (sym c.word.ensures) in
    let told : IsToldWord p w (c.args.region.first + i) c.args.region.n (Probe 1) = quiet_told p w (c.args.region.first + i) c.args.region.n (Probe 1) (probe_opens w (c.args.region.first + i) c.args.region.n fits (c.opens_probe.ensures w c.classes_of.ensures c.if-not-opens_probe.false)) in
    let more : c.loop-gone.gone < window p = omega (arith, c.window-gone-end.ensures) in
    fine_late p ws c.args.region.first c.args.region.n i w c.loop-gone.gone at told c.loop-gone.invariant more
    (λ next there. (let within : i + c.loop-gone.gone + 1 < length ws = slice_get_within ws (i + c.loop-gone.gone + 1) next there in absurd (omega arith)))

pub returns-then-is_met : goal.returns-then-is_met
returns-then-is_met g c = λ _.
    let p = c.args.region.profile in
    let ws : List ℕ = g.W.Words.words c.args.region.words.now in
    let i : ℕ = c.args.i in
    let w : ℕ = c.word.result in
    let j : ℕ = i + c.loop-gone.gone + 1 in
    let fits : w < 2 ^ 32 = search rules in
    let at : slice_get ws i ≡ Some w = slice_get-get_or ws i 0 c.requires.within ∙ ap Some (sym c.word.ensures) in
    let told : IsToldWord p w (c.args.region.first + i) c.args.region.n (Probe 1) = quiet_told p w (c.args.region.first + i) c.args.region.n (Probe 1) (probe_opens w (c.args.region.first + i) c.args.region.n fits (c.opens_probe.ensures w c.classes_of.ensures c.if-not-opens_probe.false)) in
    let more : c.loop-gone.gone < window p = omega (arith, c.window-gone-end.ensures) in
    let room : j < length ws = omega arith in
    let here : slice_get ws j ≡ Some c.word-word.result = stands_at ws _ j c.word-word.result c.word-word.ensures (omega arith) room in
    fine_late p ws c.args.region.first c.args.region.n i w c.loop-gone.gone at told c.loop-gone.invariant more
    (λ next there. subst (λ x. Meets p x (Probe 1)) (same_at ws j c.word-word.result next here there) (c.is_met.ensures.met p c.if-is_met.true))

pub loop-gone-preserved : goal.loop-gone-preserved
loop-gone-preserved g c =
    let p = c.args.region.profile in
    let ws : List ℕ = g.W.Words.words c.args.region.words.now in
    let j : ℕ = c.args.i + c.loop-gone.gone + 1 in
    let room : j < length ws = omega arith in
    let here : slice_get ws j ≡ Some c.word-word.result = stands_at ws _ j c.word-word.result c.word-word.ensures (omega arith) room in
    more_calm p ws c.args.i c.loop-gone.gone c.word-word.result c.loop-gone.invariant here (c.is_calm_word.ensures.yes c.if-not-is_calm_word.false)
