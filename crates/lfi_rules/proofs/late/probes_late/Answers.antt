use Rattle.std.proofs.Common.{◌≡◌, ℕ, ◌+◌, ◌^◌, ◌<◌, List, Some, sym, subst, ap, ◌∙◌, arith, inl, inr, rules}
use Rattle.std.specs.Prelude.{slice_get}
use Rattle.std.proofs.lemmas.Bool.{and_parts, or_cases, eqb-true}
use Rattle.std.proofs.lemmas.Option.{slice_get-get_or}
use Rattle.lfi_rules.specs.declared.needs.Need.TheVariants.{Probe}
use Rattle.lfi_rules.specs.Needs.{window}
use Rattle.lfi_rules.specs.Faults.{Meets}
use Rattle.lfi_rules.specs.inner.Quiet.{IsToldWord}
use Rattle.lfi_rules.specs.inner.Passing.{AreCalmAfter}
use Rattle.lfi_rules.proofs.Broken.{quiet_told}
use Rattle.lfi_rules.proofs.ByKind.{probe_opens}
use Rattle.lfi_rules.proofs.Before.{stands_at}
use Rattle.lfi_rules.proofs.Due.{same_at}
use Rattle.lfi_rules.proofs.Behind.{none_calm, more_calm, fine_late}
use Rattle.lfi_rules.proofs.late.probes_late.Goals as goal

pub returns : goal.returns
returns g c = λ h.
    let p = c.args.region.profile in
    let ws : List ℕ = g.W.Words.words c.args.region.words.now in
    let i : ℕ = c.args.i in
    let w : ℕ = c.word.result in
    let tests = and_parts _ _ h in
    let first = and_parts _ _ tests.0 in
    let four : c.window.result ≡ 4 = eqb-true _ _ first.1 in
    let most : window p ≡ 4 = sym c.window.ensures ∙ four in
    let fits : w < 2 ^ 32 = search rules in
    let at : slice_get ws i ≡ Some w = slice_get-get_or ws i 0 c.requires.within ∙ ap Some (sym c.word.ensures) in
    let told : IsToldWord p w (c.args.region.first + i) c.args.region.n (Probe 1) = quiet_told p w (c.args.region.first + i) c.args.region.n (Probe 1) (probe_opens w (c.args.region.first + i) c.args.region.n fits (c.opens_probe.ensures w c.classes_of.ensures first.0)) in
    let at_one : slice_get ws (i + 0 + 1) ≡ Some c.word-one.result = stands_at ws _ (i + 0 + 1) c.word-one.result c.word-one.ensures (omega arith) (omega arith) in
    let at_two : slice_get ws (i + 1 + 1) ≡ Some c.word-two.result = stands_at ws _ (i + 1 + 1) c.word-two.result c.word-two.ensures (omega arith) (omega arith) in
    let at_three : slice_get ws (i + 2 + 1) ≡ Some c.word-three.result = stands_at ws _ (i + 2 + 1) c.word-three.result c.word-three.ensures (omega arith) (omega arith) in
    let at_four : slice_get ws (i + 3 + 1) ≡ Some c.word-four.result = stands_at ws _ (i + 3 + 1) c.word-four.result c.word-four.ensures (omega arith) (omega arith) in
    let behind = and_parts _ _ tests.1 in
    let calm_one : AreCalmAfter p ws i 1 = more_calm p ws i 0 c.word-one.result (none_calm p ws i) at_one (c.is_surely_calm-3.ensures.calm p behind.0) in
    elim (or_cases _ _ behind.1) [
      | inl probe ↦ fine_late p ws c.args.region.first c.args.region.n i w 1 at told calm_one (omega arith)
          (λ next there. subst (λ x. Meets p x (Probe 1)) (same_at ws (i + 1 + 1) c.word-two.result next at_two there) (c.is_plain_probe-3.ensures p probe))
      | inr past_one ↦
          let past = and_parts _ _ past_one in
          let calm_two : AreCalmAfter p ws i 2 = more_calm p ws i 1 c.word-two.result calm_one at_two (c.is_surely_calm-2.ensures.calm p past.0) in
          elim (or_cases _ _ past.1) [
            | inl probe ↦ fine_late p ws c.args.region.first c.args.region.n i w 2 at told calm_two (omega arith)
                (λ next there. subst (λ x. Meets p x (Probe 1)) (same_at ws (i + 2 + 1) c.word-three.result next at_three there) (c.is_plain_probe-2.ensures p probe))
            | inr past_two ↦
                let last = and_parts _ _ past_two in
                let calm_three : AreCalmAfter p ws i 3 = more_calm p ws i 2 c.word-three.result calm_two at_three (c.is_surely_calm.ensures.calm p last.0) in
                fine_late p ws c.args.region.first c.args.region.n i w 3 at told calm_three (omega arith)
                (λ next there. subst (λ x. Meets p x (Probe 1)) (same_at ws (i + 3 + 1) c.word-four.result next at_four there) (c.is_plain_probe.ensures p last.1))
          ]
    ]
