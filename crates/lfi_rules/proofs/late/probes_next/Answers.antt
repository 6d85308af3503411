use Rattle.std.proofs.Common.{◌≡◌, ℕ, ◌+◌, ◌^◌, ◌<◌, List, Some, ap, sym, ◌∙◌, rules}
use Rattle.std.specs.Prelude.{slice_get}
use Rattle.std.proofs.lemmas.Option.{slice_get-get_or}
use Rattle.lfi_rules.specs.declared.needs.Need.TheVariants.{Probe}
use Rattle.lfi_rules.proofs.Broken.{quiet_told}
use Rattle.lfi_rules.proofs.ByKind.{probe_opens}
use Rattle.lfi_rules.proofs.Fine.{fine_opening}
use Rattle.lfi_rules.proofs.late.probes_next.Goals as goal

pub returns-then-opens_probe : goal.returns-then-opens_probe
returns-then-opens_probe g c = λ h.
    let p = c.args.region.profile in
    let ws : List ℕ = g.W.Words.words c.args.region.words.now in
    let w : ℕ = c.word.result in
    let i : ℕ = c.args.i in
    let first : ℕ = c.args.region.first in
    let n : ℕ = c.args.region.n in
    let fits : w < 2 ^ 32 = search rules in
    let at : slice_get ws i ≡ Some w = slice_get-get_or ws i 0 c.requires.within ∙ ap Some (sym c.word.ensures) in
    fine_opening p ws first n i w (Probe 1) at
    (quiet_told p w (first + i) n (Probe 1) (probe_opens w (first + i) n fits (c.opens_probe.ensures w c.classes_of.ensures c.if-opens_probe.true)))
    (c.probes_after.ensures p h)
