use Rattle.std.proofs.Common.{rules, ◌≤◌, length, sym, ◌∙◌, refl}
use Rattle.lfi_frame.specs.declared.feed.Feed.{Feed}
use Rattle.lfi_frame.proofs.Feeding.{ended_inside}
use Rattle.lfi_frame.proofs.feed.Feed.end.Goals as goal

pub returns-clause-stands : goal.returns-clause-stands
returns-clause-stands c = λ messages rest stands.
    let old : Feed = c.args.self.now in
    let long : 12 ≤ length old.held = search rules in
    ended_inside old _ messages rest long c.in_default.not-Faulty (sym c.is_between.ensures ∙ c.if-is_between.false) refl stands
