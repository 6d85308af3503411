use Rattle.std.proofs.Common.{rules, ◌≡◌}
use Rattle.lfi_image.specs.Built.{words_in}
use Rattle.lfi_image.proofs.Building.{none_yet}
use Rattle.lfi_image.proofs.builder.Builder.placed.Goals as goal

pub returns-clause-faultless : goal.returns-clause-faultless
returns-clause-faultless c =
    let w : words_in c.self.inside.pages.items ≡ c.args.self.now.placed = search rules in
    let n : c.self.inside.extent.words ≡ c.args.self.now.extent.words = search rules in
    let p : c.self.inside.extent.profile ≡ c.args.self.now.extent.profile = search rules in
    none_yet _ _ _ _ _ _ _ _ _ _ c.self.invariant.0 w n _ p
