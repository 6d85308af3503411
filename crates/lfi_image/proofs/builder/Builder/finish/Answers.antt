use Rattle.std.proofs.Common.{rules, ◌≡◌, ◌≤◌}
use Rattle.lfi_image.specs.Built.{words_in}
use Rattle.lfi_image.proofs.Building.{image_of}
use Rattle.lfi_image.proofs.builder.Builder.finish.Goals as goal

pub invariant_of-result : goal.invariant_of-result
invariant_of-result c =
    let w : words_in c.self.inside.pages.items ≡ c.args.self.placed = search rules in
    let n : c.self.inside.extent.words ≡ c.args.self.extent.words = search rules in
    let p : c.self.inside.extent.profile ≡ c.args.self.extent.profile = search rules in
    let e : c.self.inside.extent.entry ≡ c.args.self.extent.entry = search rules in
    let s : c.self.inside.slot ≡ c.args.self.slot = search rules in
    let whole : c.self.inside.extent.words ≤ c.self.inside.placed = search rules in
    image_of _ _ _ _ _ _ _ _ _ _ c.self.invariant.0 w n _ _ _ p e s whole
