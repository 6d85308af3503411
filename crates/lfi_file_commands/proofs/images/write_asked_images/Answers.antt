use Rattle.std.proofs.Common.{[], option_map, sym, subst, true}
use Rattle.lfi_file_commands.specs.Images.{asked_images, folder_or_none}
use Rattle.lfi_file_commands.specs.Items.{AreItemsOf, PutsImages}
use Rattle.lfi_file_commands.proofs.Fates.{puts_none}
use Rattle.lfi_file_commands.proofs.images.write_asked_images.Goals as goal

pub returns-in-Some-clause-written : goal.returns-in-Some-clause-written
returns-in-Some-clause-written g c =
    let did = c.write_images in
    subst (λ folder. AreItemsOf (folder_or_none (option_map (λ s. s.now) folder)) [] c.args.items.now
    → PutsImages (folder_or_none (option_map (λ s. s.now) folder)) (asked_images (option_map (λ s. s.now) folder) c.args.modules.now) c.args.outputs.now did.new.outputs did.result did.new.items)
    (sym c.in-Some.is) did.ensures.written

pub returns-in-None-clause-written : goal.returns-in-None-clause-written
returns-in-None-clause-written g c =
    let old = c.args.outputs.now in
    let items = c.args.items.now in
    subst (λ folder. AreItemsOf (folder_or_none (option_map (λ s. s.now) folder)) [] items
    → PutsImages (folder_or_none (option_map (λ s. s.now) folder)) (asked_images (option_map (λ s. s.now) folder) c.args.modules.now) old old true items)
    (sym c.in-None.is) (puts_none [] old items)
