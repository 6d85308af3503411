use Rattle.std.proofs.Common.{◌≡◌, [], take}
use Rattle.lfi_file_commands.specs.Images.{images_in}
use Rattle.lfi_file_commands.specs.Items.{AreItemsOf, PutsImages}
use Rattle.lfi_file_commands.proofs.images.write_images.Given as goal

abbrev pub invariant-loop-told : goal.invariant-loop-told
invariant-loop-told g l =
    record {
      written : AreItemsOf l.folder [] l.initial.items → PutsImages l.folder (images_in (take l.told-index l.modules)) l.initial.outputs l.outputs l.all l.items;
      out : l.outputs.out ≡ l.initial.outputs.out;
    }
