use Rattle.std.proofs.Common.{rules, ◌∙◌, ◌&&◌, refl, sym, take, subst}
use Rattle.lfi_file_commands.specs.Images.{image_in, images_in}
use Rattle.lfi_file_commands.specs.Items.{PutsImages}
use Rattle.lfi_file_commands.proofs.Fates.{images_more, images_whole, puts_more, puts_none}
use Rattle.lfi_file_commands.proofs.images.write_images.Goals as goal

pub loop-told-init : goal.loop-told-init
loop-told-init g c = record { written = λ none. puts_none c.args.folder.now c.args.outputs.now c.args.items.now none; out = refl }

pub loop-told-preserved : goal.loop-told-preserved
loop-told-preserved g c =
    let folder = c.args.folder.now in
    let k = c.loop-told.told-index in
    let all = c.args.modules.now in
    let old = c.args.outputs.now in
    let now = c.write_image_of-all in
    record {
      written = λ none. subst (λ images. PutsImages folder images old now.new.outputs (c.loop-told.all && now.result) now.new.items) (sym (images_more all k c.told-item.result (search rules) c.told-item.is))
          (puts_more folder (images_in (take k all)) (image_in c.told-item.result.image) old c.loop-told.outputs now.new.outputs c.loop-told.all now.result c.loop-told.items now.new.items now.ensures.lost
          (c.loop-told.invariant.written none) now.ensures.written);
      out = now.ensures.out ∙ c.loop-told.invariant.out;
    }

pub returns : goal.returns
returns g c =
    let all = c.args.modules.now in
    record {
      written = λ none. subst (λ images. PutsImages c.args.folder.now images c.args.outputs.now c.loop-told.outputs c.loop-told.all c.loop-told.items) (images_whole all c.loop-told.told-index (search rules))
          (c.loop-told.invariant.written none);
      out = c.loop-told.invariant.out;
    }
