use Rattle.std.proofs.Common.{◌∙◌, ap, true, false, sym, subst}
use Rattle.lfi_file_commands.specs.Errors.{is_lost_of, writer_of}
use Rattle.lfi_file_commands.specs.Images.{image_in}
use Rattle.lfi_file_commands.specs.inner.Keeping.{KeepsImages}
use Rattle.lfi_file_commands.specs.Left.{Left, left}
use Rattle.lfi_file_commands.proofs.Fates.{keeps_failed, keeps_none, keeps_one}
use Rattle.lfi_file_commands.proofs.images.write_image_of.Goals as goal

pub returns-in-Ok-clause-written : goal.returns-in-Ok-clause-written
returns-in-Ok-clause-written g c =
    let folder = c.args.folder.now in
    let inside = c.outputs.inside in
    let out = g.O.Write.contents inside.out in
    let lost = is_lost_of inside.errors in
    let told = g.E.Write.contents (writer_of inside.errors) in
    let was = g.P.ImageStore.put_files inside.images in
    let now = g.P.ImageStore.put_files c.put.new.images in
    let items = c.args.items.now in
    let kept = c.keep.new.self in
    let new = left out now lost told in
    subst (λ old. KeepsImages folder (image_in c.args.state.now) old new true items kept) c.outputs.view_is
    (subst (λ s. KeepsImages folder (image_in s) (left out was lost told) new true items kept) (sym c.in-Whole.is)
    (keeps_one folder c.in-Whole.image out was now lost told items kept c.in-Ok.ensures.ok c.keep.ensures))

pub returns-in-Err-clause-written : goal.returns-in-Err-clause-written
returns-in-Err-clause-written g c =
    let folder = c.args.folder.now in
    let inside = c.outputs.inside in
    let out = g.O.Write.contents inside.out in
    let was_lost = is_lost_of inside.errors in
    let told = g.E.Write.contents (writer_of inside.errors) in
    let lost = is_lost_of c.tell_failure.new.errors in
    let tells = g.E.Write.contents (writer_of c.tell_failure.new.errors) in
    let was = g.P.ImageStore.put_files inside.images in
    let now = g.P.ImageStore.put_files c.put.new.images in
    let items = c.args.items.now in
    let kept = c.keep-in-Err.new.self in
    let new = left out now lost tells in
    subst (λ old. KeepsImages folder (image_in c.args.state.now) old new false items kept) c.outputs.view_is
    (subst (λ s. KeepsImages folder (image_in s) (left out was was_lost told) new false items kept) (sym c.in-Whole.is)
    (keeps_failed folder c.in-Whole.image c.in-Err.failure out was now was_lost lost told tells items kept c.in-Err.ensures.err c.in-Err.ensures.failure c.tell_failure.ensures.told c.keep-in-Err.ensures))

pub returns-in-Err-clause-lost : goal.returns-in-Err-clause-lost
returns-in-Err-clause-lost g c = λ was. c.tell_failure.ensures.lost (ap (λ (left : Left). left.is_lost) c.outputs.view_is ∙ was)

pub returns-in_default-clause-written : goal.returns-in_default-clause-written
returns-in_default-clause-written g c = keeps_none c.args.folder.now c.args.state.now c.args.outputs.now c.args.items.now c.in_default.not-Whole
