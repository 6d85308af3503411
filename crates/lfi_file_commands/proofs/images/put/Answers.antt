use Rattle.std.proofs.Common.{◌∷◌, [], subst, sym}
use Rattle.std.specs.Prelude.{OnOk}
use Rattle.std.proofs.lemmas.Result.{IfErr-weaker}
use Rattle.lfi_image_file.specs.Files.{file_of}
use Rattle.lfi_file_commands.specs.Failures.{IsOfWriting}
use Rattle.lfi_file_commands.specs.Images.{image_path_of, Puts}
use Rattle.lfi_file_commands.proofs.images.put.Goals as goal

pub returns-clause-ok : goal.returns-clause-ok
returns-clause-ok g c =
    subst (λ p. OnOk c.put_at.result (Puts (g.P.ImageStore.put_files c.args.images.now) (g.P.ImageStore.put_files c.put_at.new.images) ((p, file_of c.args.image.now) ∷ []))) c.in-Ok.ensures c.put_at.ensures.ok

pub returns-clause-failure : goal.returns-clause-failure
returns-clause-failure g c =
    let path = image_path_of c.args.folder.now c.args.image.now.slot in
    IfErr-weaker c.put_at.result _ _ (λ failure is. subst (IsOfWriting path) (sym is.1) c.in-Ok.ensures) c.put_at.ensures.failure
