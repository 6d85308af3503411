use Rattle.std.proofs.Common.{◌∷◌, [], subst}
use Rattle.lfi_image_file.specs.Files.{file_of}
use Rattle.lfi_file_commands.specs.Images.{Puts}
use Rattle.lfi_file_commands.proofs.images.put_at.Goals as goal

pub returns-in-Ok-clause-ok : goal.returns-in-Ok-clause-ok
returns-in-Ok-clause-ok g c =
    subst (λ p. Puts (g.P.ImageStore.put_files c.args.images.now) (g.P.ImageStore.put_files c.put_image.new.self) ((p, file_of c.args.image.now) ∷ [])) c.as_str.ensures.value c.in-Ok.ensures.ok
