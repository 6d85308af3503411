use Rattle.std.proofs.Common.{◌∙◌}
use Rattle.lfi_commands.specs.Clients.{are_all_taken}
use Rattle.lfi_commands.specs.Loading.{folder_of}
use Rattle.lfi_file_commands.specs.Images.{asked_images, folder_or_none}
use Rattle.tests_commands.proofs.Told.{all_put, images_put, object_told, reads_told}
use Rattle.tests_commands.proofs.laws.loads_tell_their_report.Goals as goal

pub returns-clause-loaded : goal.returns-clause-loaded
returns-clause-loaded a asked file_at old new ending is bytes known = is.loaded bytes known

pub returns-clause-lines : goal.returns-clause-lines
returns-clause-lines a report sources asked old new ending is = (is.explained, is.explains, is.written)

pub returns-clause-images : goal.returns-clause-images
returns-clause-images a report sources asked old new there is at =
    is.put
    ∙ images_put (folder_or_none (folder_of asked)) (asked_images (folder_of asked) report.modules) old is.images there is.all is.puts (all_put report (are_all_taken sources.clients) is.all is.ends) at

pub returns-clause-told : goal.returns-clause-told
returns-clause-told a = reads_told

pub returns-clause-object : goal.returns-clause-object
returns-clause-object a = object_told
