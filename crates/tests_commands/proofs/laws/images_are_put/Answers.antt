use Rattle.std.proofs.Common.{true, refl}
use Rattle.tests_commands.proofs.Told.{images_put}
use Rattle.tests_commands.proofs.laws.images_are_put.Goals as goal

pub returns : goal.returns
returns a folder images old new there is at = images_put folder images old new there true is refl at
