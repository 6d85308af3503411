use Rattle.std.proofs.Common.{inl, inr}
use Rattle.tests_commands.proofs.laws.no_image_is_unpacked.Goals as goal

pub returns : goal.returns
returns a bytes old new ending other (inl written) = absurd (other written.6)
returns a bytes old new ending other (inr told) = (told.0, told.1, told.2, told.3)
