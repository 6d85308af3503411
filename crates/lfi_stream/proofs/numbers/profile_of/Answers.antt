use Rattle.lfi_stream.proofs.ProfileNumbers.{profile_is}
use Rattle.lfi_stream.proofs.numbers.profile_of.Goals as goal

pub returns : goal.returns
returns c = profile_is c.new.result c.args.number c.new.ensures.some c.new.ensures.only
