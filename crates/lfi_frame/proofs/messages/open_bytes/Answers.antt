use Rattle.std.proofs.Common.{arith}
use Rattle.lfi_frame.proofs.Opens.{open_is_message}
use Rattle.lfi_frame.proofs.messages.open_bytes.Goals as goal

pub returns-clause-message : goal.returns-clause-message
returns-clause-message c = open_is_message c.args.module c.args.extent (omega arith) (record { some = omega arith; most = omega arith; entry = omega arith; pages = c.pages.ensures.fits })
