use Rattle.std.proofs.Common.{arith}
use Rattle.lfi_receive.proofs.coming.ComingPage.due.Goals as goal

pub overflow_cast-result : goal.overflow_cast-result
overflow_cast-result c = let most = c.len.ensures.most in let size = c.args.self.now.coming.size in let narrow = c.args.self.now.coming.narrow in omega arith
