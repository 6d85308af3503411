use Rattle.lfi_receive.proofs.Pulled.{some_left}
use Rattle.lfi_receive.proofs.input.Input.fill.Goals as goal

pub returns-then-self-clause-bytes : goal.returns-then-self-clause-bytes
returns-then-self-clause-bytes g c = λ _. some_left c.args.self.now.from c.args.self.now.to c.args.self.now.bytes.items c.if-self.true c.args.self.now.within.1
