use Rattle.std.proofs.Common.{◌≡◌}
use Rattle.std.specs.Io.KnownBytes.{Keeps}
use Rattle.lfi_run_image.proofs.console.Console.put.Given as goal

abbrev pub invariant-loop : goal.invariant-loop
invariant-loop g l = Keeps (g.W.Write.contents l.fn.self.out.now) (g.W.Write.contents l.self.out.now) × (l.self.out.ghost_name ≡ l.fn.self.out.ghost_name)
