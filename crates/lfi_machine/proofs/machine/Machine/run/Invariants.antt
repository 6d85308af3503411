use Rattle.std.proofs.Common.{◌≡◌, ◌≤◌, ◌-◌}
use Rattle.lfi_machine.specs.Runs.{Ran}
use Rattle.lfi_machine.proofs.machine.Machine.run.Given as goal

abbrev pub invariant-loop-count : goal.invariant-loop-count
invariant-loop-count g l = record {
  ran : Ran g.R.Runtime.answers l.fn.self l.fn.runtime l.count l.self l.runtime;
  image : l.self.owned.image ≡ l.fn.self.owned.image;
  within : l.count ≤ l.steps;
}

abbrev pub decreases-loop-count : goal.decreases-loop-count
decreases-loop-count g l = l.steps - l.count
