use Rattle.std.proofs.Common.{◌≡◌, ◌≤◌, ℕ, None, map, take, length, get_or}
use Rattle.lfi_reference.proofs.report.faults_of.Given as goal

abbrev pub invariant-loop-number : goal.invariant-loop-number
invariant-loop-number l = record {
  told : take l.number l.faults ≡ map (λ made. made.fault) (take l.number l.connections);
  long : length l.faults ≡ 8;
  others : (c : ℕ) → l.number ≤ c → get_or l.faults c None ≡ None;
}
