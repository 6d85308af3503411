use Rattle.std.proofs.Common.{◌≡◌, map, take, length}
use Rattle.lfi_reference.proofs.report.outcomes_of.Given as goal

abbrev pub invariant-loop-number : goal.invariant-loop-number
invariant-loop-number l = record {
  told : take l.number l.outcomes ≡ map (λ loaded. loaded.outcome) (take l.number l.modules);
  long : length l.outcomes ≡ 16;
}
