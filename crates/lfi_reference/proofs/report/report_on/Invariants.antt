use Rattle.std.proofs.Common.{◌≡◌, length}
use Rattle.lfi_reference.specs.Reports.{AreReported}
use Rattle.lfi_reference.proofs.report.report_on.Given as goal

abbrev pub invariant-loop-m : goal.invariant-loop-m
invariant-loop-m l = record {
  are : AreReported l.streams l.connections.items 0 l.modules.items;
  long : length l.modules.items ≡ l.m;
}
