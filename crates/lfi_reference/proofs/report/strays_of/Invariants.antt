use Rattle.std.proofs.Common.{◌≡◌, ◌^◌, ◌-◌, take, min, sum_by}
use Rattle.lfi_reference.proofs.report.strays_of.Given as goal

abbrev pub invariant-loop-connection : goal.invariant-loop-connection
invariant-loop-connection l = l.strays ≡ min (sum_by (λ connection. connection.strays) (take l.connection-index l.made)) (2 ^ 64 - 1)
