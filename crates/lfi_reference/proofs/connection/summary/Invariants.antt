use Rattle.std.proofs.Common.{◌≡◌, ◌≤◌, ◌*◌, ◌^◌, map, take, sum_by}
use Rattle.std.specs.List.{list_any}
use Rattle.lfi_model.specs.Items.{is_going, modules}
use Rattle.lfi_reference.specs.Messages.{message_of, rest_by}
use Rattle.lfi_reference.specs.Connections.{share_in}
use Rattle.lfi_reference.proofs.connection.summary.Given as goal

abbrev pub invariant-loop-m : goal.invariant-loop-m
invariant-loop-m l = record {
  going : l.going ≡ list_any (λ m. is_going (share_in l.claimed (map message_of l.messages) (rest_by l.rest) m).progress) (take l.m modules);
  strays : l.strays ≡ sum_by (λ m. (share_in l.claimed (map message_of l.messages) (rest_by l.rest) m).strays) (take l.m modules);
  few : l.strays ≤ 2 ^ 64 * l.m;
}
