use Rattle.std.proofs.Common.{◌≡◌, map, take}
use Rattle.lfi_model.specs.Items.{modules}
use Rattle.lfi_reference.specs.Messages.{message_of, rest_by}
use Rattle.lfi_reference.specs.Shares.{lists_by}
use Rattle.lfi_reference.specs.Connections.{items_in}
use Rattle.lfi_reference.proofs.connection.all_items.Given as goal

abbrev pub invariant-loop-m : goal.invariant-loop-m
invariant-loop-m l = lists_by l.lists.items ≡ map (items_in l.claimed (map message_of l.messages) (rest_by l.rest) l.fault) (take l.m modules)
