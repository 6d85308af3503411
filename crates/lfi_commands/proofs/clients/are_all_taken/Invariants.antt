use Rattle.std.proofs.Common.{◌≡◌, take}
use Rattle.std.specs.List.{count_by}
use Rattle.lfi_sync.specs.Fates.{is_absent}
use Rattle.lfi_commands.proofs.clients.are_all_taken.Given as goal

abbrev pub invariant-loop-fate : goal.invariant-loop-fate
invariant-loop-fate l = l.absent ≡ count_by is_absent (take l.fate-index l.fates)
