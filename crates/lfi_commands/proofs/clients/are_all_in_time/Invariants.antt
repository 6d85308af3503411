use Rattle.std.proofs.Common.{◌≡◌, take}
use Rattle.std.specs.List.{count_by}
use Rattle.lfi_sync.specs.Fates.{is_cut_off}
use Rattle.lfi_commands.proofs.clients.are_all_in_time.Given as goal

abbrev pub invariant-loop-fate : goal.invariant-loop-fate
invariant-loop-fate l = l.cut_off ≡ count_by is_cut_off (take l.fate-index l.fates)
