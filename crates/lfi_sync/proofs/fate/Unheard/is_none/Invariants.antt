use Rattle.std.proofs.Common.{◌≡◌, ◌<◌, ℕ, false}
use Rattle.lfi_sync.specs.Fates.{is_unheard}
use Rattle.lfi_sync.proofs.fate.Unheard.is_none.Given as goal

abbrev pub invariant-loop-number : goal.invariant-loop-number
invariant-loop-number l = (c : ℕ) → c < l.number → is_unheard l.self c ≡ false
