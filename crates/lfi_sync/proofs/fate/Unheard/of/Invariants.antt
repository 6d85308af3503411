use Rattle.std.proofs.Common.{◌≡◌, ◌≤◌, ◌<◌, ◌&&◌, nat_lt, not, ℕ, false, get_or, length}
use Rattle.lfi_sync.specs.Fates.{is_flagged}
use Rattle.lfi_sync.proofs.fate.Unheard.of.Given as goal

abbrev pub invariant-loop-number : goal.invariant-loop-number
invariant-loop-number l = record {
  long : length l.are ≡ 8;
  done : (c : ℕ) → c < l.number → get_or l.are c false ≡ (nat_lt c l.count && not (is_flagged l.heard c));
  beyond : (c : ℕ) → l.count ≤ c → get_or l.are c false ≡ false;
}
