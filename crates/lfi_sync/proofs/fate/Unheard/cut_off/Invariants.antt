use Rattle.std.proofs.Common.{◌≡◌, ◌≤◌, ℕ, ◌<◌, length}
use Rattle.lfi_sync.specs.Fates.{fate_after, fate_at, is_unheard}
use Rattle.lfi_sync.specs.declared.fate.ClientFate.TheVariants.{Heard}
use Rattle.lfi_sync.proofs.fate.Unheard.cut_off.Given as goal

abbrev pub invariant-loop-number : goal.invariant-loop-number
invariant-loop-number l = record {
  long : length l.after ≡ 8;
  done : (c : ℕ) → c < l.number → fate_at l.after c ≡ fate_after (is_unheard l.self c) (fate_at l.fates c);
  left : (c : ℕ) → l.number ≤ c → fate_at l.after c ≡ Heard;
}
