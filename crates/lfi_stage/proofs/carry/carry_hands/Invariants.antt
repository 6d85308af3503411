use Rattle.std.proofs.Common.{◌≡◌, ℕ, ◌≤◌, List, length}
use Rattle.lfi_model.specs.Item.{ItemView}
use Rattle.lfi_stage.specs.Settled.{SettlesBut}
use Rattle.lfi_stage.specs.inner.Rows.{held_by}
use Rattle.lfi_stage.proofs.Carrying.{from_on}
use Rattle.lfi_stage.proofs.carry.carry_hands.Given as goal

abbrev pub invariant-loop-number : goal.invariant-loop-number
invariant-loop-number l = record {
  long : length l.hands ≡ 8;
  same : (v : ℕ) → l.number ≤ v → held_by l.hands v ≡ held_by l.fn.hands v;
  settles : (takes : ℕ → List ItemView) → SettlesBut takes (held_by l.fn.hands) l.fn.sequences → SettlesBut takes (from_on l.number (held_by l.fn.hands)) l.sequences;
}
