use Rattle.std.proofs.Common.{◌≡◌, ℕ, ◌<◌, ◌≤◌, length, None}
use Rattle.lfi_queues.specs.Passes.{pass_at}
use Rattle.lfi_stage.specs.inner.Rows.{row_of, Popped}
use Rattle.lfi_stage.proofs.drain.gather.Given as goal

abbrev pub invariant-loop-number : goal.invariant-loop-number
invariant-loop-number l = record {
  long : length l.puts ≡ 8;
  wide : length l.rows ≡ 8;
  done : (k : ℕ) → k < l.number → Popped (row_of l.fn.rows k) (pass_at l.puts k) (row_of l.rows k);
  same : (k : ℕ) → l.number ≤ k → row_of l.rows k ≡ row_of l.fn.rows k;
  none : (k : ℕ) → l.number ≤ k → pass_at l.puts k ≡ None;
}
