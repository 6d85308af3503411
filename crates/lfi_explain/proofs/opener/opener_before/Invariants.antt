use Rattle.std.proofs.Common.{◌≤◌}
use Rattle.lfi_rules.specs.inner.Passing.{AreCalmBefore}
use Rattle.lfi_explain.proofs.opener.opener_before.Given as goal

abbrev pub invariant-loop-gone : goal.invariant-loop-gone
invariant-loop-gone g l = record {
  within : l.gone ≤ l.place;
  calm : AreCalmBefore l.profile (g.W.Words.words l.words) l.place l.gone;
}
