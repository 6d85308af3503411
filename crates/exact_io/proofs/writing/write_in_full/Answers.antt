use Rattle.std.proofs.Common.{◌≡◌, ◌+◌, take, drop, rules, refl, sym, take-append-drop, arith, length-drop}
use Rattle.std.proofs.KnownBytes.{Appends-kept}
use Rattle.exact_io.proofs.Pieces.{grown}
use Rattle.exact_io.proofs.writing.write_in_full.Goals as goal

pub returns-in-Ok-eq0-clause-part : goal.returns-in-Ok-eq0-clause-part
returns-in-Ok-eq0-clause-part g c = (
  take c.loop-at.at c.args.bytes.now,
  drop c.loop-at.at c.args.bytes.now,
  sym (take-append-drop c.loop-at.at c.args.bytes.now),
  omega (arith, length-drop c.loop-at.at c.args.bytes.now),
  let none : c.loop-at.at ≡ c.loop-at.at + c.in-Ok-eq0.field-0 = search rules in grown _ _ _ c.args.bytes.now c.loop-at.at c.in-Ok-eq0.field-0 c.loop-at.at none c.loop-at.invariant.1 c.in-Ok-eq0.ensures.bytes,
)

pub loop-at-preserved : goal.loop-at-preserved
loop-at-preserved g c =
    (search rules, grown _ _ _ c.args.bytes.now c.loop-at.at c.in-Ok.count (c.loop-at.at + c.in-Ok.count) refl c.loop-at.invariant.1 c.in-Ok.ensures.bytes)

pub returns-in-Err-clause-part : goal.returns-in-Err-clause-part
returns-in-Err-clause-part g c = (
  take c.loop-at.at c.args.bytes.now,
  drop c.loop-at.at c.args.bytes.now,
  sym (take-append-drop c.loop-at.at c.args.bytes.now),
  omega (arith, length-drop c.loop-at.at c.args.bytes.now),
  Appends-kept _ _ _ _ c.loop-at.invariant.1 c.in-Err.ensures.bytes,
)
