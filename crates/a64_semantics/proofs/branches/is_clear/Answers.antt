use Rattle.std.proofs.Common.{◌≡◌, ◌/◌, ◌%◌, ◌^◌, ◌≤◌, sym, ap, arith, pow_mono, ◌==◌}
use Rattle.std.proofs.Math.Nat.{div-eq_of_lt}
use Rattle.a64_semantics.proofs.branches.is_clear.Goals as goal

pub returns-then-bit-ge64 : goal.returns-then-bit-ge64
returns-then-bit-ge64 c =
    let past : 2 ^ 64 ≤ 2 ^ c.args.bit = pow_mono c.if-bit-ge64.true in
    let none : c.args.held / 2 ^ c.args.bit ≡ 0 = div-eq_of_lt (omega (arith, c.ranges.held.fits)) in
    sym (ap (λ n. n % 2 == 0) none)
