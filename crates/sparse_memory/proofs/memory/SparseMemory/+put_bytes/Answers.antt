use Rattle.std.proofs.Common.{◌≡◌, ◌+◌, arith, subst, sym}
use Rattle.sparse_memory.specs.Kept.{IsKept}
use Rattle.sparse_memory.proofs.memory.SparseMemory.+put_bytes.Goals as goal

pub put_bytes-requires : goal.put_bytes-requires
put_bytes-requires t c = (
  omega (arith, c.decreases),
  (
    omega arith,
    λ k h.
        let e : c.args.offset + 1 + k ≡ c.args.offset + (k + 1) = omega arith in
        subst (λ o. IsKept c.put.new.self o) (sym e) ((c.put.ensures.pages (c.args.offset + (k + 1))).0 (c.requires.kept (k + 1) (omega arith))),
  ),
)
