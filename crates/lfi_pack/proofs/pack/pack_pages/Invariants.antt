use Rattle.lfi_pack.specs.inner.Copies.{CopiesFirst}
use Rattle.lfi_pack.proofs.pack.pack_pages.Given as goal

abbrev pub invariant-loop-index : goal.invariant-loop-index
invariant-loop-index g l = CopiesFirst l.module l.size l.words l.index (g.R.Read.remaining l.initial.reader) (g.R.Read.remaining l.reader) (g.W.Write.contents l.initial.writer) (g.W.Write.contents l.writer)
