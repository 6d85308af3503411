use Rattle.std.proofs.Common.{◌-◌, length}
use Rattle.lfi_image_file.specs.inner.Steps.{IsRead, IsSameModule}
use Rattle.lfi_image_file.proofs.reading.read_code.Given as goal

abbrev pub invariant-loop-alloc : goal.invariant-loop-alloc
invariant-loop-alloc g l = record {
  read : IsRead l.initial.builder.extent.profile (g.R.Read.remaining l.initial.reader) (g.R.Read.remaining l.reader) l.initial.builder.extent.words l.builder.placed;
  same : IsSameModule l.initial.builder l.builder;
}

abbrev pub decreases-loop-alloc : goal.decreases-loop-alloc
decreases-loop-alloc g l = l.initial.builder.extent.words - length l.builder.placed
