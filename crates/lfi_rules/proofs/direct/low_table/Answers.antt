use Rattle.std.proofs.Common.{refl}
use Rattle.lfi_classes.proofs.Members.{agrees, table_from_agrees}
use Rattle.lfi_rules.specs.inner.Passing.{low_of}
use Rattle.lfi_rules.proofs.direct.low_table.Goals as goal

pub returns : goal.returns
unfolding agrees
returns c = table_from_agrees low_of _ refl
