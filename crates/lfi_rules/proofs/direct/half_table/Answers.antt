use Rattle.std.proofs.Common.{refl}
use Rattle.lfi_classes.proofs.Members.{agrees, table_from_agrees}
use Rattle.lfi_rules.specs.inner.Passing.{half_of}
use Rattle.lfi_rules.proofs.direct.half_table.Goals as goal

pub returns : goal.returns
unfolding agrees
returns c = table_from_agrees half_of _ refl
