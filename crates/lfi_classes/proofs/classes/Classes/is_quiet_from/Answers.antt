use Rattle.std.proofs.Common.{◌≡◌, ◌≤◌, arith}
use Rattle.std.proofs.lemmas.Bool.{leb-true}
use Rattle.lfi_classes.specs.Classes.{least_of, all_classes, classes_of}
use Rattle.lfi_classes.proofs.Members.{is_here}
use Rattle.lfi_classes.proofs.classes.Classes.is_quiet_from.Goals as goal

pub returns : goal.returns
returns c = λ word reach e number h.
    let low : c.args.least ≤ c.self.inside.members = leb-true _ _ h in
    let same : c.self.inside.members ≡ classes_of all_classes word = omega arith in
    let least : c.args.least ≡ least_of reach = number in
    let above : least_of reach ≤ classes_of all_classes word = omega arith in
    is_here word reach above
