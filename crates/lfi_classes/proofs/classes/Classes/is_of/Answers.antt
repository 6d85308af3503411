use Rattle.std.proofs.Common.{◌≡◌, subst, sym, arith}
use Rattle.std.specs.Prelude.{bit_and}
use Rattle.std.proofs.lemmas.Bool.{eqb-false, not-true}
use Rattle.lfi_classes.specs.Classes.{all_classes, classes_of}
use Rattle.lfi_classes.proofs.classes.Classes.is_of.Goals as goal

pub returns : goal.returns
returns c = λ word e h.
    let same : c.self.inside.members ≡ classes_of all_classes word = omega arith in
    c.asked.ensures word (λ zero. eqb-false _ _ (not-true _ h) (subst (λ m. bit_and m c.asked.result ≡ 0) (sym same) zero))
