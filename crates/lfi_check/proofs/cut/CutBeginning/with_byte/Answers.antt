use Rattle.std.proofs.Common.{◌≡◌, ◌∷◌, [], ◌++◌, ap, sym, subst, refl}
use Rattle.lfi_check.specs.declared.cut.CutWord.TheVariants.{Three}
use Rattle.lfi_check.specs.Cuts.{bytes_of, Takes}
use Rattle.lfi_check.proofs.Cuts.{completed}
use Rattle.lfi_check.proofs.cut.CutBeginning.with_byte.Goals as goal

pub returns-in-Three : goal.returns-in-Three
returns-in-Three c =
    let byte = c.args.byte in
    let was : c.args.self.word ≡ Three c.in-Three.a c.in-Three.b c.in-Three.c = c.in-Three.is in
    subst (λ r. Takes c.args.self r (byte ∷ [])) (sym c.of.ensures.is)
    (completed c.args.self c.with.result byte (c.in-Three.a ∷ c.in-Three.b ∷ c.in-Three.c ∷ byte ∷ []) (ap (λ w. bytes_of w ++ byte ∷ []) (sym was)) refl c.with.ensures.begins c.with.ensures.judged c.with.ensures.words c.with.ensures.profile)
