use Rattle.std.proofs.Common.{[], ◌++◌, ◌∙◌, take, ap, subst}
use Rattle.std.proofs.lemmas.List.{append-nil}
use Rattle.lfi_receive.specs.Receivers.{StandsFor}
use Rattle.lfi_stage.proofs.finishing.finish_once.Goals as goal

pub returns-clause-stands : goal.returns-clause-stands
returns-clause-stands c = λ bytes stands.
    let after = c.turn-did.ensures.ended c.requires.ended in
    subst (λ l. StandsFor c.turn-did.new.self l) (ap (λ n. bytes ++ take n []) after.none_used ∙ append-nil bytes) (c.turn-did.ensures.stands bytes stands)
