use Rattle.std.proofs.Common.{inl, inr}
use Rattle.std.proofs.lemmas.Bool.Decides.{leb_tells}
use Rattle.lfi_receive.proofs.Pulled.{none_left, some_left}
use Rattle.lfi_receive.proofs.input.Input.is_used_up.Goals as goal

pub returns : goal.returns
returns g c =
    let i = c.args.self.now in
    elim (leb_tells i.to i.from) [
      | inl over ↦ (λ yes. none_left i.from i.to i.bytes.items over.1, λ none. over.0)
      | inr under ↦ (λ yes. absurd (let no = under.0 in cc), λ none. absurd (some_left i.from i.to i.bytes.items under.1 i.within.1 none))
    ]
