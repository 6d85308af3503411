use Rattle.std.proofs.Common.{ap, ◌∙◌}
use Rattle.a64_semantics.specs.Sums.{flags_of_number}
use Rattle.a64_semantics.specs.Conditions.{holds}
use Rattle.a64_semantics.proofs.Tables.{holds_by_number}
use Rattle.a64_semantics.proofs.flags.Flags.holds.Goals as goal

pub returns : goal.returns
returns c =
    c.holds_at.ensures ∙ ap (λ n. holds c.args.condition (flags_of_number n)) c.number.ensures.value ∙ holds_by_number c.args.condition c.args.self
