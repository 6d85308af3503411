use Rattle.std.proofs.Common.{◌*◌, ◌%◌, ◌^◌, ap, ◌∙◌}
use Rattle.a64_semantics.specs.Numbers.{operand}
use Rattle.a64_semantics.proofs.Extensions.{operand_of_shifted}
use Rattle.a64_semantics.proofs.shifts.extended_operand.Goals as goal

pub returns-clause-value : goal.returns-clause-value
returns-clause-value c =
    c.operand.ensures.value ∙ ap (λ x. operand c.args.width (x * 2 ^ c.args.by % 2 ^ 64)) c.extended_x.ensures
    ∙ operand_of_shifted c.args.width c.args.extend c.args.held c.args.by
