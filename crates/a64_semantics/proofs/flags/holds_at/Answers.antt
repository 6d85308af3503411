use Rattle.std.proofs.Common.{◌/◌, ◌%◌, ◌^◌, eqb, ap, ◌∙◌}
use Rattle.a64_semantics.proofs.Tables.{holds_by_table}
use Rattle.a64_semantics.proofs.flags.holds_at.Goals as goal

pub returns : goal.returns
returns c = ap (λ table. eqb (table / 2 ^ (c.args.nzcv % 16) % 2) 1) c.numbers_holding.ensures ∙ holds_by_table c.args.condition c.args.nzcv
