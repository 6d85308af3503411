use Rattle.std.proofs.Common.{[], arith, None}
use Rattle.lfi_rules.specs.Faults.{FirstFault}
use Rattle.lfi_rules.proofs.Following.{breaks_within}
use Rattle.lfi_rules.proofs.Due.{open_at_start}
use Rattle.lfi_reference.proofs.words.first_fault.Goals as goal

pub returns : goal.returns
returns c =
    let ws = c.args.words.now.items in let n = c.args.n in
    let none : FirstFault c.args.profile [] n None = λ k r breaks. absurd (let w = breaks_within c.args.profile [] n k r breaks in omega arith) in
    c.fault_after.ensures.first c.args.profile [] ws none (open_at_start c.args.profile []) c.judge-verdict.ensures (omega (arith, c.len.ensures))
