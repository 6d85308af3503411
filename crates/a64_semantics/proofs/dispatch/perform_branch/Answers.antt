use Rattle.std.proofs.Common.{subst, sym}
use Rattle.a64_semantics.specs.Performs.{Performs}
use Rattle.a64_semantics.proofs.dispatch.perform_branch.Goals as goal

pub returns-in-Branch : goal.returns-in-Branch
returns-in-Branch c = subst (λ i. Performs i c.args.registers.now c.branch-registers.new.registers) (sym c.in-Branch.is) c.branch-registers.ensures

pub returns-in-ConditionalBranch : goal.returns-in-ConditionalBranch
returns-in-ConditionalBranch c = subst (λ i. Performs i c.args.registers.now c.conditional_branch.new.registers) (sym c.in-ConditionalBranch.is) c.conditional_branch.ensures

pub returns-in-CompareBranch : goal.returns-in-CompareBranch
returns-in-CompareBranch c = subst (λ i. Performs i c.args.registers.now c.compare_branch.new.registers) (sym c.in-CompareBranch.is) c.compare_branch.ensures

pub returns-in-TestBranch : goal.returns-in-TestBranch
returns-in-TestBranch c = subst (λ i. Performs i c.args.registers.now c.test_branch.new.registers) (sym c.in-TestBranch.is) c.test_branch.ensures

pub returns-in-BranchRegister : goal.returns-in-BranchRegister
returns-in-BranchRegister c = subst (λ i. Performs i c.args.registers.now c.branch_register.new.registers) (sym c.in-BranchRegister.is) c.branch_register.ensures
