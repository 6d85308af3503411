use Rattle.std.proofs.Common.{◌+◌, Result, Err, ◌∙◌, subst, arith}
use Rattle.lfi_machine.specs.declared.halt.Halt.{Halt}
use Rattle.lfi_machine.specs.Runs.{IsConfined}
use Rattle.lfi_machine.specs.inner.Rows.{RanRow}
use Rattle.lfi_machine.proofs.Stepping.{confined_from, stops_not_used}
use Rattle.lfi_machine.proofs.Rows.{row_on}
use Rattle.lfi_machine.proofs.machine.Machine.run.Goals as goal

pub returns-clause-confined : goal.returns-clause-confined
returns-clause-confined g c =
    subst IsConfined c.self.view_is (confined_from (record { registers = c.self.inside.registers; owned = c.self.inside.slot }) c.self.invariant.0 c.self.invariant.1)

pub returns-in-Err-clause-confined : goal.returns-in-Err-clause-confined
returns-in-Err-clause-confined g c = c.steps-result.ensures.confined

pub returns-in-Err-clause-ran : goal.returns-in-Err-clause-ran
returns-in-Err-clause-ran g c =
    let answers = g.R.Runtime.answers in
    let ran = row_on answers c.args.self.now c.loop-count.self c.steps-result.new.self c.args.runtime.now c.loop-count.runtime c.steps-result.new.runtime c.loop-count.count c.steps-result.result.1 c.steps-result.result.0
    c.loop-count.invariant.ran c.steps-result.ensures.ran in
    let halted : RanRow answers c.args.self.now c.args.runtime.now (Err c.in-Err.halt) (c.loop-count.count + c.steps-result.result.1) c.steps-result.new.self c.steps-result.new.runtime =
    subst (λ (r : Result (Unit {0}) Halt). RanRow answers c.args.self.now c.args.runtime.now r (c.loop-count.count + c.steps-result.result.1) c.steps-result.new.self c.steps-result.new.runtime) c.in-Err.is ran in
    (halted.0, halted.1, halted.2, stops_not_used answers c.in-Err.halt halted.0 c.steps-result.new.self halted.1 c.steps-result.new.runtime halted.3)

pub loop-count-preserved : goal.loop-count-preserved
loop-count-preserved g c =
    let answers = g.R.Runtime.answers in
    let ran = row_on answers c.args.self.now c.loop-count.self c.steps-result.new.self c.args.runtime.now c.loop-count.runtime c.steps-result.new.runtime c.loop-count.count c.steps-result.result.1 c.steps-result.result.0
    c.loop-count.invariant.ran c.steps-result.ensures.ran in
    record {
      ran = subst (λ (r : Result (Unit {0}) Halt). RanRow answers c.args.self.now c.args.runtime.now r (c.loop-count.count + c.steps-result.result.1) c.steps-result.new.self c.steps-result.new.runtime) c.in_default.is ran;
      image = c.steps-result.ensures.image ∙ c.loop-count.invariant.image;
      within = omega (arith, c.steps-result.ensures.most, c.loop-count-test.true);
    }
