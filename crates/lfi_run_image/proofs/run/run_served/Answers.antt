use Rattle.std.proofs.Common.{◌≡◌, ◌∙◌, refl}
use Rattle.lfi_run_image.specs.Serving.{serves}
use Rattle.lfi_run_image.proofs.Served.{related, run_alike, run_related}
use Rattle.lfi_run_image.proofs.run.run_served.Goals as goal

pub returns-clause-ran : goal.returns-clause-ran
returns-clause-ran g c =
    run_alike _ serves (λ console. g.W.Write.contents console.out.now) (λ h entry r o a k p answered. answered.0)
    c.args.machine.now c.run.new.self c.args.console.now c.run.new.runtime c.run.result.0 c.run.result.1 c.run.ensures.ran

pub returns-clause-same : goal.returns-clause-same
returns-clause-same g c =
    run_related (λ old new. new ≡ old) (λ name. refl) (λ a b d first second. second ∙ first)
    c.args.machine.now c.run.new.self c.args.console.now.out.ghost_name c.run.new.runtime.out.ghost_name c.run.result.0 c.run.result.1
    (run_alike _ (related (λ old new. new ≡ old)) (λ console. console.out.ghost_name) (λ h entry r o a k p answered. answered.1)
    c.args.machine.now c.run.new.self c.args.console.now c.run.new.runtime c.run.result.0 c.run.result.1 c.run.ensures.ran)
