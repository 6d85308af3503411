use Rattle.std.proofs.Common.{◌∙◌, ℕ, List, Option, sym, ap, subst}
use Rattle.lfi_machine.specs.Runs.{RanThenHalts}
use Rattle.lfi_run_image.specs.Serving.{serves}
use Rattle.lfi_run_image.proofs.run.run_from_start.Goals as goal

pub returns-clause-ran : goal.returns-clause-ran
returns-clause-ran g c =
    let out_is = ap g.W.Write.contents (c.out-1.given.1 (sym c.run_served-ended.ensures.same)) in
    record {
      start = c.in-Ok.machine;
      registers = c.in-Ok.ensures.registers ∙ c.start_registers-registers.ensures.value;
      placed = c.in-Ok.ensures.image;
      unwritten = c.in-Ok.ensures.zero;
      confined = c.in-Ok.ensures.confined;
      last = c.run_served-ended.new.machine;
      ran = subst (λ (held : Option (List ℕ)). RanThenHalts serves c.in-Ok.machine (g.W.Write.contents c.args.out.now) c.run_served-ended.result.0 c.run_served-ended.result.1 c.run_served-ended.new.machine held) (sym out_is) c.run_served-ended.ensures.ran;
      within = c.run_served-ended.ensures.within;
      used = c.run_served-ended.ensures.used;
    }
