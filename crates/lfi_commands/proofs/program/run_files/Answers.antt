use Rattle.std.proofs.Common.{◌≡◌, ap, false, subst, sym}
use Rattle.std.specs.Prelude.{IfErr, IfOk}
use Rattle.std.proofs.lemmas.Result.{IfErr-weaker}
use Rattle.lfi_file_commands.specs.Failures.{is_of_output}
use Rattle.lfi_file_commands.specs.Left.{Left, OnlyOutput}
use Rattle.lfi_commands.specs.Runs.{CarriesOut, FailsAs}
use Rattle.lfi_commands.specs.inner.Ranges.{IsForFiles}
use Rattle.lfi_commands.proofs.program.run_files.Goals as goal

pub run_pack-requires-clause-numbers : goal.run_pack-requires-clause-numbers
run_pack-requires-clause-numbers g c κs within = (subst IsForFiles c.in-Pack.is c.requires.line).0

pub run_pack-requires-clause-pages : goal.run_pack-requires-clause-pages
run_pack-requires-clause-pages g c κs within = (subst IsForFiles c.in-Pack.is c.requires.line).1

pub returns-in-Check : goal.returns-in-Check
returns-in-Check g c =
    let did = c.run_check in
    record {
      found = subst (λ line. CarriesOut line (g.D.Disk.file_at c.args.disk.now) c.args.outputs.now did.new.outputs did.result) (sym c.in-Check.is) did.ensures;
      failure = tt;
      output = tt;
      untold = tt;
    }

pub returns-in-Info : goal.returns-in-Info
returns-in-Info g c =
    let did = c.run_info in
    record {
      found = subst (λ line. CarriesOut line (g.D.Disk.file_at c.args.disk.now) c.args.outputs.now did.new.outputs did.result) (sym c.in-Info.is) did.ensures;
      failure = tt;
      output = tt;
      untold = tt;
    }

pub returns-in-Disassemble : goal.returns-in-Disassemble
returns-in-Disassemble g c =
    let did = c.run_disassemble in
    record {
      found = subst (λ line. IfOk did.result (CarriesOut line (g.D.Disk.file_at c.args.disk.now) c.args.outputs.now did.new.outputs)) (sym c.in-Disassemble.is) did.ensures.found;
      failure = subst (λ line. IfErr did.result (FailsAs line)) (sym c.in-Disassemble.is) did.ensures.failure;
      output = did.ensures.output;
      untold = did.ensures.untold;
    }

pub returns-in-Unpack : goal.returns-in-Unpack
returns-in-Unpack g c =
    let did = c.run_unpack in
    record {
      found = subst (λ line. IfOk did.result (CarriesOut line (g.D.Disk.file_at c.args.disk.now) c.args.outputs.now did.new.outputs)) (sym c.in-Unpack.is) did.ensures.found;
      failure = subst (λ line. IfErr did.result (FailsAs line)) (sym c.in-Unpack.is) did.ensures.failure;
      output = did.ensures.output;
      untold = did.ensures.untold;
    }

pub returns-in-Run : goal.returns-in-Run
returns-in-Run g c =
    let did = c.run_run in
    let old = c.args.outputs.now in
    let new = did.new.outputs in
    record {
      found = subst (λ line. IfOk did.result (CarriesOut line (g.D.Disk.file_at c.args.disk.now) old new)) (sym c.in-Run.is) did.ensures.found;
      failure = subst (λ line. IfErr did.result (FailsAs line)) (sym c.in-Run.is) did.ensures.failure;
      output = IfErr-weaker did.result (λ _. new ≡ old) (λ failure. is_of_output failure ≡ false → new.out ≡ old.out) (λ failure is other. ap (λ (left : Left). left.out) is) did.ensures.unchanged;
      untold = IfErr-weaker did.result (λ _. new ≡ old) (λ _. OnlyOutput old new)
          (λ failure is. (ap (λ (left : Left). left.put) is, (ap (λ (left : Left). left.errors) is, ap (λ (left : Left). left.is_lost) is))) did.ensures.unchanged;
    }

pub returns-in-Pack : goal.returns-in-Pack
returns-in-Pack g c =
    let did = c.run_pack in
    record {
      found = subst (λ line. IfOk did.result (CarriesOut line (g.D.Disk.file_at c.args.disk.now) c.args.outputs.now did.new.outputs)) (sym c.in-Pack.is) did.ensures.found;
      failure = subst (λ line. IfErr did.result (FailsAs line)) (sym c.in-Pack.is) did.ensures.failure;
      output = did.ensures.output;
      untold = did.ensures.untold;
    }
