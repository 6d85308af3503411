use Rattle.std.proofs.Common.{sym, subst, arith}
use Rattle.lfi_reference.specs.Reports.{AreReported, IsReported}
use Rattle.lfi_reference.proofs.Reporting.{made_long, reported_more}
use Rattle.lfi_reference.proofs.report.report_on.Goals as goal

pub loop-m-preserved : goal.loop-m-preserved
loop-m-preserved c =
    let streams = c.args.streams.now in let made = c.in_ok-connections.connections.items in
    let here : IsReported streams made c.loop-m.m c.in_ok-report_module.field-0 = subst (λ l. IsReported streams l c.loop-m.m c.in_ok-report_module.field-0) c.as_slice.ensures.value c.in_ok-report_module.ensures in
    let long = c.loop-m.invariant.long in
    record {
      are = subst (λ l. AreReported streams made 0 l) (sym c.in_ok-push.ensures.items)
          (reported_more streams made 0 c.loop-m.m c.loop-m.modules.items c.in_ok-report_module.field-0 c.loop-m.invariant.are (omega arith) here);
      long = (let len = c.in_ok-push.ensures.len in omega arith);
    }

pub returns-clause-one_each : goal.returns-clause-one_each
returns-clause-one_each c = made_long c.args.streams.now c.in_ok-connections.connections.items c.in_ok-connections.ensures
