use Rattle.std.proofs.Common.{rules, ◌<◌, ◌^◌, ap, subst, length}
use Rattle.lfi_receive.specs.declared.start.MessageStart.{MessageStart}
use Rattle.lfi_receive.specs.inner.Steps.{bytes_before}
use Rattle.lfi_receive.proofs.Standing.{end_stands}
use Rattle.lfi_receive.proofs.Starts.{starts_plain}
use Rattle.lfi_receive.proofs.receiver.Receiver.end_by.Goals as goal

pub returns-clause-stands : goal.returns-clause-stands
returns-clause-stands c = λ bytes stands.
    let r = c.args.self.now in
    let start : MessageStart = record r.start { byte = bytes_before c.begun.result r.came } in
    end_stands r _ _ start bytes c.args.cause c.requires.running c.fault_at_end-self.ensures
    (λ messages rest runs.
    let begun = c.begun.ensures messages rest runs.feed runs.counts.header runs.faultless in
    let low : length rest < 2 ^ 64 = subst (λ n. n < 2 ^ 64) begun (search rules) in
    starts_plain start r.came r.feed messages rest low runs.feed runs.faultless runs.counts (ap (λ n. bytes_before n r.came) begun))
    stands
