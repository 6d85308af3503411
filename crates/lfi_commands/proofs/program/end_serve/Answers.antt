use Rattle.std.proofs.Common.{◌∙◌, ap, subst}
use Rattle.lfi_file_commands.specs.Errors.{is_lost_of, writer_of}
use Rattle.lfi_file_commands.specs.Failures.{Told}
use Rattle.lfi_file_commands.specs.Left.{Left}
use Rattle.lfi_commands.specs.Clients.{fate_lines}
use Rattle.lfi_commands.proofs.program.end_serve.Goals as goal

pub returns-in-Ok-clause-told : goal.returns-in-Ok-clause-told
returns-in-Ok-clause-told g c =
    let served = c.args.served.now in
    let now = c.end_load.new.outputs in
    let is = c.outputs.view_is in
    let lost = is_lost_of c.tell_fates.new.errors in
    let tells = g.E.Write.contents (writer_of c.tell_fates.new.errors) in
    record {
      before = now;
      by_load = c.in-Ok.by_load;
      reported = c.in-Ok.ensures.told;
      out = ap (λ (left : Left). left.out) is;
      put = ap (λ (left : Left). left.put) is;
      told = subst (λ before. Told lost before tells (fate_lines served.clients.fates)) (ap (λ (left : Left). left.errors) is) c.tell_fates.ensures.told;
      lost = λ was. c.tell_fates.ensures.lost (ap (λ (left : Left). left.is_lost) is ∙ was);
      ends = c.ending_of_serve.ensures;
    }
