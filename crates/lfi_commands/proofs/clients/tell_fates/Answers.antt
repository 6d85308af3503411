use Rattle.std.proofs.Common.{rules, get_or, subst, take}
use Rattle.lfi_model.proofs.Lines.{lines_more, lines_whole}
use Rattle.lfi_sync.specs.declared.fate.ClientFate.TheVariants.{Heard}
use Rattle.lfi_file_commands.specs.Errors.{is_lost_of, writer_of}
use Rattle.lfi_file_commands.specs.Failures.{Told}
use Rattle.lfi_file_commands.proofs.Fates.{told_nil, told_trans}
use Rattle.lfi_commands.specs.Clients.{fate_line, fate_lines}
use Rattle.lfi_commands.proofs.clients.tell_fates.Goals as goal

pub loop-number-init : goal.loop-number-init
loop-number-init g c = record { told = told_nil (is_lost_of c.args.errors.now) (g.E.Write.contents (writer_of c.args.errors.now)); lost = λ is. is }

pub loop-number-preserved : goal.loop-number-preserved
loop-number-preserved g c =
    let k = c.loop-number.number in
    let fates = c.args.fates.now in
    let old = c.args.errors.now in
    let mid = c.loop-number.errors in
    let new = c.tell_fate.new.errors in
    record {
      told = subst (λ text. Told (is_lost_of new) (g.E.Write.contents (writer_of old)) (g.E.Write.contents (writer_of new)) text) (lines_more fate_line fates k Heard (search rules))
          (told_trans (is_lost_of mid) (is_lost_of new) (g.E.Write.contents (writer_of old)) (g.E.Write.contents (writer_of mid)) (g.E.Write.contents (writer_of new)) (fate_lines (take k fates)) (fate_line k (get_or fates k Heard))
          c.tell_fate.ensures.lost c.loop-number.invariant.told c.tell_fate.ensures.told);
      lost = λ is. c.tell_fate.ensures.lost (c.loop-number.invariant.lost is);
    }

pub returns : goal.returns
returns g c = record {
  told = subst (λ text. Told (is_lost_of c.loop-number.errors) (g.E.Write.contents (writer_of c.args.errors.now)) (g.E.Write.contents (writer_of c.loop-number.errors)) text) (lines_whole fate_line c.args.fates.now c.loop-number.number (search rules)) c.loop-number.invariant.told;
  lost = c.loop-number.invariant.lost;
}
