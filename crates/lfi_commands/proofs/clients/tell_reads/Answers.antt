use Rattle.std.proofs.Common.{rules, None, get_or, subst, take}
use Rattle.lfi_model.proofs.Lines.{lines_more, lines_whole}
use Rattle.lfi_file_commands.specs.Errors.{is_lost_of, writer_of}
use Rattle.lfi_file_commands.specs.Failures.{Told}
use Rattle.lfi_file_commands.proofs.Fates.{told_nil, told_trans}
use Rattle.lfi_commands.specs.Clients.{read_line, read_lines}
use Rattle.lfi_commands.proofs.clients.tell_reads.Goals as goal

pub loop-number-init : goal.loop-number-init
loop-number-init g c = record { told = told_nil (is_lost_of c.args.errors.now) (g.E.Write.contents (writer_of c.args.errors.now)); lost = λ is. is }

pub loop-number-preserved : goal.loop-number-preserved
loop-number-preserved g c =
    let k = c.loop-number.number in
    let faults = c.args.faults.now in
    let kinds = c.args.kinds.now in
    let old = c.args.errors.now in
    let mid = c.loop-number.errors in
    let new = c.tell_read.new.errors in
    record {
      told = subst (λ text. Told (is_lost_of new) (g.E.Write.contents (writer_of old)) (g.E.Write.contents (writer_of new)) text) (lines_more (λ n fault. read_line n fault (get_or kinds n None)) faults k None (search rules))
          (told_trans (is_lost_of mid) (is_lost_of new) (g.E.Write.contents (writer_of old)) (g.E.Write.contents (writer_of mid)) (g.E.Write.contents (writer_of new)) (read_lines (take k faults) kinds) (read_line k (get_or faults k None) (get_or kinds k None))
          c.tell_read.ensures.lost c.loop-number.invariant.told c.tell_read.ensures.told);
      lost = λ is. c.tell_read.ensures.lost (c.loop-number.invariant.lost is);
    }

pub returns : goal.returns
returns g c = record {
  told = subst (λ text. Told (is_lost_of c.loop-number.errors) (g.E.Write.contents (writer_of c.args.errors.now)) (g.E.Write.contents (writer_of c.loop-number.errors)) text) (lines_whole (λ n fault. read_line n fault (get_or c.args.kinds.now n None)) c.args.faults.now c.loop-number.number (search rules)) c.loop-number.invariant.told;
  lost = c.loop-number.invariant.lost;
}
