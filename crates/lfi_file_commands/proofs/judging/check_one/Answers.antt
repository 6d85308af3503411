use Rattle.std.proofs.Common.{◌∙◌, ap, inl, refl, subst}
use Rattle.lfi_file_commands.specs.Checking.{IsFound, TellsOf, ending_of, naming_text}
use Rattle.lfi_file_commands.specs.Errors.{is_lost_of, writer_of}
use Rattle.lfi_file_commands.specs.Explaining.{ChecksOne}
use Rattle.lfi_file_commands.specs.Left.{left}
use Rattle.lfi_file_commands.proofs.Explained.{carried, finding_known}
use Rattle.lfi_file_commands.proofs.judging.check_one.Goals as goal

pub returns-in-Ok-judge_file-clause-found : goal.returns-in-Ok-judge_file-clause-found
returns-in-Ok-judge_file-clause-found g c =
    let inside = c.outputs.inside in
    let asked = c.args.asked.now in
    let name = naming_text c.args.name in
    let path = c.args.path.now in
    let rest = g.D.Reader.Read.remaining c.in-Ok.reader in
    let file = g.D.Disk.file_at c.args.disk.now path in
    let finding = c.in-Ok-judge_file.finding in
    let was = is_lost_of inside.errors in
    let before = g.E.Write.contents (writer_of inside.errors) in
    let lost = is_lost_of c.tell_other.new.errors in
    let told = g.E.Write.contents (writer_of c.tell_other.new.errors) in
    let new = left (g.O.Write.contents c.judge_file.new.out) (g.P.ImageStore.put_files inside.images) lost told in
    subst (λ old. ChecksOne name asked path file old new c.of_verdict.result) c.outputs.view_is
    (inl (record {
      finding = finding;
      found = carried (λ bytes. IsFound asked.profile bytes finding) rest file c.in-Ok.ensures.reader c.in-Ok-judge_file.ensures.found;
      written = finding_known name asked.profile asked.explain rest file finding (g.O.Write.contents inside.out) (g.O.Write.contents c.judge_file.new.out) c.in-Ok.ensures.reader
          c.in-Ok-judge_file.ensures.written;
      told = subst (λ o. TellsOf path o was lost before told) c.other.ensures c.tell_other.ensures.told;
      put = refl;
      ends = c.of_verdict.ensures ∙ ap ending_of c.verdict.ensures;
    }))
