use Rattle.std.proofs.Common.{inl, inr, refl, subst}
use Rattle.lfi_command_line.specs.CommandLine.{IsLineFault}
use Rattle.lfi_file_commands.specs.declared.failure.Failure.TheVariants.{NoMemory}
use Rattle.lfi_file_commands.specs.Errors.{is_lost_of, writer_of}
use Rattle.lfi_file_commands.specs.Left.{left}
use Rattle.lfi_commands.specs.Runs.{Runs}
use Rattle.lfi_commands.proofs.Ended.{ends_wrong, runs_failed}
use Rattle.lfi_commands.proofs.program.tell_fault.Goals as goal

pub returns-in-NoMemory : goal.returns-in-NoMemory
returns-in-NoMemory g c = λ words file_at is.
    let inside = c.outputs.inside in
    let errors = c.tell_failure.new.errors in
    let new = left (g.O.Write.contents inside.out) (g.P.ImageStore.put_files inside.images) (is_lost_of errors) (g.E.Write.contents (writer_of errors)) in
    subst (λ old. Runs words file_at old new c.tell_failure.result) c.outputs.view_is
    (runs_failed words file_at _ new c.tell_failure.result c.tell_failure.ensures.failed (NoMemory, tt, c.tell_failure.ensures.told, refl, λ other. refl))

pub returns-in-Wrong : goal.returns-in-Wrong
returns-in-Wrong g c = λ words file_at is.
    let inside = c.outputs.inside in
    let out = g.O.Write.contents inside.out in
    let put = g.P.ImageStore.put_files inside.images in
    let errors = c.write_text.new.self in
    let lost = is_lost_of errors in
    let told = g.E.Write.contents (writer_of errors) in
    let ends = c.unless_lost in
    let wrong = subst (λ fault. IsLineFault words fault) c.in-Wrong.is is in
    subst (λ old. Runs words file_at old (left out put lost told) ends.result) c.outputs.view_is
    (ends_wrong words file_at out put (is_lost_of inside.errors) (g.E.Write.contents (writer_of inside.errors)) told lost ends.result ends.ensures (inl (_, wrong.0, wrong.1)))

pub returns-in-NoPages : goal.returns-in-NoPages
returns-in-NoPages g c = λ words file_at is.
    let inside = c.outputs.inside in
    let out = g.O.Write.contents inside.out in
    let put = g.P.ImageStore.put_files inside.images in
    let errors = c.write_line.new.self in
    let lost = is_lost_of errors in
    let told = g.E.Write.contents (writer_of errors) in
    let ends = c.unless_lost-in-NoPages in
    subst (λ old. Runs words file_at old (left out put lost told) ends.result) c.outputs.view_is
    (ends_wrong words file_at out put (is_lost_of inside.errors) (g.E.Write.contents (writer_of inside.errors)) told lost ends.result ends.ensures (inr (inl (subst (λ fault. IsLineFault words fault) c.in-NoPages.is is, c.write_line.ensures.told))))

pub returns-in-NoFormat : goal.returns-in-NoFormat
returns-in-NoFormat g c = λ words file_at is.
    let inside = c.outputs.inside in
    let out = g.O.Write.contents inside.out in
    let put = g.P.ImageStore.put_files inside.images in
    let errors = c.write_line-in-NoFormat.new.self in
    let lost = is_lost_of errors in
    let told = g.E.Write.contents (writer_of errors) in
    let ends = c.unless_lost-in-NoFormat in
    subst (λ old. Runs words file_at old (left out put lost told) ends.result) c.outputs.view_is
    (ends_wrong words file_at out put (is_lost_of inside.errors) (g.E.Write.contents (writer_of inside.errors)) told lost ends.result ends.ensures
    (inr (inr (inl (subst (λ fault. IsLineFault words fault) c.in-NoFormat.is is, c.write_line-in-NoFormat.ensures.told)))))

pub returns-in-Flawed : goal.returns-in-Flawed
returns-in-Flawed g c = λ words file_at is.
    let inside = c.outputs.inside in
    let out = g.O.Write.contents inside.out in
    let put = g.P.ImageStore.put_files inside.images in
    let errors = c.write_line-in-Flawed.new.self in
    let lost = is_lost_of errors in
    let told = g.E.Write.contents (writer_of errors) in
    let ends = c.unless_lost-in-Flawed in
    let flawed = subst (λ fault. IsLineFault words fault) c.in-Flawed.is is in
    subst (λ old. Runs words file_at old (left out put lost told) ends.result) c.outputs.view_is
    (ends_wrong words file_at out put (is_lost_of inside.errors) (g.E.Write.contents (writer_of inside.errors)) told lost ends.result ends.ensures (inr (inr (inr (flawed.0, c.in-Flawed.flaw, flawed.1, flawed.2, c.write_line-in-Flawed.ensures.told)))))
