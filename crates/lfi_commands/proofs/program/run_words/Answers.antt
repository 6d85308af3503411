use Rattle.std.proofs.Common.{◌≡◌, None, map, string_bytes, subst}
use Rattle.lfi_command_line.specs.Flaws.{flaw_of}
use Rattle.lfi_command_line.specs.CommandLine.{IsLine}
use Rattle.lfi_command_line.specs.declared.line.Line.TheVariants.{Load, Serve}
use Rattle.lfi_commands.proofs.Ended.{runs_ended}
use Rattle.lfi_commands.proofs.program.run_words.Goals as goal

pub returns-in-Load : goal.returns-in-Load
returns-in-Load g c =
    let words = map string_bytes c.args.arguments.words.now in
    let did = c.run_load-came in
    runs_ended words (g.D.Disk.file_at c.args.disk.now) (Load c.in-Load.asked) did.result c.args.outputs.now did.new.outputs c.ended.new.outputs c.ended.result (subst (λ line. IsLine words line × (flaw_of line ≡ None)) c.in-Load.is (c.in-Ok.ensures.line, c.in-Ok.ensures.sound))
    did.ensures.found c.ended.ensures.well did.ensures.failure did.ensures.output did.ensures.untold c.ended.ensures.failed

pub returns-in-Serve : goal.returns-in-Serve
returns-in-Serve g c =
    let words = map string_bytes c.args.arguments.words.now in
    let did = c.run_serve-came in
    let end = c.ended-in-Serve in
    runs_ended words (g.D.Disk.file_at c.args.disk.now) (Serve c.in-Serve.asked) did.result c.args.outputs.now did.new.outputs end.new.outputs end.result (subst (λ line. IsLine words line × (flaw_of line ≡ None)) c.in-Serve.is (c.in-Ok.ensures.line, c.in-Ok.ensures.sound))
    did.ensures.found end.ensures.well did.ensures.failure did.ensures.output did.ensures.untold end.ensures.failed

pub returns : goal.returns
returns g c =
    let words = map string_bytes c.args.arguments.words.now in
    let did = c.run_files-came in
    let end = c.ended-in_default in
    runs_ended words (g.D.Disk.file_at c.args.disk.now) c.in-Ok.line did.result c.args.outputs.now did.new.outputs end.new.outputs end.result (c.in-Ok.ensures.line, c.in-Ok.ensures.sound)
    did.ensures.found end.ensures.well did.ensures.failure did.ensures.output did.ensures.untold end.ensures.failed

pub returns-in-Err : goal.returns-in-Err
returns-in-Err g c = c.tell_fault.ensures (map string_bytes c.args.arguments.words.now) (g.D.Disk.file_at c.args.disk.now) c.in-Err.ensures.fault
