use Rattle.std.proofs.Common.{rules, ◌∙◌, ◌<◌, ◌++◌, ℕ, None, ap, get_or, length, take}
use Rattle.std.specs.Prelude.{string_bytes}
use Rattle.lfi_model.specs.Texts.{lines_from}
use Rattle.lfi_model.proofs.Lines.{lines_more, lines_whole}
use Rattle.lfi_file_commands.proofs.Pushed.{more}
use Rattle.lfi_commands.specs.Objects.{connection_item}
use Rattle.lfi_commands.specs.inner.Known.{known_of}
use Rattle.lfi_commands.proofs.objects.push_connections.Goals as goal

pub loop-number-preserved : goal.loop-number-preserved
loop-number-preserved c =
    let k : ℕ = c.loop-number.number in
    let faults = c.args.faults.now in
    let item = connection_item c.args.report.now (known_of c.args.sources.now) in
    let within : k < length faults = search rules in
    let pushed = more (string_bytes c.args.text.now) (string_bytes c.loop-number.text) (string_bytes c.push_connection_at.new.text) (lines_from item 0 (take k faults)) (item k (get_or faults k None)) c.loop-number.invariant
    c.in_ok-push_connection_at.ensures in
    pushed ∙ ap (λ l. string_bytes c.args.text.now ++ l) (lines_more item faults k None within)

pub returns : goal.returns
returns c =
    c.loop-number.invariant
    ∙ ap (λ l. string_bytes c.args.text.now ++ l) (lines_whole (connection_item c.args.report.now (known_of c.args.sources.now)) c.args.faults.now c.loop-number.number (search rules))
