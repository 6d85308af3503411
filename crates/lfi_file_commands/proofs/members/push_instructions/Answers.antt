use Rattle.std.proofs.Common.{rules, ◌∙◌, ◌<◌, ◌++◌, ℕ, ap, length, take}
use Rattle.std.specs.Prelude.{string_bytes}
use Rattle.lfi_model.specs.Texts.{lines_from}
use Rattle.lfi_model.proofs.Lines.{lines_more, lines_whole}
use Rattle.lfi_file_commands.specs.Json.{mend_item}
use Rattle.lfi_file_commands.proofs.Pushed.{more}
use Rattle.lfi_file_commands.proofs.members.push_instructions.Goals as goal

pub loop-number-preserved : goal.loop-number-preserved
loop-number-preserved c =
    let k : ℕ = c.loop-number.number in
    let is = c.args.instructions.now in
    let x = c.index-instructions-number.result in
    let within : k < length is = search rules in
    let pushed = more (string_bytes c.args.text.now) (string_bytes c.loop-number.text) (string_bytes c.push_instruction.new.text) (lines_from mend_item 0 (take k is)) (mend_item k x) c.loop-number.invariant c.in_ok-push_instruction.ensures in
    pushed ∙ ap (λ l. string_bytes c.args.text.now ++ l) (ap (λ y. lines_from mend_item 0 (take k is) ++ mend_item k y) c.index-instructions-number.is ∙ lines_more mend_item is k x within)

pub returns : goal.returns
returns c = c.loop-number.invariant ∙ ap (λ l. string_bytes c.args.text.now ++ l) (lines_whole mend_item c.args.instructions.now c.loop-number.number (search rules))
