use Rattle.std.proofs.Common.{◌≡◌, ◌++◌, take}
use Rattle.std.specs.Prelude.{string_bytes}
use Rattle.lfi_model.specs.Texts.{lines_from}
use Rattle.lfi_file_commands.specs.Json.{mend_item}
use Rattle.lfi_file_commands.proofs.members.push_instructions.Given as goal

abbrev pub invariant-loop-number : goal.invariant-loop-number
invariant-loop-number l = string_bytes l.text ≡ string_bytes l.initial.text ++ lines_from mend_item 0 (take l.number l.instructions)
