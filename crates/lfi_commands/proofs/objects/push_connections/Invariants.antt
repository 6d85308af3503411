use Rattle.std.proofs.Common.{◌≡◌, ◌++◌, take}
use Rattle.std.specs.Prelude.{string_bytes}
use Rattle.lfi_model.specs.Texts.{lines_from}
use Rattle.lfi_commands.specs.Objects.{connection_item}
use Rattle.lfi_commands.specs.inner.Known.{known_of}
use Rattle.lfi_commands.proofs.objects.push_connections.Given as goal

abbrev pub invariant-loop-number : goal.invariant-loop-number
invariant-loop-number l = string_bytes l.text ≡ string_bytes l.initial.text ++ lines_from (connection_item l.report (known_of l.sources)) 0 (take l.number l.faults)
