use Rattle.std.proofs.Common.{◌≡◌, ◌++◌, ℕ, List, take}
use Rattle.std.specs.Prelude.{string_bytes}
use Rattle.lfi_commands.specs.Objects.{TellModules}
use Rattle.lfi_commands.proofs.objects.push_modules.Given as goal

abbrev pub invariant-loop-number : goal.invariant-loop-number
invariant-loop-number l =
    (told : List ℕ) × TellModules l.explain l.holders 0 (take l.number l.modules) told × (string_bytes l.text ≡ string_bytes l.initial.text ++ told)
