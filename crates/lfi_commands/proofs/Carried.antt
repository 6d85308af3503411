-- Lines by what they need.
use Rattle.std.proofs.Common.{◌≡◌, refl}
use Rattle.lfi_command_line.specs.declared.line.Line.{Line}
use Rattle.lfi_command_line.specs.declared.line.Line.TheVariants.{Check, Load, Serve, Run, Disassemble, Pack, Unpack, Info}
use Rattle.lfi_command_line.specs.declared.options.LoadOptions.{LoadOptions}
use Rattle.lfi_command_line.specs.declared.options.ServeOptions.{ServeOptions}
use Rattle.lfi_commands.specs.inner.Ranges.{IsForFiles, IsInRange}

-- what neither loads nor serves needs no threads
pub for_files : (line : Line) → ((asked : LoadOptions) → line ≡ Load asked → ⊥) → ((asked : ServeOptions) → line ≡ Serve asked → ⊥) → IsInRange line → IsForFiles line
for_files (Check asked) no_load no_serve within = within
for_files (Load asked) no_load no_serve within = absurd (no_load asked refl)
for_files (Serve asked) no_load no_serve within = absurd (no_serve asked refl)
for_files (Run asked) no_load no_serve within = within
for_files (Disassemble asked) no_load no_serve within = within
for_files (Pack asked) no_load no_serve within = within
for_files (Unpack asked) no_load no_serve within = within
for_files (Info asked) no_load no_serve within = within
