use Rattle.std.proofs.Common.{◌∙◌, codes, sym, ap}
use Rattle.clap.specs.Words.{found_of}
use Rattle.clap.proofs.WalkLemmas.{first_value-rows}
use Rattle.lfi_command_line.specs.CommandLine.{format_named}
use Rattle.lfi_command_line.proofs.given.format_of.Goals as goal

pub returns-in-Some-clause-format : goal.returns-in-Some-clause-format
returns-in-Some-clause-format c =
    ap format_named (sym (first_value-rows (found_of c.args.matches.now) (codes "format")) ∙ sym c.get_str.ensures) ∙ sym c.format_named.ensures ∙ c.in-Some.is

pub returns-in-None-clause-fault : goal.returns-in-None-clause-fault
returns-in-None-clause-fault c =
    ap format_named (sym (first_value-rows (found_of c.args.matches.now) (codes "format")) ∙ sym c.get_str.ensures) ∙ sym c.format_named.ensures ∙ c.in-None.is
