use Rattle.std.proofs.Common.{◌∙◌, codes, sym}
use Rattle.clap.specs.Words.{found_of}
use Rattle.clap.proofs.WalkLemmas.{first_value-rows}
use Rattle.lfi_command_line.proofs.given.report_options.Goals as goal

pub returns-in-Ok-clause-asked : goal.returns-in-Ok-clause-asked
returns-in-Ok-clause-asked c = (c.is_given.ensures, sym (first_value-rows (found_of c.args.matches.now) (codes "out")) ∙ sym c.get_str.ensures, c.in-Ok.ensures.format)
