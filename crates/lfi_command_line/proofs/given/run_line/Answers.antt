use Rattle.std.proofs.Common.{◌∙◌, codes, option_map, refl, sym, ap}
use Rattle.clap.specs.Words.{found_of}
use Rattle.clap.proofs.CallerLemmas.{some_of_text}
use Rattle.clap.proofs.WalkLemmas.{first_value-rows}
use Rattle.lfi_command_line.proofs.Asked.{number_has}
use Rattle.lfi_command_line.proofs.given.run_line.Goals as goal

pub unwrap-requires : goal.unwrap-requires
unwrap-requires c = some_of_text _ c.get_str.result _ (c.get_str.ensures ∙ first_value-rows (found_of c.args.run.now) (codes "IMAGE")) c.requires.image

pub returns-in-Ok-clause-line : goal.returns-in-Ok-clause-line
returns-in-Ok-clause-line c = (
  refl,
  sym (first_value-rows (found_of c.args.run.now) (codes "IMAGE")) ∙ sym c.get_str.ensures ∙ ap (option_map (λ s. s.now)) c.unwrap.ensures,
  number_has 0 0 1000000000 _ c.number_or.result c.requires.steps (c.number_or.ensures 0 1000000000 c.requires.number),
  c.in-Ok.ensures.format,
)
