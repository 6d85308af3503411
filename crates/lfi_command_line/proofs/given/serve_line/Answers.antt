use Rattle.std.proofs.Common.{◌∙◌, codes, option_map, refl, sym, ap}
use Rattle.clap.specs.Words.{found_of}
use Rattle.clap.proofs.CallerLemmas.{some_of_text}
use Rattle.clap.proofs.WalkLemmas.{first_value-rows}
use Rattle.lfi_command_line.proofs.Asked.{number_has}
use Rattle.lfi_command_line.proofs.given.serve_line.Goals as goal

pub unwrap-requires : goal.unwrap-requires
unwrap-requires c = some_of_text _ c.get_str.result _ (c.get_str.ensures ∙ first_value-rows (found_of c.args.serve.now) (codes "socket")) c.requires.socket

pub returns-in-Ok-clause-line : goal.returns-in-Ok-clause-line
returns-in-Ok-clause-line c = (
  refl,
  c.in-Ok.ensures.asked,
  sym (first_value-rows (found_of c.args.serve.now) (codes "socket")) ∙ sym c.get_str.ensures ∙ ap (option_map (λ s. s.now)) c.unwrap.ensures,
  number_has 0 1 8 _ c.number_or.result c.requires.connections (c.number_or.ensures 1 8 c.requires.connection_count),
  c.number_or-in-Ok.ensures 1 8 c.requires.verifiers,
  c.number_if_any.ensures 1 86400 c.requires.seconds,
)
