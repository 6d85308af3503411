use Rattle.std.proofs.Common.{◌∙◌, codes, option_map, refl, sym, ap}
use Rattle.clap.specs.Words.{found_of}
use Rattle.clap.proofs.CallerLemmas.{some_of_text}
use Rattle.clap.proofs.WalkLemmas.{first_value-rows}
use Rattle.lfi_command_line.proofs.given.unpack_line.Goals as goal

pub unwrap-requires : goal.unwrap-requires
unwrap-requires c = some_of_text _ c.get_str.result _ (c.get_str.ensures ∙ first_value-rows (found_of c.args.unpack.now) (codes "IMAGE")) c.requires.image

pub returns : goal.returns
returns c = (refl, sym (first_value-rows (found_of c.args.unpack.now) (codes "IMAGE")) ∙ sym c.get_str.ensures ∙ ap (option_map (λ s. s.now)) c.unwrap.ensures)
