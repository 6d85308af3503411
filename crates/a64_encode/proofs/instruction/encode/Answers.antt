use Rattle.std.proofs.Common.{◌≡◌, ℕ, true, sym, ◌∙◌, Option, Some, None}
use Rattle.lfi_module.specs.declared.profile.Profile.{Profile}
use Rattle.a64_word.specs.declared.instruction.Instruction.{Instruction}
use Rattle.a64_encode.specs.inner.Encoding.{Encodes}
use Rattle.a64_word.specs.Profiles.{is_of}
use Rattle.a64_encode.specs.Encoding.{EncodesIn}
use Rattle.a64_encode.proofs.instruction.encode.Goals as goal

encodes_in : (p : Profile) (i : Instruction) (found : Option ℕ) → is_of p i ≡ true → Encodes i found → EncodesIn p i found
encodes_in p i None has none = λ word s. none word s.spells
encodes_in p i (Some word) has spells = record { spells = spells; of_profile = has }

pub returns : goal.returns
returns c = encodes_in c.args.profile c.args.instruction.now c.word_in_any.result (sym c.is_of.ensures ∙ c.if-not-is_of.false) c.word_in_any.ensures
