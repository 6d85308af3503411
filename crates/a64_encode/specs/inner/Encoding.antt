-- What encoding gives, of whatever profile.
use Rattle.std.specs.Prelude.{ℕ, Option, Some, None}
use Rattle.a64_word.specs.declared.instruction.Instruction.{Instruction}
use Rattle.a64_word.specs.Encoding.{Spells}

-- What encoding gives: the word of the instruction, or that it has none.
abbrev pub Encodes : Instruction → Option ℕ → Type 0
Encodes i None = (word : ℕ) → Spells i word → ⊥
Encodes i (Some word) = Spells i word
