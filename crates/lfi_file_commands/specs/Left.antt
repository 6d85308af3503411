-- What a run of the program leaves behind. Source: this project's profile, docs/COMMANDS.md.
use Rattle.std.specs.Prelude.{◌≡◌, ℕ, Bool, List, Option}

-- what is there before a run and after it: the output, the files put, the errors, and whether some of these are lost
pub record Left : Type 0 where
  pub out : Option (List ℕ)
  pub put : Option (List (List ℕ × List ℕ))
  pub is_lost : Bool
  pub errors : Option (List ℕ)

-- what is left in outputs, of its four parts
abbrev pub left : Option (List ℕ) → Option (List (List ℕ × List ℕ)) → Bool → Option (List ℕ) → Left
left out put is_lost errors = record { out = out; put = put; is_lost = is_lost; errors = errors }

-- nothing was told on the errors
abbrev pub TellsNothing : (old new : Left) → Type 0
TellsNothing old new = (new.errors ≡ old.errors) × (new.is_lost ≡ old.is_lost)

-- nothing was put, and nothing was told on the errors: the output alone may be another one
abbrev pub OnlyOutput : (old new : Left) → Type 0
OnlyOutput old new = (new.put ≡ old.put) × TellsNothing old new
