-- Inputs of files that were opened. Source: this project's profile, docs/COMMANDS.md.
use Rattle.std.specs.Prelude.{◌≡◌, ℕ, List, Option, Some, IfSome, slice_get, length}
use Rattle.lfi_receive.specs.declared.input.Input.{Input}
use Rattle.lfi_receive.specs.Inputs.{left_of}

-- it has all of this text left, where that is known
abbrev pub IsInputOf : {R : Type 0} → (R → Option (List ℕ)) → Option (List ℕ) → Input R → Type 0
IsInputOf remaining text input = IfSome text (λ bytes. left_of remaining input ≡ Some bytes)

-- one for each text, in order
pub record AreInputsOf {R : Type 0} (remaining : R → Option (List ℕ)) (texts : List (Option (List ℕ))) (inputs : List (Input R)) : Type 0 where
  pub all : length inputs ≡ length texts
  pub each : (c : ℕ) (input : Input R) (text : Option (List ℕ)) → slice_get inputs c ≡ Some input → slice_get texts c ≡ Some text → IsInputOf remaining text input
