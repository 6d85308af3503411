-- The first bytes of a file.
use Rattle.std.proofs.Common.{◌≡◌, ℕ, ◌≤◌, List, [], ◌∷◌, length, refl, arith}
use Rattle.lfi_file_commands.specs.Kinds.{file_kind}
use Rattle.lfi_file_commands.specs.declared.kind.FileKind.TheVariants.{Plain}

pub kind_of_few : (bytes : List ℕ) → length bytes ≤ 3 → Plain ≡ file_kind bytes
kind_of_few [] few = refl
kind_of_few (a ∷ []) few = refl
kind_of_few (a ∷ b ∷ []) few = refl
kind_of_few (a ∷ b ∷ c ∷ []) few = refl
kind_of_few (a ∷ b ∷ c ∷ d ∷ rest) few = absurd (omega (arith, few))
