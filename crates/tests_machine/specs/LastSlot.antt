-- An image in the last slot, by the second profile, and states at the edges of that slot.
use Rattle.std.specs.Prelude.{ℕ, [], ◌∷◌, replicate}
use Rattle.lfi_confinement.specs.Moves.{State}
use Rattle.lfi_module.specs.declared.profile.Profile.TheVariants.{Two}
use Rattle.lfi_image.specs.Image.{Image}

-- an image of three words in slot 15, which begins at 31 * 2 ^ 32, entered at word 1
abbrev pub last_image : Image
last_image = record { profile = Two; entry = 1; slot = 15; words = 0xD503201F ∷ 0xD503201F ∷ 0xD503201F ∷ [] }

-- pc is this and x0 that, x1 is 1, all else is 0
abbrev pub at_last : (pc x0 : ℕ) → State
at_last pc x0 = record { registers = record { x = x0 ∷ 1 ∷ replicate 29 0; sp = 0; pc = pc; nzcv = 0 }; data_at = λ offset. 0 }
