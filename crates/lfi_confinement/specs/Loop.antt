-- A module that is lawful and runs on for ever: it stores, loads, calls the runtime, calls a function of its own, and returns.
use Rattle.std.specs.Prelude.{◌≡◌, ℕ, ◌+◌, ◌^◌, List, [], ◌∷◌}
use Rattle.lfi_confinement.specs.Slots.{base, word_address}
use Rattle.lfi_confinement.specs.Lawful.{Held}
use Rattle.lfi_confinement.specs.Moves.{State}
use Rattle.lfi_module.specs.declared.profile.Profile.TheVariants.{One}
use Rattle.lfi_image.specs.Image.{Image}

-- the words of a loop that stores, loads, calls its runtime, links and returns
abbrev pub loop_words : List ℕ
loop_words =
    -- 0: STR X0, [SP]
    0xF90003E0 ∷
    -- 1: LDR X1, [SP]
    0xF94003E1 ∷
    -- 2: LDR X30, [X21], the first entry of the table
    0xF94002BE ∷
    -- 3: BLR X30, which calls the runtime
    0xD63F03C0 ∷
    -- 4: BL to word 6
    0x94000002 ∷
    -- 5: B to word 0
    0x17FFFFFB ∷
    -- 6: RET
    0xD65F03C0 ∷ []

-- in the first slot
abbrev pub loop_image : Image
loop_image = record { profile = One; entry = 0; slot = 0; words = loop_words }

-- lawful registers at word 0, with sp in the middle of the slot
pub record StartsLoop (s : State) : Type 0 where
  pub held : Held (base loop_image) s.registers
  pub stack : s.registers.sp ≡ base loop_image + 2 ^ 31
  pub pc : s.registers.pc ≡ word_address (base loop_image) 0
