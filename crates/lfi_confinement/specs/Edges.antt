-- States at the edges of slot 0 and of its guards.
use Rattle.std.specs.Prelude.{ℕ, ◌+◌, ◌^◌, true, false, ℤ, pos, List, [], ◌∷◌, ◌++◌, replicate, Option, Some, None}
use Rattle.a64_word.specs.declared.instruction.Instruction.{Instruction}
use Rattle.a64_word.specs.declared.instruction.Instruction.TheVariants.{UnsignedOffset, SignedOffset, RegisterOffset, Ordered, Pair, Branch, ConditionalBranch, CompareBranch, TestBranch, BranchRegister}
use Rattle.a64_word.specs.declared.operands.Size.{Size}
use Rattle.a64_word.specs.declared.operands.Size.TheVariants.{Byte}
use Rattle.a64_word.specs.declared.operands.Transfer.TheVariants.{Load, Store}
use Rattle.a64_word.specs.declared.operands.Width.TheVariants.{X}
use Rattle.a64_word.specs.declared.operands.Condition.TheVariants.{Ne}
use Rattle.a64_word.specs.declared.operands.IndexMode.TheVariants.{Unscaled}
use Rattle.a64_word.specs.declared.operands.IndexExtend.TheVariants.{Uxtw}
use Rattle.a64_word.specs.declared.operands.PairMode.TheVariants.{Offset}
use Rattle.a64_word.specs.declared.operands.BranchKind.{BranchKind}
use Rattle.lfi_confinement.specs.Moves.{State, Move, go}
use Rattle.lfi_module.specs.declared.profile.Profile.TheVariants.{One}
use Rattle.lfi_image.specs.Image.{Image}

-- an image of one word in slot 0, which begins at 2 ^ 32
abbrev pub edge_image : Image
edge_image = record { profile = One; entry = 0; slot = 0; words = 0xD503201F ∷ [] }

-- x0 holds this, all else but pc is 0
abbrev pub with_x0 : ℕ → State
with_x0 value = record { registers = record { x = value ∷ replicate 30 0; sp = 0; pc = 2 ^ 32 + 65536; nzcv = 0 }; data_at = λ offset. 0 }

-- x30 holds this, all else but pc is 0
abbrev pub with_x30 : ℕ → State
with_x30 value = record { registers = record { x = replicate 30 0 ++ value ∷ []; sp = 0; pc = 2 ^ 32 + 65536; nzcv = 0 }; data_at = λ offset. 0 }

-- LDR of 1, 2, 4 or 8 bytes, [X0]
abbrev pub loads_at_x0 : Size → Instruction
loads_at_x0 size = UnsignedOffset (record { size = size; transfer = Load; imm12 = 0; rn = 0; rt = 0 })

-- LDP X1, X2, [X0]
abbrev pub loads_pair_at_x0 : Instruction
loads_pair_at_x0 = Pair (record { width = X; load = true; mode = Offset; imm7 = pos 0; rt2 = 2; rn = 0; rt = 1 })

-- BR, BLR or RET, through a register
abbrev pub goes_to : BranchKind → (register : ℕ) → Instruction
goes_to kind register = BranchRegister (record { kind = kind; rn = register })

-- STRB by an unsigned offset, by a signed one and by a register, and STLRB: at [X0], where x2 is 0
abbrev pub stores_at_x0 : List Instruction
stores_at_x0 =
    UnsignedOffset (record { size = Byte; transfer = Store; imm12 = 0; rn = 0; rt = 1 }) ∷
    SignedOffset (record { size = Byte; transfer = Store; mode = Unscaled; imm9 = pos 0; rn = 0; rt = 1 }) ∷
    RegisterOffset (record { size = Byte; transfer = Store; rm = 2; extend = Uxtw; scaled = false; rn = 0; rt = 1 }) ∷
    Ordered (record { size = Byte; load = false; rn = 0; rt = 1 }) ∷ []

-- STP X1, X2, [X0]
abbrev pub stores_pair_at_x0 : Instruction
stores_pair_at_x0 = Pair (record { width = X; load = false; mode = Offset; imm7 = pos 0; rt2 = 2; rn = 0; rt = 1 })

-- pc is this, x0 the address of a byte of the data, x1 is 1, all else is 0
abbrev pub with_pc : ℕ → State
with_pc pc = record { registers = record { x = (2 ^ 32 + 69632) ∷ 1 ∷ replicate 29 0; sp = 0; pc = pc; nzcv = 0 }; data_at = λ offset. 0 }

-- B, BL, B.NE, CBZ X2, CBNZ X1, TBZ X2 and TBNZ X1, by a number of words: at `with_pc` all of them are taken
abbrev pub branches_by : ℤ → List Instruction
branches_by offset =
    Branch (record { link = false; offset = offset }) ∷
    Branch (record { link = true; offset = offset }) ∷
    ConditionalBranch (record { condition = Ne; offset = offset }) ∷
    CompareBranch (record { width = X; nonzero = false; offset = offset; rt = 2 }) ∷
    CompareBranch (record { width = X; nonzero = true; offset = offset; rt = 1 }) ∷
    TestBranch (record { bit = 0; nonzero = false; offset = offset; rt = 2 }) ∷
    TestBranch (record { bit = 0; nonzero = true; offset = offset; rt = 1 }) ∷ []

-- where a move goes on, if it does
abbrev pub goes_on_at : Move → Option ℕ
goes_on_at (go after offset bytes) = Some after.pc
goes_on_at move = None
