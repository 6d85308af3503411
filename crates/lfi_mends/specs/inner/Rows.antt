-- The instructions of mends of plain accesses.
use Rattle.std.specs.Prelude.{ℕ, ℤ, pos, negsuc, ◌-◌, ◌/◌, ◌%◌, ◌==◌, ◌&&◌, not, if◌then◌else◌, Bool, true, false, ◌||◌, List, [], ◌∷◌, ◌++◌, Option, Some}
use Rattle.a64_word.specs.declared.instruction.Instruction.{Instruction}
use Rattle.a64_word.specs.declared.instruction.Instruction.TheVariants as instructions
use Rattle.a64_word.specs.declared.operands.Width.{Width}
use Rattle.a64_word.specs.declared.operands.Width.TheVariants as widths
use Rattle.a64_word.specs.declared.operands.PairMode.TheVariants as pair_modes
use Rattle.a64_word.specs.declared.operands.IndexExtend.TheVariants as indexes
use Rattle.a64_word.specs.declared.operands.Extend.TheVariants as extends
use Rattle.a64_word.specs.Operands.{size_code}
use Rattle.a64_word.specs.declared.operands.Size.{Size}
use Rattle.a64_word.specs.declared.operands.Size.TheVariants as sizes
use Rattle.a64_word.specs.declared.operands.Transfer.{Transfer}
use Rattle.a64_word.specs.declared.operands.Transfer.TheVariants as transfers
use Rattle.a64_word.specs.declared.operands.Logical.TheVariants as logicals
use Rattle.a64_word.specs.declared.operands.Shift.TheVariants as shifts
use Rattle.a64_effects.specs.Effects.{is_store}
use Rattle.a64_semantics.specs.Accesses.{register_bytes}
use Rattle.lfi_rules.specs.Needs.{is_load_64}
use Rattle.lfi_mends.specs.Outcomes.{probe}
use Rattle.lfi_mends.specs.Registers.{is_reserved, may_move, may_move_two, spare}

-- ADD or SUB Wd, Wn, #imm12
abbrev pub sum_of_immediate : (into : ℕ) → (subtract shifted : Bool) → (imm12 rn : ℕ) → Instruction
sum_of_immediate into subtract shifted imm12 rn =
    instructions.AddSubImmediate (record { width = widths.W; subtract = subtract; set_flags = false; shifted = shifted; imm12 = imm12; rn = rn; rd = into })

-- a single access at x21 and a W register
abbrev pub access_of : Size → Transfer → (rm rt : ℕ) → Instruction
access_of size transfer rm rt =
    instructions.RegisterOffset (record { size = size; transfer = transfer; rm = rm; extend = indexes.Uxtw; scaled = false; rn = 21; rt = rt })

-- a base alone is an address: it isn't sp
abbrev pub is_bare : (rn bytes : ℕ) → Bool
is_bare rn bytes = bytes == 0 && not (rn == 31)

-- the register that holds the sum of a base and a distance
abbrev pub index_of : (sum rn bytes : ℕ) → ℕ
index_of sum rn bytes = if is_bare rn bytes then rn else sum

-- the sum of a base and a distance, where that isn't the base alone
abbrev pub sums : (sum rn : ℕ) → (below : Bool) → (bytes : ℕ) → List Instruction
sums sum rn below bytes =
    if is_bare rn bytes then [] else (if bytes / 4096 == 0 then sum_of_immediate sum below false (bytes % 4096) rn ∷ []
    else (if bytes % 4096 == 0 then sum_of_immediate sum below true (bytes / 4096) rn ∷ []
    else sum_of_immediate sum below true (bytes / 4096) rn ∷ sum_of_immediate sum below false (bytes % 4096) sum ∷ []))

-- an access at a base and a distance
abbrev pub accessed : Size → Transfer → (rt rn : ℕ) → (below : Bool) → (bytes : ℕ) → List Instruction
accessed size transfer rt rn below bytes = sums 22 rn below bytes ++ access_of size transfer (index_of 22 rn bytes) rt ∷ []

-- a distance as a number
abbrev pub offset_of : (below : Bool) → (bytes : ℕ) → ℤ
offset_of true bytes = negsuc (bytes - 1)
offset_of false bytes = pos bytes

-- ADD Wd, Wn, Wm, UXTW #amount
abbrev pub sum_of_index : (into amount rm rn : ℕ) → Instruction
sum_of_index into amount rm rn =
    instructions.AddSubExtended (record { width = widths.W; subtract = false; set_flags = false; extend = extends.Uxtw; amount = amount; rm = rm; rn = rn; rd = into })

-- by how many places an index is shifted
abbrev pub amount_of : Size → (scaled : Bool) → ℕ
amount_of size scaled = if scaled then size_code size else 0

-- an access at a base and an index
abbrev pub indexed : (sum : ℕ) → Size → Transfer → (rt rn rm amount : ℕ) → List Instruction
indexed sum size transfer rt rn rm amount = sum_of_index sum amount rm rn ∷ access_of size transfer sum rt ∷ []

-- ADD or SUB Xn, Xn, #imm12
abbrev pub changed_of : (subtract : Bool) → (imm12 rn : ℕ) → Instruction
changed_of subtract imm12 rn =
    instructions.AddSubImmediate (record { width = widths.X; subtract = subtract; set_flags = false; shifted = false; imm12 = imm12; rn = rn; rd = rn })

-- an access at a base alone, which is changed before it or after it
abbrev pub changing : (before : Bool) → Size → Transfer → (rt rn : ℕ) → (below : Bool) → (bytes : ℕ) → List Instruction
changing true size transfer rt rn below bytes = changed_of below bytes rn ∷ access_of size transfer rn rt ∷ []
changing false size transfer rt rn below bytes = access_of size transfer rn rt ∷ changed_of below bytes rn ∷ []

-- ADD Xd, X21, Wm, UXTW
abbrev pub guard_of : (rd rm : ℕ) → Instruction
guard_of rd rm =
    instructions.AddSubExtended (record { width = widths.X; subtract = false; set_flags = false; extend = extends.Uxtw; amount = 0; rm = rm; rn = 21; rd = rd })

-- two registers at x18
abbrev pub pair_of : Width → (load : Bool) → (rt2 rt : ℕ) → Instruction
pair_of width load rt2 rt =
    instructions.Pair (record { width = width; load = load; mode = pair_modes.Offset; imm7 = pos 0; rt2 = rt2; rn = 18; rt = rt })

-- a pair at a base and a distance
abbrev pub paired : (sum : ℕ) → Width → (load : Bool) → (rt2 rt rn : ℕ) → (below : Bool) → (bytes : ℕ) → List Instruction
paired sum width load rt2 rt rn below bytes = sums sum rn below bytes ++ guard_of 18 (index_of sum rn bytes) ∷ pair_of width load rt2 rt ∷ []

-- a pair at a base alone, which is changed before it or after it
abbrev pub changing_pair : (before : Bool) → Width → (load : Bool) → (rt2 rt rn : ℕ) → (below : Bool) → (bytes : ℕ) → List Instruction
changing_pair true width load rt2 rt rn below bytes = changed_of below bytes rn ∷ guard_of 18 rn ∷ pair_of width load rt2 rt ∷ []
changing_pair false width load rt2 rt rn below bytes = guard_of 18 rn ∷ pair_of width load rt2 rt ∷ changed_of below bytes rn ∷ []

-- LDAR and STLR at x18
abbrev pub ordered_of : Size → (load : Bool) → (rt : ℕ) → Instruction
ordered_of size load rt = instructions.Ordered (record { size = size; load = load; rn = 18; rt = rt })

-- an ordered access at a base
abbrev pub in_order : Size → (load : Bool) → (rt rn : ℕ) → List Instruction
in_order size load rt rn = sums 22 rn false 0 ++ guard_of 18 (index_of 22 rn 0) ∷ ordered_of size load rt ∷ []

-- ---- reserved registers

-- MOV Xd, Xm
abbrev pub move_of : (rd rm : ℕ) → Instruction
move_of rd rm =
    instructions.LogicalShifted (record { width = widths.X; operation = logicals.Orr; invert = false; shift = shifts.Lsl; amount = 0; rm = rm; rn = 31; rd = rd })

-- MOV W22, Wm
abbrev pub copy_of : (rm : ℕ) → Instruction
copy_of rm =
    instructions.LogicalShifted (record { width = widths.W; operation = logicals.Orr; invert = false; shift = shifts.Lsl; amount = 0; rm = rm; rn = 31; rd = 22 })

-- a reserved register that is written from a W register
abbrev pub put_of : (rd rm : ℕ) → Instruction
put_of rd rm = if rd == 22 then copy_of rm else guard_of rd rm

-- the register that a load goes to before it is put into a reserved one
abbrev pub scratch_of : (rn : ℕ) → ℕ
scratch_of rn = if rn == 16 then 17 else 16

-- the register that holds the sum for an access
abbrev pub sum_for : Transfer → (rt : ℕ) → ℕ
sum_for transfer rt = if rt == 22 && is_store transfer then 16 else 22

-- the register that holds the sum for a base that is changed
abbrev pub sum_beside : (rt : ℕ) → ℕ
sum_beside rt = if rt == 22 then 16 else 22

-- 64 bits are loaded into x30
abbrev pub loads_link : Size → Transfer → (rt : ℕ) → Bool
loads_link size transfer rt = is_load_64 size transfer && rt == 30

-- a single access at x21 and a W register: of x30, of a register that it may move, or of another by a scratch register
abbrev pub access_with : Size → Transfer → (rm rt scratch : ℕ) → List Instruction
access_with size transfer rm rt scratch =
    if loads_link size transfer rt then access_of sizes.Double transfers.Load rm 30 ∷ guard_of 30 30 ∷ []
    else (if may_move transfer rt then access_of size transfer rm rt ∷ [] else access_of size transfer rm scratch ∷ put_of rt scratch ∷ [])

-- an access of any register at a base and a distance
abbrev pub any_accessed : Size → Transfer → (rt rn : ℕ) → (below : Bool) → (bytes : ℕ) → List Instruction
any_accessed size transfer rt rn below bytes =
    sums (sum_for transfer rt) rn below bytes ++ access_with size transfer (index_of (sum_for transfer rt) rn bytes) rt (scratch_of rn)

-- an access of any register at a base and an index
abbrev pub any_indexed : Size → Transfer → (rt rn rm amount : ℕ) → List Instruction
any_indexed size transfer rt rn rm amount = sum_of_index (sum_for transfer rt) amount rm rn ∷ access_with size transfer (sum_for transfer rt) rt (scratch_of rn)

-- a base that is changed, but for sp
abbrev pub change_of : (sum rn : ℕ) → (below : Bool) → (bytes : ℕ) → List Instruction
change_of sum rn below bytes =
    if rn == 22 then sum_of_immediate 22 below false bytes 22 ∷ []
    else (if is_reserved rn then sum_of_immediate sum below false bytes rn ∷ guard_of rn sum ∷ [] else changed_of below bytes rn ∷ [])

-- an access of any register at a base alone, which is changed before it or after it
abbrev pub any_changing : (before : Bool) → Size → Transfer → (rt rn : ℕ) → (below : Bool) → (bytes : ℕ) → List Instruction
any_changing true size transfer rt rn below bytes = change_of (sum_beside rt) rn below bytes ++ access_with size transfer rn rt (scratch_of rn)
any_changing false size transfer rt rn below bytes = access_with size transfer rn rt (scratch_of rn) ++ change_of (sum_beside rt) rn below bytes

-- an access of any register at sp, which is changed before it or after it
abbrev pub stack_changing : (before : Bool) → Size → Transfer → (rt rn : ℕ) → (below : Bool) → (bytes : ℕ) → List Instruction
stack_changing true size transfer rt rn below bytes = changed_of below bytes rn ∷ probe ∷ any_accessed size transfer rt rn false 0
stack_changing false size transfer rt rn below bytes = any_accessed size transfer rt rn false 0 ++ changed_of below bytes rn ∷ probe ∷ []

-- a pair stores x18
abbrev pub stores_first : (load : Bool) → (rt2 rt : ℕ) → Bool
stores_first load rt2 rt = not load && (rt == 18 || rt2 == 18)

-- the register that holds sums for a pair
abbrev pub pair_sum : (load : Bool) → (rt2 rt rn : ℕ) → Option ℕ
pair_sum load rt2 rt rn = if load then Some 22 else spare rt rt2 rn

-- two registers at x18; where one is x30, which is loaded, with its guard
abbrev pub pair_with : Width → (load : Bool) → (rt2 rt : ℕ) → List Instruction
pair_with width load rt2 rt = if may_move_two load rt2 rt then pair_of width load rt2 rt ∷ [] else pair_of widths.X true rt2 rt ∷ guard_of 30 30 ∷ []

-- a pair of any registers at a base and a distance
abbrev pub any_paired : (sum : ℕ) → Width → (load : Bool) → (rt2 rt rn : ℕ) → (below : Bool) → (bytes : ℕ) → List Instruction
any_paired sum width load rt2 rt rn below bytes = sums sum rn below bytes ++ guard_of 18 (index_of sum rn bytes) ∷ pair_with width load rt2 rt

-- a pair of any registers at a base alone, which is changed before it or after it
abbrev pub any_changing_pair : (before : Bool) → (sum : ℕ) → Width → (load : Bool) → (rt2 rt rn : ℕ) → (below : Bool) → (bytes : ℕ) → List Instruction
any_changing_pair true sum width load rt2 rt rn below bytes = change_of sum rn below bytes ++ guard_of 18 rn ∷ pair_with width load rt2 rt
any_changing_pair false sum width load rt2 rt rn below bytes = guard_of 18 rn ∷ pair_with width load rt2 rt ++ change_of sum rn below bytes

-- an ordered access of a reserved register at a base: x30 is loaded with its guard, and of any other a copy is stored
abbrev pub in_order_reserved : Size → (load : Bool) → (rt rn : ℕ) → List Instruction
in_order_reserved size true rt rn = sums 22 rn false 0 ++ guard_of 18 (index_of 22 rn 0) ∷ ordered_of sizes.Double true 30 ∷ guard_of 30 30 ∷ []
in_order_reserved size false rt rn = move_of (scratch_of rn) rt ∷ in_order size false (scratch_of rn) rn

-- by the size of a register of a pair
abbrev pub size_of : Width → Size
size_of widths.W = sizes.Word
size_of widths.X = sizes.Double

-- two stores one after another, at a W register and behind it
abbrev pub two_stores : Width → (rt2 rt index sum : ℕ) → List Instruction
two_stores width rt2 rt index sum =
    access_of (size_of width) transfers.Store index rt ∷ sum_of_immediate sum false false (register_bytes width) index
    ∷ access_of (size_of width) transfers.Store sum rt2 ∷ []

-- two stores at a base and a distance
abbrev pub stored_at : (sum : ℕ) → Width → (rt2 rt rn : ℕ) → (below : Bool) → (bytes : ℕ) → List Instruction
stored_at sum width rt2 rt rn below bytes = sums sum rn below bytes ++ two_stores width rt2 rt (index_of sum rn bytes) sum

-- two stores at a base alone, which is changed before them or after them
abbrev pub changing_stored : (before : Bool) → (sum : ℕ) → Width → (rt2 rt rn : ℕ) → (below : Bool) → (bytes : ℕ) → List Instruction
changing_stored true sum width rt2 rt rn below bytes = change_of sum rn below bytes ++ two_stores width rt2 rt rn sum
changing_stored false sum width rt2 rt rn below bytes = two_stores width rt2 rt rn sum ++ change_of sum rn below bytes
