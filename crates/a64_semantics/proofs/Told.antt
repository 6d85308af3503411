-- The places of an instruction's results are the registers that its effects tell.
use Rattle.std.proofs.Common.{◌≡◌, ℕ, ◌^◌, Bool, true, false, cond, List, [], ◌∷◌, refl, ap, ◌∙◌, eqb}
use Rattle.a64_word.specs.declared.instruction.Instruction.{Instruction}
use Rattle.a64_word.specs.declared.instruction.Instruction.TheVariants as instruction
use Rattle.a64_word.specs.declared.operands.Width.{Width}
use Rattle.a64_word.specs.declared.operands.Width.TheVariants as widths
use Rattle.a64_word.specs.declared.operands.Size.{Size}
use Rattle.a64_word.specs.declared.operands.Transfer.{Transfer}
use Rattle.a64_word.specs.Operands.{size_code}
use Rattle.a64_effects.specs.declared.access.Address.{Address}
use Rattle.a64_effects.specs.Uses.{Use, general, or_sp}
use Rattle.a64_effects.specs.Effects.{ordered_transfer, writes_of, is_store, data_width, changes_base, form_of_mode, form_of_pair_mode, pair_offset, pair_bytes}
use Rattle.a64_semantics.specs.declared.registers.Registers.{Registers}
use Rattle.a64_semantics.specs.Registers.{Write, to_general, to_or_sp, x_or_sp_at}
use Rattle.a64_semantics.specs.Accesses.{displaced, loaded}
use Rattle.a64_semantics.specs.Writes.{to_sp_unless, linked, to_base, to_loaded, results_of, places_of}

places_if : (b : Bool) (x y : List Write) → places_of (cond b x y) ≡ cond b (places_of x) (places_of y)
places_if true x y = refl
places_if false x y = refl

same_if : (b : Bool) (x y : List Use) (v w : List Use) → x ≡ v → y ≡ w → cond b x y ≡ cond b v w
same_if true x y v w e f = e
same_if false x y v w e f = f

pub general_told : (n : ℕ) (width : Width) (value : ℕ) (writes : List Write) (uses : List Use) → places_of writes ≡ uses
    → places_of (to_general n width value writes) ≡ general n width uses
general_told n width value writes uses e =
    places_if (eqb n 31) writes (record { place = record { register = n; width = width }; value = value } ∷ writes)
    ∙ same_if (eqb n 31) (places_of writes) (record { register = n; width = width } ∷ places_of writes) uses (record { register = n; width = width } ∷ uses)
    e (ap (λ (l : List Use). record { register = n; width = width } ∷ l) e)

sp_unless_told : (flags : Bool) (n : ℕ) (width : Width) (value : ℕ)
    → places_of (to_sp_unless flags n width value) ≡ cond flags (general n width []) (or_sp n width [])
sp_unless_told true n width value = general_told n width value [] [] refl
sp_unless_told false n width value = refl

linked_told : (links : Bool) (r : Registers) → places_of (linked links r) ≡ cond links (general 30 widths.X []) []
linked_told true r = refl
linked_told false r = refl

base_told : (a : Address) (r : Registers) → places_of (to_base a r) ≡ cond (changes_base a.form) (or_sp a.base widths.X []) []
base_told a r = places_if (changes_base a.form) (to_or_sp a.base widths.X (displaced (x_or_sp_at r a.base) a.offset) []) []

loaded_told : (size : Size) (transfer : Transfer) (rt : ℕ) (memory : ℕ → ℕ) (address : ℕ) (writes : List Write) (uses : List Use) → places_of writes ≡ uses
    → places_of (to_loaded size transfer rt memory address writes) ≡ cond (is_store transfer) uses (general rt (data_width size transfer) uses)
loaded_told size transfer rt memory address writes uses e =
    places_if (is_store transfer) writes (to_general rt (data_width size transfer) (loaded memory size transfer address) writes)
    ∙ same_if (is_store transfer) (places_of writes) (places_of (to_general rt (data_width size transfer) (loaded memory size transfer address) writes))
    uses (general rt (data_width size transfer) uses)
    e (general_told rt (data_width size transfer) (loaded memory size transfer address) writes uses e)

pair_told : (load : Bool) (rt rt2 : ℕ) (width : Width) (first second : ℕ) (writes : List Write) (uses : List Use) → places_of writes ≡ uses
    → places_of (cond load (to_general rt width first (to_general rt2 width second writes)) writes)
    ≡ cond load (general rt width (general rt2 width uses)) uses
pair_told true rt rt2 width first second writes uses e =
    general_told rt width first (to_general rt2 width second writes) (general rt2 width uses) (general_told rt2 width second writes uses e)
pair_told false rt rt2 width first second writes uses e = e

pub places_told : (i : Instruction) (r : Registers) (memory : ℕ → ℕ) → places_of (results_of i r memory) ≡ writes_of i
places_told (instruction.AddSubImmediate i) r memory = sp_unless_told i.set_flags i.rd i.width _
places_told (instruction.LogicalImmediate i) r memory = sp_unless_told _ i.rd i.width _
places_told (instruction.MoveWide i) r memory = general_told i.rd i.width _ [] [] refl
places_told (instruction.PcRelative i) r memory = general_told i.rd widths.X _ [] [] refl
places_told (instruction.Bitfield i) r memory = general_told i.rd i.width _ [] [] refl
places_told (instruction.LogicalShifted i) r memory = general_told i.rd i.width _ [] [] refl
places_told (instruction.AddSubShifted i) r memory = general_told i.rd i.width _ [] [] refl
places_told (instruction.AddSubExtended i) r memory = sp_unless_told i.set_flags i.rd i.width _
places_told (instruction.ConditionalCompare i) r memory = refl
places_told (instruction.ConditionalSelect i) r memory = general_told i.rd i.width _ [] [] refl
places_told (instruction.TwoSource i) r memory = general_told i.rd i.width _ [] [] refl
places_told (instruction.CountLeadingZeros i) r memory = general_told i.rd i.width _ [] [] refl
places_told (instruction.MultiplyAdd i) r memory = general_told i.rd i.width _ [] [] refl
places_told (instruction.MultiplyHigh i) r memory = general_told i.rd widths.X _ [] [] refl
places_told instruction.Nop r memory = refl
places_told (instruction.Branch i) r memory = linked_told i.link r
places_told (instruction.ConditionalBranch i) r memory = refl
places_told (instruction.CompareBranch i) r memory = refl
places_told (instruction.TestBranch i) r memory = refl
places_told (instruction.BranchRegister i) r memory = linked_told _ r
places_told (instruction.Breakpoint i) r memory = refl
places_told (instruction.UnsignedOffset i) r memory = loaded_told i.size i.transfer i.rt memory _ _ _ refl
places_told (instruction.SignedOffset i) r memory =
    let a : Address = record { base = i.rn; form = form_of_mode i.mode; offset = i.imm9; bytes = 2 ^ size_code i.size } in
    loaded_told i.size i.transfer i.rt memory _ _ _ (base_told a r)
places_told (instruction.RegisterOffset i) r memory = loaded_told i.size i.transfer i.rt memory _ _ _ refl
places_told (instruction.Pair i) r memory =
    let a : Address = record { base = i.rn; form = form_of_pair_mode i.mode; offset = pair_offset i.width i.imm7; bytes = pair_bytes i.width } in
    pair_told i.load i.rt i.rt2 i.width _ _ _ _ (base_told a r)
places_told (instruction.Ordered i) r memory = loaded_told i.size (ordered_transfer i.load) i.rt memory _ _ _ refl
