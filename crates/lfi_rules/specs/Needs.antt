-- What an instruction asks of the words after it. Source: this project's profiles, docs/PROFILE.md.
use Rattle.std.specs.Prelude.{ℕ, ◌-◌, ◌==◌, if◌then◌else◌, ◌&&◌, ◌||◌, nat_lt, not, Bool, true, false, ℤ, pos, negsuc}
use Rattle.lfi_module.specs.declared.profile.Profile.{Profile}
use Rattle.lfi_module.specs.declared.profile.Profile.TheVariants.{One, Two}
use Rattle.a64_word.specs.declared.instruction.Instruction.{Instruction}
use Rattle.a64_word.specs.declared.instruction.Instruction.TheVariants.{AddSubImmediate, BranchRegister, UnsignedOffset, SignedOffset, RegisterOffset, Ordered, Pair}
use Rattle.a64_word.specs.declared.operands.Size.{Size}
use Rattle.a64_word.specs.declared.operands.Size.TheVariants as sizes
use Rattle.a64_word.specs.declared.operands.Transfer.{Transfer}
use Rattle.a64_word.specs.declared.operands.Transfer.TheVariants as transfers
use Rattle.a64_word.specs.declared.operands.PairMode.{PairMode}
use Rattle.a64_word.specs.declared.operands.PairMode.TheVariants as pair_modes
use Rattle.a64_effects.specs.Effects.{is_blr, ordered_transfer}
use Rattle.lfi_rules.specs.declared.needs.Need.{Need}
use Rattle.lfi_rules.specs.declared.needs.Need.TheVariants.{Nothing, Call, Guard, Probe}
use Rattle.lfi_rules.specs.Guard.{is_x, guards_link}
use Rattle.lfi_rules.specs.Map.{entry_count}
use Rattle.lfi_rules.specs.Registers.{base, link, stack}

-- a single load of 64 bits
abbrev pub is_load_64 : Size → Transfer → Bool
is_load_64 sizes.Double transfers.Load = true
is_load_64 size transfer = false

-- an access of a pair that doesn't change its base
abbrev pub is_offset : PairMode → Bool
is_offset = elim [ pair_modes.Offset ↦ true | mode ↦ false ]

-- it is 0
abbrev pub is_zero : ℤ → Bool
is_zero = elim [ pos n ↦ n == 0 | negsuc n ↦ false ]

-- A load of 64 bits into x30.
abbrev pub loads_link : Instruction → Bool
loads_link (UnsignedOffset i) = is_load_64 i.size i.transfer && i.rt == link
loads_link (SignedOffset i) = is_load_64 i.size i.transfer && i.rt == link
loads_link (RegisterOffset i) = is_load_64 i.size i.transfer && i.rt == link
loads_link (Pair i) = i.load && is_x i.width && (i.rt == link || i.rt2 == link)
loads_link (Ordered i) = is_load_64 i.size (ordered_transfer i.load) && i.rt == link
loads_link _ = false

-- The load of a table entry into x30: one of those from x21 up, of 8 bytes each.
abbrev pub loads_entry : Instruction → Bool
loads_entry = elim [ UnsignedOffset i ↦ is_load_64 i.size i.transfer && i.rt == link && i.rn == base && nat_lt i.imm12 entry_count | _ ↦ false ]

-- ADD or SUB of an immediate, from sp to sp.
abbrev pub moves_stack : Instruction → Bool
moves_stack = elim [ AddSubImmediate i ↦ is_x i.width && not i.set_flags && not i.shifted && i.rd == stack && i.rn == stack | _ ↦ false ]

-- among how many words after an instruction that moves sp the probe has to come
abbrev pub window : Profile → ℕ
window = elim [ One ↦ 1 | Two ↦ 4 ]

-- the need that an instruction opens
abbrev pub opens_of : Profile → Instruction → Need
opens_of profile i =
    if loads_entry i then Call else (if loads_link i then Guard else (if moves_stack i then Probe (window profile) else Nothing))

-- among how many words a need has to be met
abbrev pub term_of : Need → ℕ
term_of = elim [ Nothing ↦ 0 | Call ↦ 1 | Guard ↦ 1 | Probe count ↦ count ]

-- what is left of a need after `gone` words that may go by
abbrev pub rest_of : Need → ℕ → Need
rest_of (Probe count) gone = Probe (count - gone)
rest_of need gone = need

-- what is left of a need after one such word: nothing, where that was the last that might
abbrev pub waits : Need → Need
waits (Probe count) = if nat_lt 1 count then Probe (count - 1) else Nothing
waits need = Nothing

-- BLR X30
abbrev pub calls_link : Instruction → Bool
calls_link = elim [ BranchRegister i ↦ is_blr i.kind && i.rn == link | _ ↦ false ]

-- A load or store at sp.
abbrev pub probes_stack : Instruction → Bool
probes_stack (UnsignedOffset i) = i.rn == stack && i.imm12 == 0
probes_stack (Pair i) = is_offset i.mode && i.rn == stack && is_zero i.imm7
probes_stack _ = false

-- whether an instruction meets a need
abbrev pub meets_of : Instruction → Need → Bool
meets_of i Nothing = true
meets_of i Call = calls_link i
meets_of i Guard = guards_link i
meets_of i (Probe count) = probes_stack i
