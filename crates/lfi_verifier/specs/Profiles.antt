-- The profiles by which code is judged, and what a host is told of them.
use Rattle.std.specs.Prelude.{◌≡◌, ◌≢◌, ℕ, ◌+◌}
use Rattle.lfi_module.specs.declared.profile.Profile.{Profile}
use Rattle.lfi_module.specs.Profiles.{profile_number}
use Rattle.lfi_rules.specs.Map as the_map
use Rattle.lfi_rules.specs.Registers as registers
use Rattle.lfi_confinement.specs.Slots as slot
use Rattle.lfi_verifier.specs.declared.profile.LfiMap.{LfiMap}
use Rattle.lfi_verifier.specs.declared.profile.LfiRegisters.{LfiRegisters}

-- there is no profile with this number
abbrev pub IsUnknown : ℕ → Type 0
IsUnknown number = (profile : Profile) → profile_number profile ≢ number

-- The map tells where the parts of the slot lie that begins at `from`, as code that was found lawful is confined to it.
pub record IsMapOf (from : ℕ) (map : LfiMap) : Type 0 where
  pub base : map.base ≡ from
  pub size : map.size ≡ the_map.slot_size
  pub guard : map.guard ≡ the_map.guard_size
  pub table : map.table ≡ the_map.table_bytes
  pub code : map.code ≡ the_map.code_offset
  pub entry : map.entry ≡ slot.entry_address 0
  pub next : map.entry + map.entry_step ≡ slot.entry_address 1
  pub entries : map.entries ≡ the_map.entry_count

-- The numbers are those of the registers that are to be lawful.
pub record AreRegisters (told : LfiRegisters) : Type 0 where
  pub base : told.base ≡ registers.base
  pub offset : told.offset ≡ registers.offset
  pub first_address : told.first_address ≡ registers.first_address
  pub second_address : told.second_address ≡ registers.second_address
  pub third_address : told.third_address ≡ registers.third_address
  pub link : told.link ≡ registers.link
  pub stack_reach : told.stack_reach ≡ the_map.stack_reach
