-- The map of a slot: what may be done with each byte of it and of its guards, and what the bytes hold that no step
-- changes. Source: this project's profile, docs/PROFILE.md.
use Rattle.std.specs.Prelude.{ℕ, ◌+◌, ◌-◌, ◌*◌, ◌/◌, ◌%◌, ◌^◌, ◌<◌, ◌≤◌, Bool, true, false, not, ◌&&◌, nat_lt, nat_le, ◌==◌, if◌then◌else◌, length, Option, Some, None, slice_index}
use Rattle.lfi_module.specs.Numbers.{base_of}
use Rattle.lfi_rules.specs.Map.{slot_size, guard_size, table_bytes, code_offset, first_entry, entry_step, entry_count}
use Rattle.lfi_image.specs.Image.{Image}

-- where an image's slot begins
abbrev pub base : Image → ℕ
base c = base_of c.slot

-- an address in the slot that begins at `from`
pub record InSlot (from address : ℕ) : Type 0 where
  pub low : from ≤ address
  pub high : address < from + slot_size

-- the same, as a test
abbrev pub is_in_slot : (from address : ℕ) → Bool
is_in_slot from address = nat_le from address && nat_lt address (from + slot_size)

-- `bytes` bytes from an address on lie in slot and guards.
abbrev pub is_guarded : (from address bytes : ℕ) → Bool
is_guarded from address bytes = nat_le from (address + guard_size) && nat_le (address + bytes) (from + slot_size + guard_size)

-- ---- the runtime's entries

-- where entry j is called: outside of all slots and guards
abbrev pub entry_address : ℕ → ℕ
entry_address j = first_entry + entry_step * j

-- the entry that is called at an address, if one is
abbrev pub entry_at : (address : ℕ) → Option ℕ
entry_at address =
    if nat_le first_entry address && nat_lt address (entry_address entry_count) && (address - first_entry) % entry_step == 0
    then Some ((address - first_entry) / entry_step) else None

-- ---- what lies where in the slot

-- where the bytes begin that may be written, in the slot of a module of n words: the code's end, rounded up to 4,096 bytes
abbrev pub data_offset : (n : ℕ) → ℕ
data_offset n = (code_offset + 4 * n + 4095) / 4096 * 4096

-- the address of word k
abbrev pub word_address : (from k : ℕ) → ℕ
word_address from k = from + code_offset + 4 * k

-- the place of the word that begins at an address, if one of the n words does
abbrev pub word_place : (from n address : ℕ) → Option ℕ
word_place from n address =
    if nat_le (word_address from 0) address && nat_lt address (word_address from n) && (address - word_address from 0) % 4 == 0
    then Some ((address - word_address from 0) / 4) else None

-- ---- permissions

pub data Permission : Type 0 where
  NoAccess : Permission
  Readable : Permission
  Writable : Permission

-- what may be done with the byte at an offset in the slot of a module of n words: the table, nothing, the code, and data
abbrev pub permission_in : (n offset : ℕ) → Permission
permission_in n offset =
    if nat_lt offset table_bytes then Readable else
    if nat_lt offset code_offset then NoAccess else
    if nat_lt offset (data_offset n) then Readable else
    if nat_lt offset slot_size then Writable else NoAccess

-- what may be done with the byte at an address: with those of the guards, and all others, nothing
abbrev pub permission_at : Image → (address : ℕ) → Permission
permission_at c address = if nat_le (base c) address then permission_in (length c.words) (address - base c) else NoAccess

-- a byte of this permission may be accessed so
abbrev pub is_permitted : (stores : Bool) → Permission → Bool
is_permitted stores NoAccess = false
is_permitted stores Readable = not stores
is_permitted stores Writable = true

-- ---- bytes

-- byte i of a number, the lowest first
abbrev pub byte_of : (value i : ℕ) → ℕ
byte_of value i = value / 2 ^ (8 * i) % 256

-- The byte at an offset: of the table of entries, 8 bytes each; of the code, 4 bytes a word and then zeros; and of the data.
abbrev pub byte_in : Image → (data_at : ℕ → ℕ) → (offset : ℕ) → ℕ
byte_in c data_at offset =
    if nat_lt offset table_bytes then byte_of (entry_address (offset / 8)) (offset % 8) else
    if nat_lt offset (data_offset (length c.words))
    then byte_of (slice_index c.words ((offset - code_offset) / 4)) ((offset - code_offset) % 4)
    else data_at offset

-- the same, by addresses
abbrev pub memory_of : Image → (data_at : ℕ → ℕ) → (address : ℕ) → ℕ
memory_of c data_at address = byte_in c data_at (address - base c)
