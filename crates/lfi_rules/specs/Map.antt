-- Where the parts of a slot lie, and the entries of its runtime, in bytes. Source: this project's profile, docs/PROFILE.md.
use Rattle.std.specs.Prelude.{ℕ, ◌^◌}

-- the bytes of a slot
abbrev pub slot_size : ℕ
slot_size = 2 ^ 32

-- the bytes of each of its guards, one directly below the slot and one directly above
abbrev pub guard_size : ℕ
guard_size = 65536

-- the bytes of the table of entries, at the slot's beginning
abbrev pub table_bytes : ℕ
table_bytes = 4096

-- where the code begins
abbrev pub code_offset : ℕ
code_offset = 65536

-- the address at which the runtime's first entry is called
abbrev pub first_entry : ℕ
first_entry = 2 ^ 40

-- from one entry to the next
abbrev pub entry_step : ℕ
entry_step = 16

-- how many entries there are
abbrev pub entry_count : ℕ
entry_count = 512

-- how far sp may be from the slot
abbrev pub stack_reach : ℕ
stack_reach = 512
