-- The numbers of this project's profile that speak of modules. Source: this project's profile, docs/PROFILE.md.
use Rattle.std.specs.Prelude.{ℕ, ◌+◌, ◌*◌, ◌^◌}

-- how many modules there are, and slots for them
abbrev pub module_count : ℕ
module_count = 16

-- the most words of a module
abbrev pub most_words : ℕ
most_words = 4194304

-- the words of a full small page
abbrev pub small_page : ℕ
small_page = 1024

-- the words of a full large page
abbrev pub large_page : ℕ
large_page = 4096

-- where a slot begins
abbrev pub base_of : ℕ → ℕ
base_of slot = (2 * slot + 1) * 2 ^ 32
