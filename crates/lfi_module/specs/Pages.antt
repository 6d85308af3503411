-- A module's words, cut into pages of `size` words, of which only the last may have fewer. Source: this project's
-- profile, docs/PROFILE.md.
use Rattle.std.specs.Prelude.{◌≡◌, ◌⊎◌, ℕ, ◌+◌, ◌-◌, ◌*◌, ◌/◌, ◌==◌, ◌&&◌, nat_lt, min, Bool, true}
use Rattle.lfi_module.specs.Numbers.{small_page, large_page}
use Rattle.lfi_module.specs.declared.profile.Profile.{Profile}
use Rattle.lfi_module.specs.Profiles.{is_two}

-- pages are small or large
abbrev pub IsPageSize : (size : ℕ) → Type 0
IsPageSize size = (size ≡ small_page) ⊎ (size ≡ large_page)

-- the pages that a module of a profile can have: small ones, and in the second profile large ones too
abbrev pub HasPages : Profile → (size : ℕ) → Type 0
HasPages profile size = (size ≡ small_page) ⊎ ((is_two profile ≡ true) × (size ≡ large_page))

-- how many pages n words take
abbrev pub page_count : (size n : ℕ) → ℕ
page_count size n = (n + (size - 1)) / size

-- how many words the next page of a module of n words has, after `come` of them
abbrev pub words_due : (size n come : ℕ) → ℕ
words_due size n come = min size (n - come)

-- how many words page `index` has
abbrev pub words_in_page : (size n index : ℕ) → ℕ
words_in_page size n index = words_due size n (size * index)

-- how many bytes page `index` has
abbrev pub bytes_in_page : (size n index : ℕ) → ℕ
bytes_in_page size n index = 4 * words_in_page size n index

-- page `index` of `bytes` bytes is the one that has to come after the first `come` pages
abbrev pub is_due : (size n come : ℕ) → (index bytes : ℕ) → Bool
is_due size n come index bytes = index == come && nat_lt index (page_count size n) && bytes == bytes_in_page size n index
