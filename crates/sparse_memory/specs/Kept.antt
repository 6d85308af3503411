-- What memory that is kept in pages stands for.
use Rattle.std.specs.Prelude.{◌≡◌, ℕ, ◌+◌, ◌-◌, ◌*◌, ◌/◌, ◌%◌, ◌^◌, ◌<◌, ◌≤◌, ◌↔◌, ◌⊎◌, if◌then◌else◌, ◌==◌, List, [], ◌∷◌, length, slice_index}
use Rattle.a64_word.specs.Bytes.{low_bytes, written}

-- Pages of 65,536 bytes. At each page's number the table has 0, or one more than the page's place among the frames.
pub record Kept : Type 0 where
  pub table : List ℕ
  pub frames : List ℕ

-- the bytes of a page that is kept
abbrev pub page_size : ℕ
page_size = 65536

-- the place of the byte at an offset, of a page that is kept
abbrev pub frame_place : Kept → ℕ → ℕ
frame_place kept offset = (slice_index kept.table (offset / page_size) - 1) * page_size + offset % page_size

-- the byte at an offset: what was written there last, and 0 where nothing was
abbrev pub byte_at : Kept → ℕ → ℕ
byte_at kept offset = if slice_index kept.table (offset / page_size) == 0 then 0 else slice_index kept.frames (frame_place kept offset)

-- the page of an offset is kept
abbrev pub IsKept : Kept → ℕ → Type 0
IsKept kept offset = 0 < slice_index kept.table (offset / page_size)

-- no page is kept
abbrev pub KeepsNone : Kept → Type 0
KeepsNone kept = (offset : ℕ) → ¬ (IsKept kept offset)

-- each page of `bytes` bytes from an offset on is kept
abbrev pub AreKept : Kept → (offset bytes : ℕ) → Type 0
AreKept kept offset bytes = (k : ℕ) → k < bytes → IsKept kept (offset + k)

-- each byte is as before
abbrev pub SameBytes : Kept → Kept → Type 0
SameBytes old new = (offset : ℕ) → byte_at new offset ≡ byte_at old offset

-- what was kept is kept
abbrev pub KeepsAll : Kept → Kept → Type 0
KeepsAll old new = (offset : ℕ) → IsKept old offset → IsKept new offset

-- no page is kept that wasn't, but those of `bytes` bytes from an offset on
abbrev pub KeepsOnly : Kept → Kept → (offset bytes : ℕ) → Type 0
KeepsOnly old new offset bytes =
    (other : ℕ) → IsKept new other → IsKept old other ⊎ ((k : ℕ) × (k < bytes) × (other / page_size ≡ (offset + k) / page_size))

-- the same pages are kept
abbrev pub SamePages : Kept → Kept → Type 0
SamePages old new = (offset : ℕ) → IsKept old offset ↔ IsKept new offset

-- the lowest bytes of a value were written from an offset on, and each other byte is as before
abbrev pub WritesNumber : Kept → Kept → (offset bytes value : ℕ) → Type 0
WritesNumber old new offset bytes value = (at : ℕ) → byte_at new at ≡ written (byte_at old) offset (low_bytes bytes value) at

-- the byte at one offset is this, and each other is as before
abbrev pub WritesByte : Kept → Kept → (offset byte : ℕ) → Type 0
WritesByte old new at byte = (offset : ℕ) → byte_at new offset ≡ (if offset == at then byte else byte_at old offset)

-- how many numbers of a list aren't 0
abbrev pub some_in : List ℕ → ℕ
some_in [] = 0
some_in (n ∷ rest) = (if n == 0 then 0 else 1) + some_in rest

-- what holds of each table and its frames
pub record IsWellKept (kept : Kept) : Type 0 where
  pub whole : length kept.table ≡ 2 ^ 16
  pub frames : length kept.frames % page_size ≡ 0
  -- each frame belongs to a page
  pub counted : length kept.frames ≡ some_in kept.table * page_size
  pub within : (page : ℕ) → slice_index kept.table page * page_size ≤ length kept.frames
  -- no frame belongs to two pages
  pub apart : (i j : ℕ) → 0 < slice_index kept.table i → slice_index kept.table i ≡ slice_index kept.table j → i ≡ j
