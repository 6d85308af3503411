-- The page whose payload is coming. Source: docs/PROFILE.md, "Streams".
use Rattle.std.specs.Prelude.{◌≡◌, ℕ, ◌+◌, ◌*◌, ◌<◌, Bool, true, false}
use Rattle.lfi_module.specs.Pages.{bytes_in_page}
use Rattle.lfi_connection.specs.declared.due_page.DuePage.{DuePage}

-- how many bytes it has
abbrev pub bytes_of : DuePage → ℕ
bytes_of page = bytes_in_page page.extent.pages page.extent.words page.pages

-- where in its module's code its next byte belongs
abbrev pub offset_of : DuePage → ℕ
offset_of page = 4 * page.extent.pages * page.pages + page.come

-- all bytes of a page have come where it ended, and fewer where it didn't
abbrev pub IsWhole : (ended : Bool) → (come due : ℕ) → Type 0
IsWhole true come due = come ≡ due
IsWhole false come due = come < due

-- Some of the page is to come, and with `count` bytes more all of it came, or fewer.
pub record GoesOn (page : DuePage) (count : ℕ) (ended : Bool) : Type 0 where
  pub unended : page.come < bytes_of page
  pub whole : IsWhole ended (page.come + count) (bytes_of page)
