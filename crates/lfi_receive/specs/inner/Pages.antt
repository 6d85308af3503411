-- The page that a receiver keeps while its payload comes. Only private clauses and proofs use it.
use Rattle.std.specs.Prelude.{◌≡◌, ℕ, ◌+◌, ◌++◌, Bool, List, length, Option, Some, None}
use Rattle.lfi_connection.specs.declared.due_page.DuePage.{DuePage}
use Rattle.lfi_connection.specs.DuePages.{GoesOn}
use Rattle.lfi_receive.specs.declared.coming.ComingPage.{ComingPage}

-- the page, and how many of its bytes came
abbrev pub due_page : ComingPage → DuePage
due_page c = record { «module» = c.«module»; extent = c.extent; pages = c.pages; come = length c.page.bytes }

-- the same where one is kept
abbrev pub coming_of : Option ComingPage → Option DuePage
coming_of (Some c) = Some (due_page c)
coming_of None = None

-- `count` bytes go on in the page that is kept
abbrev pub Fits : Option ComingPage → (count : ℕ) → (ended : Bool) → Type 0
Fits (Some c) count ended = GoesOn (due_page c) count ended
Fits None count ended = ⊥

-- It is the same page, with these bytes more.
pub record IsLonger (old new : ComingPage) (bytes : List ℕ) : Type 0 where
  pub page : due_page new ≡ record (due_page old) { come = length old.page.bytes + length bytes }
  pub bytes_are : new.page.bytes ≡ old.page.bytes ++ bytes
