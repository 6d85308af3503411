-- What is kept of a connection, by its text. Source: docs/PROFILE.md, "Streams".
use Rattle.std.specs.Prelude.{◌≡◌, ℕ, Bool, true, List, length, drop, Option, Some, None}
use Rattle.lfi_module.specs.Pages.{is_due}
use Rattle.lfi_frame.specs.Streams.{Message, rest_of, unfinished, Rest}
use Rattle.lfi_model.specs.declared.connection.Progress.{Progress}
use Rattle.lfi_model.specs.declared.connection.Progress.TheVariants.{Going}
use Rattle.lfi_model.specs.Items.{Share, share_of}
use Rattle.lfi_connection.specs.declared.due_page.DuePage.{DuePage}
use Rattle.lfi_connection.specs.Modules.{IsOver}
use Rattle.lfi_connection.specs.DuePages.{bytes_of}

-- what a text of these messages and this rest makes of module m, where these modules are claimed: its items, its strays, and how far it is
abbrev pub made_of : (claimed : ℕ → Bool) → (messages : List Message) → (rest : Rest) → ℕ → Share
made_of claimed messages rest m = share_of (claimed m) m messages rest

-- The payload that is coming is that of this page, which is the next one of an open module, and `page.come` of its bytes came.
pub record IsDue (page : DuePage) (progress : Progress) (rest : List ℕ) : Type 0 where
  pub going : progress ≡ Going page.extent page.pages
  pub header : rest_of rest ≡ unfinished page.«module» page.extent.pages page.pages (bytes_of page)
  pub is_next : is_due page.extent.pages page.extent.words page.pages page.pages (bytes_of page) ≡ true
  pub come : page.come ≡ length (drop 12 rest)

-- what is known of the page whose header came last
abbrev pub Awaits : Option DuePage → (ℕ → Share) → (rest : List ℕ) → Type 0
Awaits (Some page) made rest = IsDue page (made page.«module»).progress rest
Awaits None made rest = (m size index len : ℕ) → rest_of rest ≡ unfinished m size index len → IsOver (made m).progress

-- how far the modules are is what the text makes of them
abbrev pub AreAt : (places : ℕ → Progress) → (ℕ → Share) → Type 0
AreAt places made = (m : ℕ) → places m ≡ (made m).progress

-- How far the modules are, and the page that is coming, are those of these messages and this rest, where these modules are claimed.
pub record Holds (places : ℕ → Progress) (coming : Option DuePage) (claimed : ℕ → Bool) (messages : List Message) (rest : List ℕ) : Type 0 where
  pub progress : AreAt places (made_of claimed messages (rest_of rest))
  pub awaits : Awaits coming (made_of claimed messages (rest_of rest)) rest
