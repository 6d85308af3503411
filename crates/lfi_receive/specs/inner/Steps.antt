-- What the steps of a receiver change. Only private clauses and proofs use it.
use Rattle.std.specs.Prelude.{◌≡◌, ℕ, ◌+◌, ◌-◌, ◌%◌, ◌^◌, ◌++◌, Bool, true, false, List, [], Option, Some, None, ◌⊎◌}
use Rattle.lfi_frame.specs.declared.fault.FrameFault.TheVariants.{NoMemory}
use Rattle.lfi_model.specs.declared.connection.EndCause.TheVariants.{Starved}
use Rattle.lfi_model.specs.declared.item.ItemKind.TheVariants.{Page}
use Rattle.lfi_model.specs.Items.{item_of}
use Rattle.lfi_connection.specs.declared.due_page.DuePage.{DuePage}
use Rattle.lfi_receive.specs.declared.coming.ComingPage.{ComingPage}
use Rattle.lfi_receive.specs.declared.receiver.Receiver.{Receiver}
use Rattle.lfi_receive.specs.declared.receiver.Parsed.{Parsed}
use Rattle.lfi_receive.specs.declared.receiver.Parsed.TheVariants.{Stray}
use Rattle.lfi_receive.specs.inner.Pages.{due_page, IsLonger}

-- the place `count` bytes before the one to which these were counted, modulo 2^64
abbrev pub bytes_before : (count came : ℕ) → ℕ
bytes_before count came = (came + (2 ^ 64 - count)) % 2 ^ 64

-- The page has memory now, and no byte of it came; or there was none, and the input is over at the page's header.
abbrev pub Begins : DuePage → (old new : Receiver) → Type 0
Begins page old new =
    ((c : ComingPage) × (new ≡ record old { memory = new.memory; page = Some c }) × (due_page c ≡ page) × (c.page.bytes ≡ []))
    ⊎ ((new ≡ record old { memory = new.memory; feed = new.feed; fault = Some NoMemory; cause = Some Starved; start = new.start }) × (new.start.byte ≡ bytes_before 12 old.came))

-- The page has these bytes more; where it ended it is in the hand, and no page is coming.
abbrev pub KeepsPage : Option ComingPage → (ended : Bool) → List ℕ → (old new : Receiver) → Type 0
KeepsPage None ended bytes old new = ⊥
KeepsPage (Some c) true bytes old new = new ≡ record old { page = None; hand = Some (item_of c.«module» (c.pages + 1) c.extent (Page (c.page.bytes ++ bytes))) }
KeepsPage (Some c) false bytes old new = (d : ComingPage) × (new ≡ record old { page = Some d }) × IsLonger c d bytes

abbrev pub Keeps : (ended : Bool) → List ℕ → (old new : Receiver) → Type 0
Keeps ended bytes old new = KeepsPage old.page ended bytes old new

-- what came of bytes is a stray
abbrev pub is_stray : Parsed → Bool
is_stray = elim [ Stray ↦ true | parsed ↦ false ]
