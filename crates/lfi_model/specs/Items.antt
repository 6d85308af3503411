-- The items of one connection, module by module. Source: this project's format, docs/PROFILE.md.
use Rattle.std.specs.Prelude.{◌≡◌, ℕ, ◌+◌, ◌<◌, ◌==◌, Bool, true, false, ◌||◌, ◌&&◌, not, if◌then◌else◌, List, [], ◌∷◌, ◌++◌, length, Option, Some, None, fold, filter, sum_by}
use Rattle.std.specs.List.{list_any}
use Rattle.lfi_module.specs.Numbers.{module_count}
use Rattle.lfi_module.specs.Pages.{is_due}
use Rattle.lfi_module.specs.Extents.{ExtentView}
use Rattle.lfi_frame.specs.declared.fault.FrameFault.{FrameFault}
use Rattle.lfi_frame.specs.declared.fault.FrameFault.TheVariants as fault
use Rattle.lfi_frame.specs.Streams.{Message, open_message, page_message, close_message, header_of, Rest, faulty, unfinished, rest_of, Cut}
use Rattle.lfi_model.specs.Item.{ItemView, KindView}
use Rattle.lfi_model.specs.declared.item.ItemKind.TheVariants.{Open, Page, End}
use Rattle.lfi_model.specs.declared.item.Reason.{Reason}
use Rattle.lfi_model.specs.declared.item.Reason.TheVariants.{Close, Lost, PageFault, NoMemory}
use Rattle.lfi_model.specs.declared.connection.EndCause.{EndCause}
use Rattle.lfi_model.specs.declared.connection.EndCause.TheVariants as cause
use Rattle.lfi_model.specs.declared.connection.Progress.{Progress}
use Rattle.lfi_model.specs.declared.connection.Progress.TheVariants.{Unclaimed, Going, Ended}

-- What one module got of a connection: its items, the strays, and how far it is.
pub record Share : Type 0 where
  pub items : List ItemView
  pub strays : ℕ
  pub progress : Progress

-- a module of which no message came
abbrev pub nothing_yet : Share
nothing_yet = record { items = []; strays = 0; progress = Unclaimed }

-- one stray more
abbrev pub with_stray : Share → Share
with_stray s = record { items = s.items; strays = s.strays + 1; progress = s.progress }

-- one item more, and how far the module is then
abbrev pub with_item : Share → ItemView → Progress → Share
with_item s item progress = record { items = s.items ++ item ∷ []; strays = s.strays; progress = progress }

-- an item of module m
abbrev pub item_of : (m ordinal : ℕ) → ExtentView → KindView → ItemView
item_of m ordinal extent kind = record { «module» = m; ordinal = ordinal; extent = extent; kind = kind }

-- page `index` of `bytes` bytes, of pages of this size, is the one that has to come next of a module of this extent, of which the first p pages have come
abbrev pub is_page_due : ExtentView → (p size index bytes : ℕ) → Bool
is_page_due extent p size index bytes = size == extent.pages && is_due extent.pages extent.words p index bytes

-- a page of module m, of whose extent the first p pages have come: `then_due` where it is the one due, else the End
abbrev pub after_page : (m : ℕ) → ExtentView → (p : ℕ) → Share → (size index len : ℕ) → Share → Share
after_page m extent p s size index len then_due =
    if is_page_due extent p size index len then then_due
    else with_item s (item_of m (p + 1) extent (End (PageFault index))) Ended

-- one more message of module m, which is claimed or isn't
abbrev pub after_message : Bool → ℕ → Share → Progress → Message → Share
after_message claimed m s Unclaimed (open_message _ extent) =
    if claimed then with_item s (item_of m 0 extent Open) (Going extent 0) else with_stray s
after_message claimed m s (Going extent p) (page_message _ size index payload) =
    after_page m extent p s size index (length payload) (with_item s (item_of m (p + 1) extent (Page payload)) (Going extent (p + 1)))
after_message claimed m s (Going extent p) (close_message _) = with_item s (item_of m (p + 1) extent (End Close)) Ended
after_message claimed m s progress message = with_stray s

-- the header of a page whose payload isn't whole
abbrev pub after_header : ℕ → Share → Progress → (size index len : ℕ) → Share
after_header m s (Going extent p) size index len = after_page m extent p s size index len s
after_header m s progress size index len = with_stray s

-- the message is one of module m
abbrev pub is_of : ℕ → Message → Bool
is_of m message = (header_of message).«module» == m

-- what the rest of a text makes of module m: a page whose header alone came may be none that is due
abbrev pub after_rest : ℕ → Share → Rest → Share
after_rest m s (unfinished of size index len) = if of == m then after_header m s s.progress size index len else s
after_rest m s rest = s

-- what module m has got, when these messages and this rest have come
abbrev pub share_of : Bool → ℕ → List Message → Rest → Share
share_of claimed m messages rest =
    after_rest m (fold (λ s message. after_message claimed m s s.progress message) nothing_yet (filter (is_of m) messages)) rest

-- the module is open
abbrev pub is_going : Progress → Bool
is_going (Going extent p) = true
is_going progress = false

-- the connection's fault: that of the rest's header, or else by what ended the input, where `inside` tells of a message or a module that is left open
abbrev pub fault_by_cause : EndCause → Bool → Option FrameFault
fault_by_cause cause.End inside = if inside then Some fault.Ended else None
fault_by_cause cause.Failed inside = Some fault.ReadFailed
fault_by_cause cause.Starved inside = Some fault.NoMemory

-- the connection's fault: the rest's own, else that of what ended the input
abbrev pub fault_of : Rest → EndCause → Bool → Option FrameFault
fault_of (faulty found) cause inside = Some found
fault_of rest cause inside = fault_by_cause cause inside

-- the End of a module that is still open at the connection's fault
abbrev pub reason_of : FrameFault → Reason
reason_of = elim [ fault.NoMemory ↦ NoMemory | found ↦ Lost found ]

-- the End of an open module whose connection has a fault
abbrev pub ends_of : ℕ → Progress → Option FrameFault → List ItemView
ends_of m (Going extent p) (Some found) = item_of m (p + 1) extent (End (reason_of found)) ∷ []
ends_of m progress found = []

-- all modules
abbrev pub modules : List ℕ
modules = 0 ∷ 1 ∷ 2 ∷ 3 ∷ 4 ∷ 5 ∷ 6 ∷ 7 ∷ 8 ∷ 9 ∷ 10 ∷ 11 ∷ 12 ∷ 13 ∷ 14 ∷ 15 ∷ []

-- A connection whose text is these messages and this rest, whose input ended so, and for which these modules were claimed:
module _ (messages : List Message) (rest : List ℕ) (cause : EndCause) (claimed : ℕ → Bool) where
  abbrev pub share_at : ℕ → Share
  share_at m = share_of (claimed m) m messages (rest_of rest)

  -- a message or a module is left open
  abbrev pub is_inside : Bool
  is_inside = not (length rest == 0) || list_any (λ m. is_going (share_at m).progress) modules

  -- the fault of this connection
  abbrev pub connection_fault : Option FrameFault
  connection_fault = fault_of (rest_of rest) cause is_inside

  -- the items of module m
  abbrev pub items_of : ℕ → List ItemView
  items_of m = (share_at m).items ++ ends_of m (share_at m).progress connection_fault

  -- the strays of all modules
  abbrev pub strays_of : ℕ
  strays_of = sum_by (λ m. (share_at m).strays) modules

-- What a connection's whole text makes: the items of each module, the connection's fault, and its strays.
pub record ItemsOf (bytes : List ℕ) (cause : EndCause) (claimed : ℕ → Bool) (items : ℕ → List ItemView) (found : Option FrameFault) (strays : ℕ) : Type 0 where
  pub messages : List Message
  pub rest : List ℕ
  pub cut : Cut bytes messages rest
  pub items_are : (m : ℕ) → m < module_count → items m ≡ items_of messages rest cause claimed m
  pub fault_is : found ≡ connection_fault messages rest cause claimed
  pub strays_are : strays ≡ strays_of messages rest cause claimed
