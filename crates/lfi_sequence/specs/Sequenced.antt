-- What a module's sequencer has done with the items that it took.
use Rattle.std.specs.Prelude.{◌≡◌, ℕ, nat_lt, Bool, if◌then◌else◌, List, [], ◌∷◌, length, Option, Some, None, get_or, is_some, not, ◌==◌, ◌&&◌, true, ◌++◌}
use Rattle.page_buf.specs.Members.{MemberView}
use Rattle.lfi_board.specs.declared.seats.SequencerSeat.{SequencerSeat}
use Rattle.lfi_board.specs.Known.{module_of}
use Rattle.lfi_rules.specs.declared.fault.Fault.{Fault}
use Rattle.lfi_module.specs.Extents.{ExtentView}
use Rattle.lfi_module.specs.Profiles.{profile_number}
use Rattle.lfi_model.specs.Item.{ItemView, IsItem}
use Rattle.lfi_model.specs.Modules.{Member, IsModule}
use Rattle.lfi_sequence.specs.Come.{first_of, Comes, Come}
use Rattle.lfi_sequence.specs.declared.placing.Ended.{Ended}
use Rattle.lfi_sequence.specs.declared.placing.Placing.{Placing}
use Rattle.lfi_sequence.specs.declared.sequence.Stepped.{Stepped}
use Rattle.lfi_sequence.specs.declared.sequence.Stepped.TheVariants.{Placed, Waits}
use Rattle.lfi_sequence.specs.declared.sequence.BoardNotice.{BoardNotice}
use Rattle.lfi_sequence.specs.declared.sequence.BoardNotice.TheVariants.{Nothing, Refused, Finished}
use Rattle.lfi_sequence.specs.declared.sequence.Sequence.{Sequence}
use Rattle.lfi_sequence.specs.Placed.{fault_of, HandledBy}

-- the item that waits at a place of the table
abbrev pub waiting : List (Option ItemView) → ℕ → Option ItemView
waiting table k = get_or table k None

-- its seat at the board
abbrev pub board_seat_of : Sequence → SequencerSeat
board_seat_of s = s.seat

-- the number of the module that a sequence places: that of its seat
abbrev pub module_number_of : Sequence → ℕ
module_number_of s = module_of s.seat

-- its seat at the pool of pages
abbrev pub pool_seat_of : Sequence → MemberView
pool_seat_of s = s.pool

-- the item that waits with it at a place
abbrev pub waiting_in : Sequence → ℕ → Option ItemView
waiting_in s k = waiting s.table.items k

-- two extents are the same
abbrev pub is_same : ExtentView → ExtentView → Bool
is_same a b = (a.words == b.words) && (a.entry == b.entry) && (profile_number a.profile == profile_number b.profile) && (a.pages == b.pages)

-- an item of a module of this extent fits after what has come
abbrev pub fits_state : Option Placing → ExtentView → Bool
fits_state None extent = true
fits_state (Some p) extent = is_same extent p.builder.extent && not (is_some p.ended)

-- what is told to the board: Refused exactly where the pages have a fault, Finished exactly where they have none and the End has come
abbrev pub told_of : Option Fault → Option Ended → BoardNotice
told_of (Some fault) ended = Refused
told_of None (Some ended) = Finished
told_of None None = Nothing

-- what there is to tell the board
abbrev pub told_by : Option Placing → BoardNotice
told_by None = Nothing
told_by (Some p) = told_of (fault_of p) p.ended

-- what there is to tell the board of what it has placed
abbrev pub told_in : Sequence → BoardNotice
told_in s = told_by s.placing

-- Of the items that it took these have come and are placed, and the first items of all later ordinals wait at their places.
pub record Holds (s : Sequence) (taken come : List ItemView) : Type 0 where
  pub typed : (x : ItemView) → Member taken x → IsItem x
  pub numbered : IsModule come
  pub count : s.count ≡ length come
  pub built : HandledBy (module_number_of s) s.placing come
  pub waits : (k : ℕ) → waiting_in s k ≡ (if nat_lt k (length come) then None else first_of taken k)

-- What it took is what has come without a gap, which it has placed, and what waits in its table.
pub record Sequenced (s : Sequence) (taken : List ItemView) : Type 0 where
  pub come : List ItemView
  pub has_come : Come taken come
  pub holds : Holds s taken come

-- One step: one more item has come; or none comes next.
abbrev pub Steps : Stepped → Sequence → (taken come : List ItemView) → Type 0
Steps Placed s taken come = (x : ItemView) × Comes taken come x × Holds s taken (come ++ x ∷ [])
Steps Waits s taken come = Holds s taken come × ((x : ItemView) → Comes taken come x → ⊥)
