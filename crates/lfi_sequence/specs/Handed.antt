-- What a verifier hands on.
use Rattle.std.specs.Prelude.{◌≡◌, ℕ, ◌+◌, List, [], ◌∷◌, ◌++◌, set, Option, Some, None, slice_get, MatchOption, length}
use Rattle.std.specs.Option.{option_map_or}
use Rattle.lfi_module.specs.Numbers.{module_count}
use Rattle.lfi_board.specs.declared.seats.WatchSeat.{WatchSeat}
use Rattle.lfi_model.specs.Item.{ItemView}
use Rattle.lfi_queues.specs.Passes.{PassView, QueueId, IsSamePass, GetsItem, FindsNone, AsksAgain}
use Rattle.lfi_sequence.specs.Hands.{Hands}
use Rattle.lfi_sequence.specs.declared.verifier.Verifier.{Verifier}
use Rattle.lfi_sequence.specs.declared.verifier.VerifierTurn.{VerifierTurn}
use Rattle.lfi_sequence.specs.declared.verifier.VerifierTurn.TheVariants.{Worked, Idle, Again, Blocked}

-- its pass of the intake, its passes of the lanes, and the item in its hand
abbrev pub take_pass_of : Verifier → PassView ItemView
take_pass_of v = v.pass

-- a verifier's passes to the lanes
abbrev pub lane_puts_of : Verifier → List (PassView ItemView)
lane_puts_of v = v.lanes.items

-- the item in its hand
abbrev pub hand_of : Verifier → Option ItemView
hand_of v = v.hand

-- its seat at the board
abbrev pub seat_of : Verifier → WatchSeat
seat_of v = v.seat

-- the module of the item that it put last, or holds
abbrev pub last_of : Verifier → Option ℕ
last_of v = v.last

-- what these passes put in each lane
abbrev pub put_in : List (PassView ItemView) → ℕ → List ItemView
put_in passes m = option_map_or (λ pass. pass.items) (slice_get passes m) []

-- Of these items it has put each in its module's lane, in order, and holds the last, where it holds one.
abbrev pub HandsOn : List ItemView → Verifier → Type 0
HandsOn took v = Hands took (put_in v.lanes.items) v.hand

-- the same, where it is about to put this one
abbrev pub WithLast : List ItemView → Verifier → ItemView → Type 0
WithLast took v item = Hands took (put_in v.lanes.items) (Some item)

-- there is a lane for each module, and these are passes of them
pub record AreLanes (lanes : List QueueId) (passes : List (PassView ItemView)) : Type 0 where
  pub all : length lanes ≡ module_count
  pub each : (m : ℕ) (lane : QueueId) (pass : PassView ItemView) → slice_get lanes m ≡ Some lane → slice_get passes m ≡ Some pass → pass.queue ≡ lane

-- the passes are of the same queues, with the same numbers
abbrev pub SameLanes : (old new : List (PassView ItemView)) → Type 0
SameLanes old new = (m : ℕ) → MatchOption (slice_get old m) (slice_get new m ≡ None) (λ pass. (after : PassView ItemView) × (slice_get new m ≡ Some after) × IsSamePass pass after)

-- One call to the lane of module m, which put these items there; the other lanes' passes are as they were.
pub record PutsIn (m : ℕ) (items : List ItemView) (old new : List (PassView ItemView)) : Type 0 where
  pub pass : PassView ItemView
  pub is : slice_get old m ≡ Some pass
  pub after : new ≡ set old m (record pass { calls = pass.calls + 1; items = pass.items ++ items })

-- one put of an item to its module's lane: it is there; or the lane has refused it, and it is in hand
abbrev pub ByHand : VerifierTurn → ItemView → (hand : Option ItemView) → (old new : List (PassView ItemView)) → Type 0
ByHand Worked item hand old new = (hand ≡ None) × PutsIn item.«module» (item ∷ []) old new
ByHand Blocked item hand old new = (hand ≡ Some item) × PutsIn item.«module» [] old new
ByHand turn item hand old new = ⊥

-- nothing is in hand, and nothing was put
abbrev pub PutsNone : (old new : Verifier) → Type 0
PutsNone old new = (hand_of new ≡ None) × (lane_puts_of new ≡ lane_puts_of old)

-- What a turn did with this in hand. An item in hand is put once, and nothing is taken; else it is one take: Idle where each part of the intake was asked and empty; Again where each was asked
-- and gave none, and one of them answered that a steal is to be tried again; and else one put of the item that the first part gave which had one, in the round that begins after the last.
abbrev pub TurnsWith : Option ItemView → VerifierTurn → (old new : Verifier) → Type 0
TurnsWith (Some item) did old new = ByHand did item (hand_of new) (lane_puts_of old) (lane_puts_of new) × (take_pass_of new ≡ take_pass_of old)
TurnsWith None Idle old new = PutsNone old new × FindsNone (take_pass_of old) (take_pass_of new)
TurnsWith None Again old new = PutsNone old new × AsksAgain (take_pass_of old) (take_pass_of new)
TurnsWith None did old new = (item : ItemView) × GetsItem (take_pass_of old) (take_pass_of new) item × ByHand did item (hand_of new) (lane_puts_of old) (lane_puts_of new)

-- what a turn did
abbrev pub AsTold : VerifierTurn → (old new : Verifier) → Type 0
AsTold did old new = TurnsWith (hand_of old) did old new

-- where a turn put an item, it is the last of the module that is told
abbrev pub PutsLast : VerifierTurn → (old new : Verifier) → Type 0
PutsLast Worked old new = (item : ItemView) × (last_of new ≡ Some item.«module») × PutsIn item.«module» (item ∷ []) (lane_puts_of old) (lane_puts_of new)
PutsLast turn old new = Unit {0}
