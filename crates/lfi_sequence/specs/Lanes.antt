-- New lanes, and the passes of them.
use Rattle.std.specs.Prelude.{◌≡◌, ℕ, ◌<◌, List, length, map, Option, Some, slice_get}
use Rattle.std.specs.Option.{option_map}
use Rattle.std.specs.Global.{Vec}
use Rattle.lfi_module.specs.Numbers.{module_count}
use Rattle.lfi_model.specs.Item.{ItemView}
use Rattle.lfi_queues.specs.Passes.{QueueId, PassView, new_pass}
use Rattle.lfi_sequence.specs.declared.lanes.Lanes.{Lanes}

-- pass `number` of each of these lanes, of which nothing was done
abbrev pub new_row : List QueueId → ℕ → List (PassView ItemView)
new_row lanes number = map (λ lane. new_pass lane number) lanes

-- the row at a place
abbrev pub row_at : List (Vec (PassView ItemView)) → ℕ → Option (List (PassView ItemView))
row_at rows place = option_map (λ row. row.items) (slice_get rows place)

-- There are `count` rows, and each has the pass of its number of each of these lanes.
pub record AreRows (lanes : List QueueId) (count : ℕ) (rows : List (Vec (PassView ItemView))) : Type 0 where
  pub all : length rows ≡ count
  pub each : (place : ℕ) → place < count → row_at rows place ≡ Some (new_row lanes place)

-- A lane for each module, with a row of passes for each of the verifiers, and one that takes from it.
pub record AreNewLanes (verifiers : ℕ) (made : Lanes) : Type 0 where
  pub lanes : length made.lanes.items ≡ module_count
  pub counts : (m : ℕ) (lane : QueueId) → slice_get made.lanes.items m ≡ Some lane → (lane.putters ≡ verifiers) × (lane.takers ≡ 1)
  pub puts : AreRows made.lanes.items verifiers made.puts.items
  pub takes : made.takes.items ≡ new_row made.lanes.items 0
