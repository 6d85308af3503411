-- What contracts see of a queue, and of the passes that put to it or take from it.
use Rattle.std.specs.Prelude.{◌≡◌, ◌⊎◌, ℕ, zero, suc, ◌+◌, ◌<◌, ◌≤◌, List, [], ◌∷◌, ◌++◌, Option, Some, None, MatchOption, get_or, slice_get, replicate}
use Rattle.std.specs.Option.{option_map, option_map_or}
use Rattle.atomic_table.specs.Seated.{TableId}
use Rattle.atomic_blocks.specs.Lent.{RowsId}
use Rattle.lfi_queues.specs.declared.part.Tally.{Tally}
use Rattle.lfi_queues.specs.Kept.{Kept, IsShuffle}

-- where a queue's items lie: in one ring, or in parts, one for each putter
pub data Home : Type 0 where
  OneRing : TableId → Home
  InParts : List RowsId → Home

-- which queue it is, and how many passes put to it and take from it
pub record QueueId : Type 0 where
  pub home : Home
  pub putters : ℕ
  pub takers : ℕ

-- the rounds of a pass that takes from the intake: the part at which the next one begins, and the counts of each part's answers to it, by the parts' numbers
pub record Rounds : Type 0 where
  pub next : ℕ
  pub tallies : List Tally

-- the counts of a part's answers, once it has given one more item
abbrev pub gave_item : Tally → Tally
gave_item t = record t { items = t.items + 1 }

-- the same, once it was empty one more time
abbrev pub was_empty : Tally → Tally
was_empty t = record t { empties = t.empties + 1 }

-- the same, once it has answered one more time that a steal is to be tried again
abbrev pub asked_again : Tally → Tally
asked_again t = record t { retries = t.retries + 1 }

-- a part was asked once more, and gave none
abbrev pub GaveNone : (old new : Tally) → Type 0
GaveNone old new = (new ≡ was_empty old) ⊎ (new ≡ asked_again old)

-- In a round that begins at part `first`, goes on to the last part and then from part 0 on, part q comes before part p.
abbrev pub IsAskedBefore : (first q p : ℕ) → Type 0
IsAskedBefore first q p = ((first ≤ q) × (q < p)) ⊎ ((p < first) × ((first ≤ q) ⊎ (q < p)))

-- those of a part that wasn't asked yet
abbrev pub no_answers : Tally
no_answers = record { items = 0; empties = 0; retries = 0 }

-- those of part p
abbrev pub tally : Rounds → ℕ → Tally
tally rounds p = get_or rounds.tallies p no_answers

-- no part was asked yet, and the first round begins at part 0
abbrev pub no_rounds : QueueId → Rounds
no_rounds queue = record { next = 0; tallies = replicate queue.putters no_answers }

-- a pass: its queue, its number there, how often it was used, what it put or took, and its rounds, which only those that take from the intake make
pub record PassView (X : Type 0) : Type 0 where
  pub queue : QueueId
  pub number : ℕ
  pub calls : ℕ
  pub items : List X
  pub rounds : Rounds

module _ {X : Type 0} where
  -- it is the same pass of the same queue
  pub record IsSamePass (old new : PassView X) : Type 0 where
    pub queue : new.queue ≡ old.queue
    pub number : new.number ≡ old.number

  -- one call that added an item to the pass's list
  abbrev pub AddsItem : (old new : PassView X) → Type 0
  AddsItem old new = (item : X) × (new ≡ record old { calls = old.calls + 1; items = old.items ++ item ∷ [] })

  -- one call that added none
  abbrev pub AddsNone : (old new : PassView X) → Type 0
  AddsNone old new = new ≡ record old { calls = old.calls + 1 }

  -- a pass that did nothing yet
  abbrev pub new_pass : QueueId → ℕ → PassView X
  new_pass queue k = record { queue = queue; number = k; calls = 0; items = []; rounds = no_rounds queue }

  -- the first k passes of a new queue, in the order of their numbers
  abbrev pub new_passes : QueueId → ℕ → List (PassView X)
  new_passes queue zero = []
  new_passes queue (suc k) = new_passes queue k ++ new_pass queue k ∷ []

  -- the pass at a place, if there is one
  abbrev pub pass_at : List (Option (PassView X)) → ℕ → Option (PassView X)
  pass_at places k = get_or places k None

  -- what the pass at a place put or took; nothing where there is none
  abbrev pub items_at : List (Option (PassView X)) → ℕ → List X
  items_at places k = option_map_or (λ pass. pass.items) (pass_at places k) []

  -- what the passes of a list put or took, by their places
  abbrev pub items_in : List (PassView X) → ℕ → List X
  items_in passes k = option_map_or (λ pass. pass.items) (slice_get passes k) []

  -- it is pass k of `count`
  abbrev pub IsPass : QueueId → ℕ → ℕ → PassView X → Type 0
  IsPass queue count k pass = (k < count) × (pass.queue ≡ queue) × (pass.number ≡ k)

  -- These are all passes of the queue, each at the place of its number, and no others.
  abbrev pub AreAllPasses : QueueId → ℕ → List (Option (PassView X)) → Type 0
  AreAllPasses queue count places = (k : ℕ) → MatchOption (pass_at places k) (count ≤ k) (IsPass queue count k)

  -- the pass after it has taken what `rest` answered, which is no call of its own
  abbrev pub after_rest : PassView X → Option X → PassView X
  after_rest pass None = pass
  after_rest pass (Some x) = record pass { items = pass.items ++ x ∷ [] }

  -- the places, with a change of the first pass
  abbrev pub with_first : List (Option (PassView X)) → (PassView X → PassView X) → List (Option (PassView X))
  with_first [] change = []
  with_first (place ∷ places) change = option_map change place ∷ places

  -- the first of these items, or none where there are none
  abbrev pub IsFirstOf : List X → Option X → Type 0
  IsFirstOf held result = MatchOption result (held ≡ []) (λ x. (later : List X) × (held ≡ x ∷ later))

  -- At one moment, when this pass had put its items, the queue held these: there are lists of all passes, in which that of this pass is its own.
  pub record SeenByPutter (pass : PassView X) (held : List X) : Type 0 where
    pub puts : ℕ → List X
    pub takes : ℕ → List X
    pub kept : Kept puts takes held
    pub mine : puts pass.number ≡ pass.items

  -- At one moment, when this pass had taken its items, the queue held these.
  pub record SeenByTaker (pass : PassView X) (held : List X) : Type 0 where
    pub puts : ℕ → List X
    pub takes : ℕ → List X
    pub kept : Kept puts takes held
    pub mine : takes pass.number ≡ pass.items

  -- At one moment all that had been put in a part of the intake was taken: by taker t this.
  pub record EmptyPart (t : ℕ) (share : List X) : Type 0 where
    pub puts : ℕ → List X
    pub takes : ℕ → List X
    pub kept : Kept puts takes []
    pub mine : takes t ≡ share

  -- Each part of the intake was empty, at a moment of its own, when this pass had taken its items.
  pub record SeenEmptyEach (pass : PassView X) : Type 0 where
    pub shares : ℕ → List X
    pub mine : IsShuffle shares pass.items
    pub empty : (p : ℕ) → p < pass.queue.putters → EmptyPart pass.number (shares p)

  -- One take from the intake that gave this item: each part before that of the item was asked once and gave none, those after it weren't asked, and the next round begins after it.
  pub record GetsItem (old new : PassView X) (item : X) : Type 0 where
    pub part : ℕ
    pub there : part < old.queue.putters
    pub pass : new ≡ record old { calls = old.calls + 1; items = old.items ++ item ∷ []; rounds = new.rounds }
    pub next : new.rounds.next ≡ part + 1
    pub gave : tally new.rounds part ≡ gave_item (tally old.rounds part)
    pub before : (p : ℕ) → p < old.queue.putters → IsAskedBefore old.rounds.next p part → GaveNone (tally old.rounds p) (tally new.rounds p)
    pub after : (p : ℕ) → p < old.queue.putters → IsAskedBefore old.rounds.next part p → tally new.rounds p ≡ tally old.rounds p

  -- One take from the intake that found each part empty, at a moment of its own. The next round begins where this one did.
  pub record FindsNone (old new : PassView X) : Type 0 where
    pub pass : new ≡ record old { calls = old.calls + 1; rounds = new.rounds }
    pub next : new.rounds.next ≡ old.rounds.next
    pub each : (p : ℕ) → p < old.queue.putters → tally new.rounds p ≡ was_empty (tally old.rounds p)
    pub empty : SeenEmptyEach old

  -- One take from the intake that gave none: each part was asked once, and some part answered that a steal is to be tried again. The next round begins where this one did.
  pub record AsksAgain (old new : PassView X) : Type 0 where
    pub pass : new ≡ record old { calls = old.calls + 1; rounds = new.rounds }
    pub next : new.rounds.next ≡ old.rounds.next
    pub each : (p : ℕ) → p < old.queue.putters → GaveNone (tally old.rounds p) (tally new.rounds p)
    pub part : ℕ
    pub there : part < old.queue.putters
    pub again : tally new.rounds part ≡ asked_again (tally old.rounds part)
