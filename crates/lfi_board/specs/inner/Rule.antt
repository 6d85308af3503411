-- The rule of the board: what its words, and what all seats know, have to do with each other.
-- Words 0 to 15 are the phases of the modules: 0 free, 1 open, 2 refused, 3 done. Word 16 is the number of receivers that have ended.
use Rattle.std.specs.Prelude.{◌≡◌, ℕ, ◌<◌, ◌≤◌, if◌then◌else◌, ◌==◌, List, [], ◌∷◌, length, slice_index}
use mathlib.Core.Option.{some}
use lib.ListN.{get_elem?}
use Rattle.atomic_table.specs.Table.{State}
use Rattle.lfi_board.specs.declared.knowledge.Knowledge.{Knowledge}
use Rattle.lfi_board.specs.declared.knowledge.SeenWord.{SeenWord}
use Rattle.lfi_board.specs.Knowledge.{total, times, IsSince}

-- what a seat sees of the board: what it knows itself, or what several know while a holder is sought
abbrev pub View : Type 0
View = List Knowledge

-- 1 for a receiver
abbrev pub receiving : Knowledge → ℕ
receiving h = if h.is_receiver then 1 else 0

-- how often it was answered `Mine` for the module
abbrev pub claims_of : ℕ → Knowledge → ℕ
claims_of m h = if h.is_receiver then times m h.claimed else 0

-- 1 for a receiver that has told its end
abbrev pub ending : Knowledge → ℕ
ending h = if h.is_receiver then (if h.ended then 1 else 0) else 0

-- 0 for a phase that is free, and 1 for every other
abbrev pub taken : ℕ → ℕ
taken phase = if phase == 0 then 0 else 1

-- what was seen may be so now
abbrev pub AllSince : List ℕ → List SeenWord → Type 0
AllSince words [] = Unit {0}
AllSince words (s ∷ ss) = IsSince s.word s.number (slice_index words s.word) × AllSince words ss

abbrev pub AllKnow : ℕ → List ℕ → View → Type 0
AllKnow n words [] = Unit {0}
AllKnow n words (h ∷ hs) = ((h.receivers ≡ n) × AllSince words h.seen) × AllKnow n words hs

-- each module that isn't free was claimed once, over all receivers; the count is that of the receivers that have ended; and what each seat has seen may be so
pub record Kept (n : ℕ) (s : State (Unit {0}) View) : Type 0 where
  pub few : n ≤ 8
  pub wide : length s.words ≡ 17
  pub phases : (m : ℕ) → m < 16 → slice_index s.words m < 4
  pub claims : (m : ℕ) → m < 16 → total (total (claims_of m)) s.views ≡ taken (slice_index s.words m)
  pub ends : total (total ending) s.views ≡ slice_index s.words 16
  pub receivers : total (total receiving) s.views ≡ n
  pub known : (id : ℕ) (v : View) → get_elem? s.views id ≡ some v → AllKnow n s.words v

-- the first, and all after it
abbrev pub first_of : View → View
first_of [] = []
first_of (h ∷ hs) = h ∷ []

abbrev pub rest_of : View → View
rest_of [] = []
rest_of (h ∷ hs) = hs
