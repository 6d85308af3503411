-- What a module is refused for.
use Rattle.std.specs.Prelude.{◌≡◌, ℕ, ◌+◌, ◌-◌, min, List, length, take, drop, Option, Some, None}
use Rattle.lfi_rules.specs.Verdicts.{all_words}
use Rattle.lfi_sequence.specs.declared.refused.Refusal.{Refusal}
use Rattle.lfi_sequence.specs.declared.refused.NearbyWords.{NearbyWords}

-- the words that are kept
abbrev pub near_words : NearbyWords → List ℕ
near_words near = take near.count near.words

-- These are the words from four before a place to the one after it, as far as there are such words. No need waits for more than four.
pub record AreNear (ws : List ℕ) (place : ℕ) (near : NearbyWords) : Type 0 where
  pub words : near_words near ≡ take (min place 4 + 2) (drop (place - 4) ws)
  pub at : near.at ≡ min place 4

-- the words of the pages that are placed and of the one after them, which is judged once they are
abbrev pub judged_words : (us pages : List (List ℕ)) → List ℕ
judged_words us pages = all_words (take (length us + 1) pages)

-- where there is a refusal, it has the words near the fault's place
abbrev pub IsRefusedFor : List ℕ → Option Refusal → Type 0
IsRefusedFor ws None = Unit {0}
IsRefusedFor ws (Some refusal) = AreNear ws refusal.fault.word refusal.near
