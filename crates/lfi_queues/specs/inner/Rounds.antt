-- What a round over some parts gave.
use Rattle.std.specs.Prelude.{◌≡◌, ◌≢◌, ℕ, ◌+◌, ◌<◌, List, [], ◌∷◌, ◌++◌, length, Option, Some, None, MatchOption}
use Rattle.lfi_queues.specs.declared.intake.Taken.{Taken}
use Rattle.lfi_queues.specs.declared.intake.Taken.TheVariants as taken
use Rattle.lfi_queues.specs.declared.part.Tally.{Tally}
use Rattle.lfi_queues.specs.declared.round.Round.{Round}
use Rattle.lfi_queues.specs.declared.round.Round.TheVariants.{Got, Empty, Again}
use Rattle.lfi_queues.specs.Passes.{IsAskedBefore}
use Rattle.lfi_queues.specs.inner.Parts.{EndView, TakeView, end_at, SeesEmpty, SeesNone, Gives, Asks, AsksSome, AsksTo}

module _ {X : Type 0} where
  -- the same end, whatever its part has answered
  abbrev pub Stays : (old new : Option (EndView X)) → Type 0
  Stays old new = MatchOption old (new ≡ None) (λ end. (tally : Tally) × (new ≡ Some (record end { tally = tally })))

  -- One steal of each end before that of part p in a round that begins at this part, and one of that of p, which gave this item.
  pub record AsksRound (first p : ℕ) (x : X) (old new : List (Option (EndView X))) : Type 0 where
    pub long : length new ≡ length old
    pub within : p < length old
    pub gives : Gives x (end_at old p) (end_at new p)
    pub before : (q : ℕ) → q < length old → IsAskedBefore first q p → SeesNone (end_at old q) (end_at new q)
    pub after : (q : ℕ) → q < length old → IsAskedBefore first p q → end_at new q ≡ end_at old q
    pub others : (q : ℕ) → q ≢ p → Stays (end_at old q) (end_at new q)

  -- what a round from one part up to another did
  abbrev pub DidParts : (from to : ℕ) → Round X → (old new : List (Option (EndView X))) → Type 0
  DidParts from to (Got p x) old new = (p < to) × AsksTo from p x old new
  DidParts from to Empty old new = Asks SeesEmpty from to old new
  DidParts from to Again old new = AsksSome from to old new

  -- what a whole round did that begins at this part
  abbrev pub DidRound : (first : ℕ) → Round X → (old new : List (Option (EndView X))) → Type 0
  DidRound first (Got p x) old new = AsksRound first p x old new
  DidRound first Empty old new = Asks SeesEmpty 0 (length old) old new
  DidRound first Again old new = AsksSome 0 (length old) old new

  -- what a take did
  abbrev pub DidTake : Taken X → (old new : TakeView X) → Type 0
  DidTake (taken.Item x) old new = (p : ℕ) × AsksRound old.next p x old.ends new.ends × (new ≡ record old { calls = old.calls + 1; items = old.items ++ x ∷ []; next = p + 1; ends = new.ends })
  DidTake taken.Empty old new = Asks SeesEmpty 0 (length old.ends) old.ends new.ends × (new ≡ record old { calls = old.calls + 1; ends = new.ends })
  DidTake taken.Again old new = AsksSome 0 (length old.ends) old.ends new.ends × (new ≡ record old { calls = old.calls + 1; ends = new.ends })
