-- What a call of the pool found at its slots. Source: this project's own, crates/page_buf/src/lib.rt.
use Rattle.std.specs.Prelude.{◌≡◌, ◌≢◌, ℕ, zero, suc, ◌<◌, List, ◌∷◌}
use Rattle.page_buf.specs.declared.knowledge.SeenSlot.{SeenSlot}

-- the numbers of a slot's word
abbrev pub empty : ℕ
empty = 0

-- a slot that a seat is at
abbrev pub busy : ℕ
busy = 1

-- a slot with a page
abbrev pub full : ℕ
full = 2

-- slots 0 to k-1 were each found to hold another number than n, the last first
abbrev pub Passed : ℕ → ℕ → List SeenSlot → List SeenSlot → Type 0
Passed n zero old new = new ≡ old
Passed n (suc k) old new = (found : ℕ) × (rest : List SeenSlot) × (found ≢ n) × (new ≡ record { slot = k; number = found } ∷ rest) × Passed n k old rest

-- slots 0 to k-1 were each found to hold another number than n, and slot k to hold n
abbrev pub Found : ℕ → List SeenSlot → List SeenSlot → Type 0
Found n old new = (k : ℕ) × (rest : List SeenSlot) × (k < 64) × (new ≡ record { slot = k; number = n } ∷ rest) × Passed n k old rest
