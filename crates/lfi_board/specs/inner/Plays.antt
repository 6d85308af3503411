-- What each step on the board's words tells its seat, and what the seat knows after it.
use Rattle.std.specs.Prelude.{◌≡◌, ℕ, ◌<◌, ◌≤◌, if◌then◌else◌, ◌==◌, [], ◌∷◌, length}
use Rattle.atomic_table.specs.Table.{Me, Step}
use Rattle.lfi_board.specs.declared.knowledge.Knowledge.{Knowledge}
use Rattle.lfi_board.specs.Knowledge.{total, onlooker, knowledge_of, sees, claims, ends, Follows}
use Rattle.lfi_board.specs.inner.Rule.{View, receiving, claims_of, taken}

abbrev Mine : Type 0
Mine = Me (Unit {0}) View

abbrev At : Type 0
At = Step (Unit {0})

-- the seat before, the number found, and the seat after, which knows h'
abbrev pub Tells : Mine → ℕ → ℕ → Mine → Knowledge → Type 0
Tells m word found m' h' = Follows (knowledge_of m.0).seen word found × (m'.0 ≡ h' ∷ []) × (m'.1 ≡ m.1)

abbrev pub sat : At → Mine → ℕ → Mine → Type 0
sat st m found m' = m'.0 ≡ onlooker (knowledge_of m.0).receivers ∷ []

-- a free module becomes open, and nothing else
abbrev pub claimed : At → Mine → ℕ → Mine → Type 0
claimed st m found m' = (st.second ≡ 1) × (found < 4) × Tells m st.word found m' (if found == 0 then claims st.word (knowledge_of m.0) else sees st.word found (knowledge_of m.0))

abbrev pub changed : At → Mine → ℕ → Mine → Type 0
changed st m found m' = (found < 4) × Tells m st.word found m' (sees st.word (if found == 1 then st.second else found) (knowledge_of m.0))

abbrev pub looked : At → Mine → ℕ → Mine → Type 0
looked st m found m' = (st.word < 16 → found < 4) × (st.word ≡ 16 → found ≤ (knowledge_of m.0).receivers) × Tells m st.word found m' (sees st.word found (knowledge_of m.0))

abbrev pub ended : At → Mine → ℕ → Mine → Type 0
ended st m found m' = (found < (knowledge_of m.0).receivers) × Tells m 16 found m' (ends found (knowledge_of m.0))

-- the number found may follow what each of them has seen
abbrev pub AllFollow : View → ℕ → ℕ → Type 0
AllFollow [] word found = Unit {0}
AllFollow (h ∷ hs) word found = Follows h.seen word found × AllFollow hs word found

-- the number of receivers, as the last of them has it
abbrev pub board_size : View → ℕ
board_size [] = 0
board_size (h ∷ []) = h.receivers
board_size (h ∷ k ∷ hs) = board_size (k ∷ hs)

-- they may have seen what leads to the number found, and those of all receivers were answered `Mine` once where it isn't 0, and else never
abbrev pub Told : View → ℕ → ℕ → Type 0
Told v word found = (found < 4) × AllFollow v word found × (0 < length v → total receiving v ≡ board_size v → total (claims_of word) v ≡ taken found)

abbrev pub asked : At → Mine → ℕ → Mine → Type 0
asked st m found m' = (m' ≡ m) × Told m.0 st.word found
