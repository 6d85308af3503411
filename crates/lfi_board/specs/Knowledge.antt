-- What a seat knows of its board, and what it may find there later.
use Rattle.std.specs.Prelude.{◌≡◌, ℕ, ◌+◌, ◌<◌, ◌≤◌, true, false, if◌then◌else◌, ◌==◌, List, [], ◌∷◌}
use Rattle.lfi_module.specs.Numbers.{module_count}
use Rattle.lfi_board.specs.declared.knowledge.Knowledge.{Knowledge}
use Rattle.lfi_board.specs.declared.knowledge.SeenWord.{SeenWord}

-- the word that counts the receivers that have ended; those before it are the modules' phases
abbrev pub ended_word : ℕ
ended_word = module_count

-- a word that held p may hold n later: no word falls, and a phase that is refused or done stays
abbrev pub IsSince : ℕ → ℕ → ℕ → Type 0
IsSince word p n = (p ≤ n) × (word < module_count → 2 ≤ p → n ≡ p)

-- the number found may follow each that was seen of the word before
abbrev pub Follows : List SeenWord → ℕ → ℕ → Type 0
Follows [] word found = Unit {0}
Follows (s ∷ ss) word found = (s.word ≡ word → IsSince word s.number found) × Follows ss word found

-- f of each, added up
abbrev pub total : {X : Type 0} → (X → ℕ) → List X → ℕ
total f [] = 0
total f (x ∷ xs) = f x + total f xs

-- how often the module stands in the list
abbrev pub times : ℕ → List ℕ → ℕ
times m = total (λ k. if k == m then 1 else 0)

-- a receiver that has done nothing yet, of a board with n receivers
abbrev pub receiver_knowledge : ℕ → Knowledge
receiver_knowledge n = record { receivers = n; is_receiver = true; claimed = []; ended = false; seen = [] }

-- one that only looks, or ends a module
abbrev pub onlooker : ℕ → Knowledge
onlooker n = record { receivers = n; is_receiver = false; claimed = []; ended = false; seen = [] }

-- the first of what several seats know
abbrev pub knowledge_of : List Knowledge → Knowledge
knowledge_of [] = onlooker 0
knowledge_of (h ∷ hs) = h

-- a word of the board, and the number that it held
abbrev pub seen_word : ℕ → ℕ → SeenWord
seen_word word number = record { word = word; number = number }

-- it has seen that the word holds the number
abbrev pub sees : ℕ → ℕ → Knowledge → Knowledge
sees word number h = record h { seen = seen_word word number ∷ h.seen }

-- it was answered `Mine` for the module, and has seen it open
abbrev pub claims : ℕ → Knowledge → Knowledge
claims m h = record (sees m 1 h) { claimed = m ∷ h.claimed }

-- it has told its end, when n had ended before
abbrev pub ends : ℕ → Knowledge → Knowledge
ends n h = record (sees ended_word (n + 1) h) { ended = true }
