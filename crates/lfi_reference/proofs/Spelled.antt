-- The words of bytes, by their places.
use Rattle.std.proofs.Common.{◌≡◌, ℕ, zero, suc, ◌+◌, ◌*◌, ◌<◌, List, [], ◌∷◌, length, get_or, refl, ap, ◌∙◌, arith}
use Rattle.std.specs.Int.{from_le_bytes, w32}
use Rattle.a64_word.specs.Words.{words_of}

abbrev pub word_at : List ℕ → ℕ → ℕ
word_at xs at = from_le_bytes w32 (get_or xs at 0 ∷ get_or xs (at + 1) 0 ∷ get_or xs (at + 2) 0 ∷ get_or xs (at + 3) 0 ∷ [])

abbrev spelled_at : List ℕ → ℕ → ℕ
spelled_at xs n = from_le_bytes w32 (get_or xs n 0 ∷ get_or xs (suc n) 0 ∷ get_or xs (suc (suc n)) 0 ∷ get_or xs (suc (suc (suc n))) 0 ∷ [])

spelled : (xs : List ℕ) (i n : ℕ) → n ≡ 4 * i → i < length (words_of xs) → spelled_at xs n ≡ get_or (words_of xs) i 0
spelled (a ∷ b ∷ c ∷ d ∷ rest) zero n e lt = ap (spelled_at (a ∷ b ∷ c ∷ d ∷ rest)) {x = n} {y = 0} (omega arith)
spelled (a ∷ b ∷ c ∷ d ∷ rest) (suc i) n e lt =
    let further : n ≡ suc (suc (suc (suc (4 * i)))) = omega arith in
    ap (spelled_at (a ∷ b ∷ c ∷ d ∷ rest)) further ∙ spelled rest i (4 * i) refl (omega arith)
spelled (a ∷ b ∷ c ∷ []) i n e lt = absurd (omega arith)
spelled (a ∷ b ∷ []) i n e lt = absurd (omega arith)
spelled (a ∷ []) i n e lt = absurd (omega arith)
spelled [] i n e lt = absurd (omega arith)

pub words_at : (xs : List ℕ) (i at : ℕ) → at ≡ 4 * i → i < length (words_of xs) → word_at xs at ≡ get_or (words_of xs) i 0
words_at xs i at e lt =
    let one : at + 1 ≡ suc at = omega arith in let two : at + 2 ≡ suc (suc at) = omega arith in let three : at + 3 ≡ suc (suc (suc at)) = omega arith in
    (λ j. from_le_bytes w32 (get_or xs at 0 ∷ get_or xs (one j) 0 ∷ get_or xs (two j) 0 ∷ get_or xs (three j) 0 ∷ [])) ∙ spelled xs i at e lt
