-- Parts of buffers and lists, and the bytes of words.
use Rattle.std.proofs.Common.{◌≡◌, ℕ, zero, suc, ◌*◌, ◌%◌, ◌<◌, List, [], ◌∷◌, ◌++◌, length, get_or, refl, sym, ◌∙◌, ap, subst, arith, append_assoc, append-nil}
use Rattle.std.specs.Int.{w32, to_le_bytes, from_le_bytes}
use Rattle.std.proofs.lemmas.Nat.{le_bytes_4}
use Rattle.std.proofs.Common.{Option}
use Rattle.std.specs.Io.KnownBytes.{Appends}
use Rattle.std.proofs.KnownBytes.{Appends-trans}
use Rattle.a64_word.specs.Words.{words_of}
use Rattle.a64_word.proofs.WordLaws.{words_count}
use Rattle.lfi_image_file.specs.Files.{code_of}

abbrev pub IsBytes : List ℕ → Type 0
IsBytes xs = (i : ℕ) → get_or xs i 0 < 256

four : (a b c d i : ℕ) → a < 256 → b < 256 → c < 256 → d < 256 → get_or (a ∷ b ∷ c ∷ d ∷ []) i 0 < 256
four a b c d zero la lb lc ld = la
four a b c d (suc zero) la lb lc ld = lb
four a b c d (suc (suc zero)) la lb lc ld = lc
four a b c d (suc (suc (suc zero))) la lb lc ld = ld
four a b c d (suc (suc (suc (suc i)))) la lb lc ld = omega arith

-- whole words spell their bytes again
pub code_of_words : (xs : List ℕ) → length xs % 4 ≡ 0 → IsBytes xs → code_of (words_of xs) ≡ xs
code_of_words (a ∷ b ∷ c ∷ d ∷ rest) whole small =
    let word : to_le_bytes w32 (from_le_bytes w32 (a ∷ b ∷ c ∷ d ∷ [])) ≡ a ∷ b ∷ c ∷ d ∷ [] =
    le_bytes_4 (a ∷ b ∷ c ∷ d ∷ []) _ refl (λ i. four a b c d i (small 0) (small 1) (small 2) (small 3)) refl in
    ap (λ l. l ++ code_of (words_of rest)) word ∙ ap (λ l. a ∷ b ∷ c ∷ d ∷ l) (code_of_words rest (omega (arith, whole)) (λ i. small (suc (suc (suc (suc i))))))
code_of_words (a ∷ b ∷ c ∷ []) whole small = absurd (omega (arith, whole))
code_of_words (a ∷ b ∷ []) whole small = absurd (omega (arith, whole))
code_of_words (a ∷ []) whole small = absurd (omega (arith, whole))
code_of_words [] whole small = refl

-- words one after another
pub words_of-append : (xs ys : List ℕ) → length xs % 4 ≡ 0 → words_of (xs ++ ys) ≡ words_of xs ++ words_of ys
words_of-append (a ∷ b ∷ c ∷ d ∷ rest) ys whole = ap (λ l. from_le_bytes w32 (a ∷ b ∷ c ∷ d ∷ []) ∷ l) (words_of-append rest ys (omega (arith, whole)))
words_of-append (a ∷ b ∷ c ∷ []) ys whole = absurd (omega (arith, whole))
words_of-append (a ∷ b ∷ []) ys whole = absurd (omega (arith, whole))
words_of-append (a ∷ []) ys whole = absurd (omega (arith, whole))
words_of-append [] ys whole = refl

pub code_of-append : (ws vs : List ℕ) → code_of (ws ++ vs) ≡ code_of ws ++ code_of vs
code_of-append [] vs = refl
code_of-append (w ∷ ws) vs = ap (λ l. to_le_bytes w32 w ++ l) (code_of-append ws vs) ∙ sym (append_assoc (to_le_bytes w32 w) (code_of ws) (code_of vs))

-- a writer that took nothing more
pub grown_none : (a b c : Option (List ℕ)) (xs : List ℕ) → Appends a b xs → Appends b c [] → Appends a c xs
grown_none a b c xs before now = subst (Appends a c) (append-nil xs) (Appends-trans a b c _ _ before now)

-- a page has a word for four bytes
pub word_count : (xs : List ℕ) (n : ℕ) → length xs ≡ 4 * n → length (words_of xs) ≡ n
word_count xs n e = omega (arith, words_count xs, e)
