-- Lawful words, and how many words code has.
use Rattle.std.proofs.Common.{◌≡◌, ℕ, ◌≤◌, List, length, None, arith}
use Rattle.a64_word.specs.Words.{words_of}
use Rattle.a64_word.proofs.WordLaws.{words_count}
use Rattle.lfi_module.specs.declared.profile.Profile.{Profile}
use Rattle.lfi_module.specs.Numbers.{most_words}
use Rattle.lfi_rules.specs.Faults.{FirstFault}
use Rattle.lfi_check.specs.Checking.{IsCode}

pub lawful : (profile : Profile) (xs ys : List ℕ) → xs ≡ ys → FirstFault profile (words_of xs) (length (words_of xs)) None → FirstFault profile (words_of ys) (length (words_of ys)) None
lawful profile xs ys e found = rw (← e) found

-- code has no more words than a module, and one at least
pub few : (bytes : List ℕ) → IsCode bytes → length (words_of bytes) ≤ most_words
few bytes code = let count = words_count bytes in let most = code.2 in omega (arith, count, most)

pub some_words : (bytes : List ℕ) → IsCode bytes → 1 ≤ length (words_of bytes)
some_words bytes code = let count = words_count bytes in let some = code.0 in let whole = code.1 in omega (arith, count, some, whole)
