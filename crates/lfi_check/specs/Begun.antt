-- What is known of a module of which a beginning has been judged.
use Rattle.std.specs.Prelude.{◌≡◌, ℕ, ◌*◌, ◌≤◌, List, length, None}
use Rattle.lfi_module.specs.Numbers.{most_words}
use Rattle.a64_word.specs.Words.{words_of}
use Rattle.lfi_rules.specs.Faults.{FirstFault}
use Rattle.lfi_rules.specs.Verdicts.{LeavesOpen}
use Rattle.lfi_check.specs.declared.beginning.Beginning.{Beginning}

-- The bytes, which are whole words, are those that have been judged of the beginning's module.
pub record Begins (beginning : Beginning) (bytes : List ℕ) : Type 0 where
  pub whole : length bytes ≡ 4 * beginning.judged
  pub room : beginning.judged ≤ beginning.words
  pub most : beginning.words ≤ most_words
  pub first : FirstFault beginning.profile (words_of bytes) beginning.words beginning.fault
  pub left : beginning.fault ≡ None → LeavesOpen beginning.profile (words_of bytes) beginning.tail
