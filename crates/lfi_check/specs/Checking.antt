-- What the verifier finds of code. Source: this project's profile, docs/COMMANDS.md.
use Rattle.std.specs.Prelude.{◌≡◌, ℕ, ◌<◌, ◌≤◌, ◌%◌, ◌*◌, List, length, ◌++◌, codes, decimal, Some, None}
use Rattle.a64_word.specs.Words.{words_of}
use Rattle.lfi_module.specs.Numbers.{most_words}
use Rattle.lfi_module.specs.declared.profile.Profile.{Profile}
use Rattle.lfi_rules.specs.Faults.{FirstFault}
use Rattle.lfi_rules.specs.Texts.{fault_text}
use Rattle.lfi_check.specs.declared.verdict.Verdict.{Verdict}
use Rattle.lfi_check.specs.declared.verdict.Verdict.TheVariants.{Lawful, Refused, BadLength}

-- the bytes are those of whole words, at least one and no more than a module has
abbrev pub IsCode : List ℕ → Type 0
IsCode bytes = (0 < length bytes) × (length bytes % 4 ≡ 0) × (length bytes ≤ 4 * most_words)

-- the verdict on these bytes, by a profile
abbrev pub Checks : Profile → List ℕ → Verdict → Type 0
Checks profile bytes (Lawful n) = IsCode bytes × (n ≡ length (words_of bytes)) × FirstFault profile (words_of bytes) (length (words_of bytes)) None
Checks profile bytes (Refused fault) = IsCode bytes × FirstFault profile (words_of bytes) (length (words_of bytes)) (Some fault)
Checks profile bytes BadLength = ¬ (IsCode bytes)

-- the line that is printed
abbrev pub verdict_text : Verdict → List ℕ
verdict_text (Lawful n) = codes "lawful, " ++ decimal n ++ codes " words"
verdict_text (Refused fault) = fault_text fault
verdict_text BadLength = codes "bad length"
