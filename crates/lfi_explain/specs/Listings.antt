-- The lines of a listing.
use Rattle.std.specs.Prelude.{◌≡◌, ℕ, zero, suc, ◌-◌, nat_lt, ℤ, List, [], ◌∷◌, ◌++◌, length, flat_map, replicate, slice_get, codes, decimal, Option, Some, None, if◌then◌else◌}
use Rattle.std.specs.Fmt.{signed_decimal}
use Rattle.std.specs.Io.KnownBytes.{Appends}
use Rattle.lfi_module.specs.declared.profile.Profile.{Profile}
use Rattle.lfi_rules.specs.declared.needs.Need.{Need}
use Rattle.lfi_rules.specs.declared.needs.Need.TheVariants.{Nothing, Probe}
use Rattle.lfi_rules.specs.declared.rule.Rule.{Rule}
use Rattle.lfi_rules.specs.Faults.{IsLeastAt}
use Rattle.lfi_rules.specs.Rules.{is_inside, rule_number}
use Rattle.lfi_explain.specs.declared.listing.ListedWord.{ListedWord}
use Rattle.lfi_explain.specs.declared.listing.Marks.{Marks}
use Rattle.lfi_explain.specs.declared.listing.Marks.TheVariants.{NoMarks, BrokenRules}
use Rattle.lfi_explain.specs.Spellings.{IsSpelling, located_text, opened_by, target_by}
use Rattle.lfi_explain.specs.Sentences.{meeting_text}

-- where a direct branch goes, in a module of n words
abbrev pub arrow_text : (n : ℕ) → Option ℤ → List ℕ
arrow_text n (Some place) =
    if is_inside n (Some place) then codes "  -> word " ++ signed_decimal place else codes "  -> outside, word " ++ signed_decimal place
arrow_text n None = []

-- among which words the one is that meets a need
abbrev pub among_text : Need → List ℕ
among_text (Probe count) = if nat_lt 1 count then codes "one of the next " ++ decimal count else codes "next"
among_text need = codes "next"

-- what a word asks of those after it
abbrev pub opened_text : Need → List ℕ
opened_text = elim [ Nothing ↦ [] | need ↦ codes "  ; opens: " ++ among_text need ++ codes " is " ++ meeting_text need ]

-- which rule a marked word breaks
abbrev pub mark_text : Option Rule → List ℕ
mark_text (Some rule) = codes "  ; rule " ++ decimal (rule_number rule)
mark_text None = []

-- a place in a column of seven, with spaces before it
abbrev pub column : ℕ → List ℕ
column place = replicate (7 - length (decimal place)) 32 ++ decimal place

-- the place, the word at its address, where it goes, what it opens, and its mark
abbrev pub listed_text : ListedWord → List ℕ
listed_text listed =
    let located = listed.located in
    column located.place ++ codes "  "
    ++ located_text located.slot located.place located.spelling
    ++ arrow_text listed.words (target_by located.spelling located.place) ++ opened_text (opened_by located.spelling)
    ++ mark_text listed.broken

-- The word at place k is marked with the least rule that it breaks, where it breaks one and marks are asked for; no other word is marked.
abbrev pub IsMark : (marks : Marks) → Profile → List ℕ → (k : ℕ) → Option Rule → Type 0
IsMark BrokenRules profile ws k broken = IsLeastAt profile ws (length ws) k broken
IsMark NoMarks profile ws k broken = broken ≡ None

-- It is the word at place k of the words of a module in a slot.
pub record IsListed (marks : Marks) (profile : Profile) (ws : List ℕ) (slot k : ℕ) (listed : ListedWord) : Type 0 where
  pub same_slot : listed.located.slot ≡ slot
  pub place : listed.located.place ≡ k
  pub spelling : (word : ℕ) → slice_get ws k ≡ Some word → IsSpelling profile word listed.located.spelling
  pub count : listed.words ≡ length ws
  pub mark : IsMark marks profile ws k listed.broken

-- the words at the first `count` places, in order
abbrev pub AreListed : (marks : Marks) → Profile → List ℕ → (slot count : ℕ) → List ListedWord → Type 0
AreListed marks profile ws slot zero all = all ≡ []
AreListed marks profile ws slot (suc k) all =
    (before : List ListedWord) × (here : ListedWord) × AreListed marks profile ws slot k before × IsListed marks profile ws slot k here
    × (all ≡ before ++ here ∷ [])

-- a word's line of a listing
abbrev pub listed_line : ListedWord → List ℕ
listed_line listed = listed_text listed ++ codes "\n"

-- A line was written for each word, with a mark where that is asked for.
abbrev pub WritesListing : (marks : Marks) → Profile → List ℕ → (slot : ℕ) → (old new : Option (List ℕ)) → Type 0
WritesListing marks profile ws slot old new = (all : List ListedWord) × AreListed marks profile ws slot (length ws) all × Appends old new (flat_map listed_line all)
