-- What a state stands for, before a piece and after it.
use Rattle.std.proofs.Common.{◌≡◌, ℕ, ◌≤◌, List, Option, Some, refl, sym, ap, subst, ◌∙◌, arith}
use Rattle.a64_word.specs.Words.{words_of}
use Rattle.lfi_module.specs.declared.profile.Profile.{Profile}
use Rattle.lfi_module.specs.declared.profile.Profile.TheVariants.{One, Two}
use Rattle.lfi_module.specs.Profiles.{profile_number}
use Rattle.lfi_rules.specs.declared.needs.Need.{Need}
use Rattle.lfi_rules.specs.declared.fault.Fault.{Fault}
use Rattle.lfi_rules.specs.Faults.{FirstFault}
use Rattle.lfi_check.specs.Begun.{Begins}
use Rattle.lfi_check.specs.declared.beginning.Beginning.{Beginning}
use Rattle.lfi_verifier.specs.declared.state.LfiState.{LfiState}
use Rattle.lfi_verifier.specs.States.{Keeps, IsState, StandsFor, Fits, HasRoom, TellsSoFar, status_after}
use Rattle.lfi_verifier.specs.Statuses.{status_number}

abbrev beginning : Profile → (words judged : ℕ) → Option Fault → Need → Beginning
beginning profile words judged fault tail = record { profile = profile; words = words; judged = judged; fault = fault; tail = tail }

parts : (a b : Beginning) → a.profile ≡ b.profile → a.words ≡ b.words → a.judged ≡ b.judged → a.fault ≡ b.fault → a.tail ≡ b.tail → a ≡ b
parts a b profile words judged fault tail =
    ap (λ x. beginning x a.words a.judged a.fault a.tail) profile ∙ ap (λ x. beginning b.profile x a.judged a.fault a.tail) words
    ∙ ap (λ x. beginning b.profile b.words x a.fault a.tail) judged ∙ ap (λ x. beginning b.profile b.words b.judged x a.tail) fault
    ∙ ap (λ x. beginning b.profile b.words b.judged b.fault x) tail

same_fault : (a b : Option Fault) → Some a ≡ Some b → a ≡ b
same_fault a b e = cc

same_need : (a b : Need) → Some a ≡ Some b → a ≡ b
same_need a b e = cc

-- a profile is known by its number
number_tells : (a b : Profile) → profile_number a ≡ profile_number b → a ≡ b
number_tells One One e = refl
number_tells One Two e = absurd (omega arith)
number_tells Two One e = absurd (omega arith)
number_tells Two Two e = refl

-- A state keeps one beginning.
pub one : (s : LfiState) (a b : Beginning) → Keeps s a → Keeps s b → a ≡ b
one s a b ka kb = parts a b (number_tells a.profile b.profile (sym ka.profile ∙ kb.profile)) (sym ka.words ∙ kb.words) (sym ka.judged ∙ kb.judged) (same_fault a.fault b.fault (sym ka.fault ∙ kb.fault)) (same_need a.tail b.tail (sym ka.need ∙ kb.need))

-- what a state stands for begins the one that it keeps
pub begun : (s : LfiState) (p : Profile) (words : ℕ) (bytes : List ℕ) (b : Beginning) → Keeps s b → StandsFor s p words bytes → Begins b bytes
begun s p words bytes b keeps h = subst (λ x. Begins x bytes) (one s h.beginning b h.keeps keeps) h.begins

pub count : (s : LfiState) (p : Profile) (words : ℕ) (bytes : List ℕ) (b : Beginning) → Keeps s b → StandsFor s p words bytes → b.words ≡ words
count s p words bytes b keeps h = sym (ap (λ x. x.words) (one s h.beginning b h.keeps keeps)) ∙ h.count

pub judged_by : (s : LfiState) (p : Profile) (words : ℕ) (bytes : List ℕ) (b : Beginning) → Keeps s b → StandsFor s p words bytes → b.profile ≡ p
judged_by s p words bytes b keeps h = sym (ap (λ x. x.profile) (one s h.beginning b h.keeps keeps)) ∙ h.judged_by

-- what it stands for is a state
pub is_state : (s : LfiState) (p : Profile) (words : ℕ) (bytes : List ℕ) → StandsFor s p words bytes → IsState s
is_state s p words bytes h =
    let some = h.some in
    let same = h.count in
    record { beginning = h.beginning; keeps = h.keeps; in_range = ((omega (arith, some, same), h.begins.most), h.begins.room) }

pub stands : (s : LfiState) (p : Profile) (words : ℕ) (bytes : List ℕ) (b : Beginning) → Keeps s b → Begins b bytes → b.profile ≡ p → b.words ≡ words → 1 ≤ words → StandsFor s p words bytes
stands s p words bytes b keeps begins goes count some = record { beginning = b; keeps = keeps; judged_by = goes; count = count; some = some; begins = begins }

pub so_far : (b : Beginning) (p : Profile) (words : ℕ) (bytes : List ℕ) (number : ℕ) → Begins b bytes → b.profile ≡ p → b.words ≡ words → number ≡ status_number (status_after b.fault) → TellsSoFar p words bytes number
so_far b p words bytes number begins goes count told =
    record { fault = b.fault; first = subst (λ q. FirstFault q (words_of bytes) words b.fault) goes (subst (λ n. FirstFault b.profile (words_of bytes) n b.fault) count begins.first); told = told }

-- a piece fits what a state stands for where the beginning that it keeps has room for it
pub room : (s : LfiState) (p : Profile) (words : ℕ) (bytes piece : List ℕ) (b : Beginning) → Keeps s b → StandsFor s p words bytes → Fits words bytes piece → HasRoom b piece
room s p words bytes piece b keeps h fits =
    let size = (begun s p words bytes b keeps h).whole in
    let same = count s p words bytes b keeps h in
    let most = fits.1 in
    (fits.0, omega (arith, size, same, most))

pub no_room : (s : LfiState) (p : Profile) (words : ℕ) (bytes piece : List ℕ) (b : Beginning) → Keeps s b → StandsFor s p words bytes → HasRoom b piece → Fits words bytes piece
no_room s p words bytes piece b keeps h has =
    let size = (begun s p words bytes b keeps h).whole in
    let same = count s p words bytes b keeps h in
    let most = has.1 in
    (has.0, omega (arith, size, same, most))
