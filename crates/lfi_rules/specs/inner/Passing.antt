-- What the pass over quiet words tells.
use Rattle.std.specs.Prelude.{◌≡◌, ◌≢◌, ℕ, ◌+◌, ◌-◌, ◌*◌, ◌/◌, ◌^◌, ◌<◌, ◌≤◌, ◌⊎◌, if◌then◌else◌, ◌==◌, nat_lt, ℤ, pos, negsuc, List, length, map, Some, None, slice_get, slice_index}
use Rattle.a64_word.specs.inner.Bits.{bits_at}
use Rattle.lfi_module.specs.declared.profile.Profile.{Profile}
use Rattle.lfi_module.specs.declared.profile.Profile.TheVariants.{Two}
use Rattle.lfi_classes.specs.Classes.{least_of}
use Rattle.lfi_classes.specs.declared.classes.Reach.{Reach}
use Rattle.lfi_classes.specs.declared.classes.Reach.TheVariants.{Quiet, Ordered}
use Rattle.lfi_rules.specs.declared.needs.Need.{Need}
use Rattle.lfi_rules.specs.declared.needs.Need.TheVariants.{Nothing, Call, Guard, Probe}
use Rattle.lfi_rules.specs.declared.fault.Fault.{Fault}
use Rattle.lfi_rules.specs.Needs.{term_of, window}
use Rattle.lfi_rules.specs.Calm.{IsCalm}
use Rattle.lfi_rules.specs.Faults.{Opens, Meets, IsDue, IsOpenAt, IsFirstInside}
use Rattle.lfi_rules.specs.inner.Quiet.{IsToldWord}
use Rattle.lfi_rules.specs.inner.Least.{IsLeastBroken, NoneBefore}

-- a need that an instruction opens in the first profile, as it does in a profile
abbrev pub in_profile : Profile → Need → Need
in_profile profile Nothing = Nothing
in_profile profile Call = Call
in_profile profile Guard = Guard
in_profile profile (Probe count) = Probe (window profile)

-- the number that bits stand for in two's complement, of which half stand for numbers below 0
abbrev pub signed_of : (half bits : ℕ) → ℤ
signed_of half bits = if nat_lt bits half then pos bits else negsuc (2 * half - 1 - bits)

-- of a direct branch, by bits 25 to 30 of its word: at which bit its offset begins, and half of the numbers that this may be
abbrev pub low_of : (kind : ℕ) → ℕ
low_of kind = if kind / 2 == 5 then 0 else 5

abbrev pub half_of : (kind : ℕ) → ℕ
half_of kind = if kind / 2 == 5 then 33554432 else (if kind == 27 then 8192 else 262144)

-- The field of a direct branch that holds its offset, and half of the numbers that it may hold: imm26, imm14 or imm19.
pub data IsOffset (word bits half : ℕ) : Type 0 where
  of_branch : bits_at word 26 5 ≡ 0b00101 → bits ≡ bits_at word 0 26 → half ≡ 2 ^ 25 → IsOffset word bits half
  of_bit_test : bits_at word 25 6 ≡ 0b011011 → bits ≡ bits_at word 5 14 → half ≡ 2 ^ 13 → IsOffset word bits half
  of_other : (bits_at word 26 5 ≡ 0b00101 → ⊥) → (bits_at word 25 6 ≡ 0b011011 → ⊥) → bits ≡ bits_at word 5 19 → half ≡ 2 ^ 18 → IsOffset word bits half

-- The places of a module from one on, up to another, of which no direct branch by 2,048 words leaves it.
pub record AreFarFromEnds (start stop n : ℕ) : Type 0 where
  pub from_start : 2048 ≤ start
  pub to_end : stop + 2048 ≤ n

-- a place of a module from which no direct branch by 2,048 words leaves it
pub record IsFarFromEnds (k n : ℕ) : Type 0 where
  pub start : 2048 ≤ k
  pub end : k + 2048 ≤ n

-- Where the classes from `least` on count as quiet, a word is told, wherever these do.
abbrev pub IsToldFrom : (least word : ℕ) → Type 0
IsToldFrom least word = (profile : Profile) (reach : Reach) (k n : ℕ) → least ≡ least_of reach → (reach ≢ Quiet → IsFarFromEnds k n) → (reach ≡ Ordered → profile ≡ Two)
    → IsToldWord profile word k n Nothing

-- `gone` words before a place are calm.
pub record AreCalmBefore (profile : Profile) (ws : List ℕ) (place gone : ℕ) : Type 0 where
  pub calm : (j word : ℕ) → place ≤ j + gone → j < place → slice_get ws j ≡ Some word → IsCalm profile word

-- The word after place i of ws, where there is one, meets a need.
abbrev pub IsMetAfter : Profile → List ℕ → (i : ℕ) → Need → Type 0
IsMetAfter profile ws i need = (next : ℕ) → slice_get ws (i + 1) ≡ Some next → Meets profile next need

-- The words ws stand in a module of n words from the place `first` on. The word at place i of them breaks no rule by itself, and
-- no later one fails what it opens.
pub record IsFine (profile : Profile) (ws : List ℕ) (first n i : ℕ) : Type 0 where
  pub alone : (word : ℕ) → slice_get ws i ≡ Some word → IsLeastBroken profile word Nothing (first + i) n None
  pub after : (d word : ℕ) (need : Need) → IsDue profile ws i d need → slice_get ws (i + d + 1) ≡ Some word
      → (Meets profile word need → ⊥) → (IsCalm profile word → d + 1 ≡ term_of need) → ⊥

-- The words from a place on, up to another, are fine.
pub record AreFine (profile : Profile) (ws : List ℕ) (first n start stop : ℕ) : Type 0 where
  pub each : (i : ℕ) → start ≤ i → i < stop → IsFine profile ws first n i

-- `gone` words after place i of ws are calm.
pub record AreCalmAfter (profile : Profile) (ws : List ℕ) (i gone : ℕ) : Type 0 where
  pub calm : (j word : ℕ) → i < j → j ≤ i + gone → slice_get ws j ≡ Some word → IsCalm profile word

-- The words ws stand in a module of n words from the place `first` on. The word at place i of them breaks no rule by itself, and
-- opens a need.
pub record OpensAt (profile : Profile) (ws : List ℕ) (first n i : ℕ) (need : Need) : Type 0 where
  pub word : ℕ
  pub at : slice_get ws i ≡ Some word
  pub alone : IsLeastBroken profile word Nothing (first + i) n None
  pub opens : Opens profile word need

-- `gone` words after place i, whose word opens a need, break no rule, and don't fail that need; and what is open after them.
pub record AreKeptAfter (profile : Profile) (ws : List ℕ) (first n i gone : ℕ) (need : Need) : Type 0 where
  pub left : IsOpenAt profile ws (i + gone + 1) need
  pub none : AreFine profile ws first n 0 i → NoneBefore profile ws first n (i + gone + 1)
  pub kept : (d word : ℕ) (opened : Need) → d < gone → IsDue profile ws i d opened → slice_get ws (i + d + 1) ≡ Some word
      → (Meets profile word opened → ⊥) → (IsCalm profile word → d + 1 ≡ term_of opened) → ⊥

-- a number is one of the first of a list
abbrev pub IsAmong : List ℕ → (count i : ℕ) → Type 0
IsAmong places count i = (p : ℕ) × (p < count) × (slice_index places p ≡ i)

-- Of the words from a place on, up to another, those that are at none of the first `count` places of a list are fine; these are
-- among them, in order.
pub record AreMarked (profile : Profile) (ws : List ℕ) (first n start stop : ℕ) (places : List ℕ) (count : ℕ) : Type 0 where
  pub fine : (i : ℕ) → start ≤ i → i < stop → IsFine profile ws first n i ⊎ IsAmong places count i
  pub low : (p : ℕ) → p < count → start ≤ slice_index places p
  pub high : (p : ℕ) → p < count → slice_index places p < stop
  pub rising : (p q : ℕ) → p < q → q < count → slice_index places p < slice_index places q

-- The place that is marked next, behind the first `at` of a list of `count`; the end, where none is left.
pub record IsNextMarked (places : List ℕ) (count stop at x : ℕ) : Type 0 where
  pub inside : at < count → x ≡ slice_index places at
  pub past : count ≤ at → x ≡ stop

-- Of the places that a list marks those before the first `at` are looked at. The words of those that weren't kept are fine; the
-- kept ones stand in front, and the others where they stood.
pub record AreKept (profile : Profile) (ws : List ℕ) (first n : ℕ) (old : List ℕ) (count at : ℕ) (new : List ℕ) (kept : ℕ) : Type 0 where
  pub rest : (p : ℕ) → at ≤ p → slice_index new p ≡ slice_index old p
  pub marked : (start stop x : ℕ) → AreMarked profile ws first n start stop old count → IsNextMarked old count stop at x → AreMarked profile ws first n start x new kept

-- places, each of them moved ahead
abbrev pub moved : (ahead : ℕ) → List ℕ → List ℕ
moved ahead notes = map (λ note. note + ahead) notes

-- A list marks places, once each is moved ahead.
abbrev pub AreNoted : (profile : Profile) (ws : List ℕ) (first n start stop ahead : ℕ) (notes : List ℕ) → Type 0
AreNoted profile ws first n start stop ahead notes = AreMarked profile ws first n start stop (moved ahead notes) (length notes)

-- Of the places that a list `more` marks those before the first `at` are looked at. The words of those that weren't kept are fine;
-- the kept ones stand behind the first `before` of a list of old ones.
pub record AreAdded (profile : Profile) (ws : List ℕ) (first n : ℕ) (old : List ℕ) (before : ℕ) (more : List ℕ) (count at : ℕ) (new : List ℕ) (kept : ℕ) : Type 0 where
  pub marked : (begin start stop x : ℕ) → begin ≤ start → start ≤ stop → AreMarked profile ws first n begin start old before → AreMarked profile ws first n start stop more count
      → IsNextMarked more count stop at x → AreMarked profile ws first n begin x new kept

-- each number of a list is below another
pub record AreWithin (places : List ℕ) (stop : ℕ) : Type 0 where
  pub each : (p : ℕ) → p < length places → slice_index places p < stop

-- the words at the first `count` places of a list are fine
pub record AreMarkedFine (profile : Profile) (ws : List ℕ) (first n : ℕ) (places : List ℕ) (count : ℕ) : Type 0 where
  pub each : (p : ℕ) → p < count → IsFine profile ws first n (slice_index places p)

-- A fault is the first one, where all words before some place of a list are fine; so are the words at the places before that one.
pub record IsFoundIn (profile : Profile) (ws : List ℕ) (first n : ℕ) (places : List ℕ) (fault : Fault) : Type 0 where
  pub p : ℕ
  pub within : p < length places
  pub before : AreMarkedFine profile ws first n places p
  pub found : AreFine profile ws first n 0 (slice_index places p) → IsFirstInside profile ws first n (Some fault)
