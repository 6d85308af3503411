-- The word that opens what is open at a place, found from there back.
use Rattle.std.proofs.Common.{◌≡◌, ℕ, ◌-◌, ◌<◌, ◌≤◌, true, false, List, length, Option, Some, None, refl, sym, subst, arith}
use Rattle.std.specs.Prelude.{slice_get, IfSome, if◌then◌else◌}
use Rattle.std.proofs.lemmas.Bool.{both_ways, le-ltb}
use Rattle.lfi_module.specs.declared.profile.Profile.{Profile}
use Rattle.a64_word.specs.declared.instruction.Instruction.{Instruction}
use Rattle.a64_word.specs.Profiles.{SpellsIn}
use Rattle.lfi_rules.specs.declared.needs.Need.TheVariants.{Nothing}
use Rattle.lfi_rules.specs.Needs.{opens_of, term_of, rest_of}
use Rattle.lfi_rules.specs.Calm.{is_calm, IsCalm}
use Rattle.lfi_rules.specs.Faults.{Opens, opens_by, opens_nothing, IsOpenAt}
use Rattle.lfi_rules.specs.inner.Passing.{AreCalmBefore}
use Rattle.lfi_rules.proofs.Before.{at_loud}
use Rattle.lfi_explain.specs.declared.spelling.Spelling.{Spelling}
use Rattle.lfi_explain.specs.Spellings.{IsSpelling, opened_by, is_calm_by}
use Rattle.lfi_explain.specs.Openers.{IsOpener}

-- what a word opens, and whether it is calm, by what spells it
pub opens_told : (p : Profile) (word : ℕ) (s : Spelling) → IsSpelling p word s → Opens p word (opened_by s)
opens_told p word s is = by_instruction s.instruction refl
  where
    by_instruction : (o : Option Instruction) → s.instruction ≡ o → Opens p word (opened_by s)
    by_instruction (Some i) e =
        opens_by i (subst (λ x. IfSome x (λ j. SpellsIn p j word)) e is.found)
        (subst (λ x. opens_of p i ≡ opened_by (record { word = s.word; profile = x; instruction = s.instruction; in_second = s.in_second })) (sym is.same_profile)
        (subst (λ x. opens_of p i ≡ opened_by (record { word = s.word; profile = p; instruction = x; in_second = s.in_second })) (sym e) refl))
    by_instruction None e =
        opens_nothing (λ i t. (let f : s.instruction ≡ Some i = is.only i t in cc))
        (subst (λ x. opened_by (record { word = s.word; profile = s.profile; instruction = x; in_second = s.in_second }) ≡ Nothing) (sym e) refl)

pub calm_told : (p : Profile) (word : ℕ) (s : Spelling) → IsSpelling p word s → is_calm_by s ≡ true → IsCalm p word
calm_told p word s is h = by_instruction s.instruction refl
  where
    by_instruction : (o : Option Instruction) → s.instruction ≡ o → IsCalm p word
    by_instruction (Some i) e = record {
      instruction = i;
      spells = subst (λ x. IfSome x (λ j. SpellsIn p j word)) e is.found;
      calm = subst (λ x. is_calm x i ≡ true) is.same_profile
          (subst (λ x. is_calm_by (record { word = s.word; profile = s.profile; instruction = x; in_second = s.in_second }) ≡ true) e h);
    }
    by_instruction None e =
        let k : false ≡ true = subst (λ x. is_calm_by (record { word = s.word; profile = s.profile; instruction = x; in_second = s.in_second }) ≡ true) e h in
        cc

pub loud_told : (p : Profile) (word : ℕ) (s : Spelling) → IsSpelling p word s → is_calm_by s ≡ false → IsCalm p word → ⊥
loud_told p word s is h calm =
    let f : s.instruction ≡ Some calm.instruction = is.only calm.instruction calm.spells in
    both_ways (is_calm p calm.instruction)
    (subst (λ x. is_calm x calm.instruction ≡ false) is.same_profile
    (subst (λ x. is_calm_by (record { word = s.word; profile = s.profile; instruction = x; in_second = s.in_second }) ≡ false) f h))
    calm.calm

-- a word behind calm ones opens a need that is due
pub opener_found : (p : Profile) (ws : List ℕ) (k gone word : ℕ) (s : Spelling) → AreCalmBefore p ws k gone → gone < k → k ≤ length ws → slice_get ws (k - 1 - gone) ≡ Some word → IsSpelling p word s
    → gone < term_of (opened_by s) → IsOpener p ws k (record { gone = gone; spelling = s })
opener_found p ws k gone word s calm within room at is term = record {
  place = k - 1 - gone;
  before = omega arith;
  word = word;
  at = at;
  spelling = is;
  due = record {
    opening = word;
    at = at;
    opens = opens_told p word s is;
    calm = λ j w low high there. calm.calm j w (omega arith) (omega arith) there;
    within = omega arith;
    term = term;
  };
}

-- or none that is
pub none_found : (p : Profile) (ws : List ℕ) (k gone word : ℕ) (s : Spelling) → AreCalmBefore p ws k gone → gone < k → k ≤ length ws → slice_get ws (k - 1 - gone) ≡ Some word → IsSpelling p word s
    → is_calm_by s ≡ false → term_of (opened_by s) ≤ gone → IsOpenAt p ws k Nothing
none_found p ws k gone word s calm within room at is loud late =
    subst (λ b. IsOpenAt p ws k (if b then rest_of (opened_by s) gone else Nothing)) (le-ltb gone (term_of (opened_by s)) late)
    (at_loud p ws k gone word (opened_by s) calm within room at (opens_told p word s is) (loud_told p word s is loud))
