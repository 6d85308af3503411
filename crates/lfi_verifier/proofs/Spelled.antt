-- The words of a mend.
use Rattle.std.proofs.Common.{◌≡◌, ℕ, zero, suc, ◌<◌, get_or, List, [], ◌∷◌, ◌++◌, length, refl, arith}
use Rattle.a64_word.specs.declared.instruction.Instruction.{Instruction}
use Rattle.a64_word.specs.Profiles.{SpellsIn}
use Rattle.lfi_module.specs.declared.profile.Profile.{Profile}
use Rattle.lfi_rules.specs.declared.needs.Need.{Need}
use Rattle.lfi_rules.specs.Needs.{opens_of}
use Rattle.lfi_mends.specs.Mends.{Leads}
use Rattle.lfi_verifier.specs.Mended.{AreSpelled, Spell}

-- instructions that stand one after another have words
pub leads_spelled : (profile : Profile) (before after : Need) (is : List Instruction) → Leads profile before is after → AreSpelled profile is
leads_spelled profile before after [] leads = tt
leads_spelled profile before after (i ∷ is) leads = ((leads.0.word, leads.0.spells), leads_spelled profile (opens_of profile i) after is leads.1)

-- one word more
pub spell_more : (profile : Profile) (is : List Instruction) (words : List ℕ) (i : Instruction) (word : ℕ) → Spell profile is words → SpellsIn profile i word → Spell profile (is ++ i ∷ []) (words ++ word ∷ [])
spell_more profile [] [] i word spell spells = (spells, tt)
spell_more profile [] (w ∷ words) i word spell spells = absurd spell
spell_more profile (j ∷ is) [] i word spell spells = absurd spell
spell_more profile (j ∷ is) (w ∷ words) i word spell spells = (spell.0, spell_more profile is words i word spell.1 spells)

-- as many words as instructions
pub spell_count : (profile : Profile) (is : List Instruction) (words : List ℕ) → Spell profile is words → length words ≡ length is
spell_count profile [] [] spell = refl
spell_count profile [] (w ∷ words) spell = absurd spell
spell_count profile (j ∷ is) [] spell = absurd spell
spell_count profile (j ∷ is) (w ∷ words) spell = let rest = spell_count profile is words spell.1 in omega (arith, rest)

-- an instruction of some that are spelled is spelled
pub spelled_at : (profile : Profile) (is : List Instruction) (k : ℕ) (d : Instruction) → AreSpelled profile is → k < length is → (word : ℕ) × SpellsIn profile (get_or is k d) word
spelled_at profile [] k d spelled inside = absurd (omega (arith, inside))
spelled_at profile (i ∷ is) zero d spelled inside = spelled.0
spelled_at profile (i ∷ is) (suc k) d spelled inside = spelled_at profile is k d spelled.1 (omega (arith, inside))
