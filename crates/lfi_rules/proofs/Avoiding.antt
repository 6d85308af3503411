-- Instructions that write few of the registers that the profile reserves, and keep the rules on these.
use Rattle.std.proofs.Common.{◌≡◌, ℕ, eqb, List, [], Bool, true, false, None, refl, ap, sym, subst, ◌∙◌, inl, inr}
use Rattle.std.specs.Prelude.{if◌then◌else◌}
use Rattle.std.proofs.lemmas.Bool.{cases_Bool}
use Rattle.a64_word.specs.declared.instruction.Instruction.{Instruction}
use Rattle.a64_word.specs.Encoding.{Spells}
use Rattle.a64_word.specs.Profiles.{is_of}
use Rattle.a64_word.specs.declared.operands.Width.{Width}
use Rattle.a64_word.specs.declared.operands.Width.TheVariants as widths
use Rattle.a64_effects.specs.Uses.{Use, general, or_sp, width_in}
use Rattle.a64_effects.specs.Effects.{writes_of, address_of, target_of}
use Rattle.lfi_rules.specs.declared.needs.Need.{Need}
use Rattle.lfi_rules.specs.declared.needs.Need.TheVariants.{Nothing, Call, Guard}
use Rattle.lfi_rules.specs.declared.rule.Rule.TheVariants as rules
use Rattle.lfi_module.specs.declared.profile.Profile.TheVariants.{One}
use Rattle.lfi_rules.specs.Needs.{opens_of, loads_link, loads_entry, moves_stack}
use Rattle.lfi_rules.specs.Rules.{written, keeps, is_confined, is_inside, is_bounded, is_narrow}
use Rattle.lfi_rules.specs.inner.Quiet.{IsUnreserved, IsFree, IsQuiet, IsQuietWord}

-- Of the reserved registers none is written but x30 and sp, and x22 as a W register.
pub record Avoids (uses : List Use) : Type 0 where
  pub first_address : width_in uses 18 ≡ None
  pub base : width_in uses 21 ≡ None
  pub offset : is_narrow (width_in uses 22) ≡ true
  pub second_address : width_in uses 23 ≡ None
  pub third_address : width_in uses 24 ≡ None

-- x30 and sp aren't either.
pub record Spares (uses : List Use) : Type 0 where
  pub avoids : Avoids uses
  pub link : width_in uses 30 ≡ None
  pub stack : width_in uses 31 ≡ None

pub avoids_none : Avoids []
avoids_none = record { first_address = refl; base = refl; offset = refl; second_address = refl; third_address = refl }

pub avoids_stack : Avoids (or_sp 31 widths.X [])
avoids_stack = record { first_address = refl; base = refl; offset = refl; second_address = refl; third_address = refl }

pub avoids_link : (uses : List Use) → Avoids uses → Avoids (general 30 widths.X uses)
avoids_link uses a = record { first_address = a.first_address; base = a.base; offset = a.offset; second_address = a.second_address; third_address = a.third_address }

pub not_used : (r place : ℕ) (width : Width) (uses : List Use) → eqb r place ≡ false → width_in (general r width uses) place ≡ width_in uses place
not_used r place width uses h = elim (cases_Bool (eqb r 31)) [
  | inl zr ↦ rw zr refl
  | inr other ↦ rw other (rw h refl)
]

-- one more register, which isn't reserved
pub avoids_more : (r : ℕ) (width : Width) (uses : List Use) → IsUnreserved r → Avoids uses → Avoids (general r width uses)
avoids_more r width uses free a = record {
  first_address = not_used r 18 width uses free.first_address ∙ a.first_address;
  base = not_used r 21 width uses free.base ∙ a.base;
  offset = ap is_narrow (not_used r 22 width uses free.offset) ∙ a.offset;
  second_address = not_used r 23 width uses free.second_address ∙ a.second_address;
  third_address = not_used r 24 width uses free.third_address ∙ a.third_address;
}

pub no_stack : (r : ℕ) (width : Width) (uses : List Use) → width_in uses 31 ≡ None → width_in (general r width uses) 31 ≡ None
no_stack r width uses e = elim (cases_Bool (eqb r 31)) [
  | inl zr ↦ rw zr e
  | inr other ↦ rw other (rw other e)
]

pub spares_none : Spares []
spares_none = record { avoids = avoids_none; link = refl; stack = refl }

-- x22 as a W register
pub spares_offset : Spares (or_sp 22 widths.W [])
spares_offset = record { avoids = record { first_address = refl; base = refl; offset = refl; second_address = refl; third_address = refl }; link = refl; stack = refl }

pub spares_more : (r : ℕ) (width : Width) (uses : List Use) → IsUnreserved r → Spares uses → Spares (general r width uses)
spares_more r width uses free s = record {
  avoids = avoids_more r width uses free s.avoids;
  link = not_used r 30 width uses free.link ∙ s.link;
  stack = no_stack r width uses s.stack;
}

pub spares_one : (r : ℕ) (width : Width) → IsUnreserved r → Spares (general r width [])
spares_one r width free = spares_more r width [] free spares_none

-- where number 31 would be sp
pub spares_free : (r : ℕ) (width : Width) → IsFree r → Spares (or_sp r width [])
spares_free r width free = record {
  avoids = record {
    first_address = rw free.unreserved.first_address refl;
    base = rw free.unreserved.base refl;
    offset = rw free.unreserved.offset refl;
    second_address = rw free.unreserved.second_address refl;
    third_address = rw free.unreserved.third_address refl;
  };
  link = rw free.unreserved.link refl;
  stack = rw free.stack refl;
}

-- and where flags decide which of both it would be
pub spares_either : (flags : Bool) (r : ℕ) (width : Width) → IsFree r → Spares (if flags then general r width [] else or_sp r width [])
spares_either true r width free = spares_one r width free.unreserved
spares_either false r width free = spares_free r width free

pub link_kept : (i : Instruction) (k n : ℕ) → width_in (writes_of i) 30 ≡ None → keeps i k n rules.LinkGuarded ≡ true
unfolding written
link_kept i k n e = let e30 : written i 30 ≡ None = e in rw e30 refl

pub stack_kept : (i : Instruction) (k n : ℕ) → width_in (writes_of i) 31 ≡ None → keeps i k n rules.StackBounded ≡ true
unfolding written
stack_kept i k n e = let e31 : written i 31 ≡ None = e in rw e31 refl

-- An instruction that avoids them is quiet where it keeps the rules on x30, sp, accesses and branches.
pub quiet_avoiding : (i : Instruction) (k n : ℕ) (need : Need) → Avoids (writes_of i) → keeps i k n rules.LinkGuarded ≡ true → keeps i k n rules.StackBounded ≡ true
    → is_confined (address_of i) ≡ true → is_inside n (target_of i k) ≡ true → is_bounded i ≡ true → opens_of One i ≡ need → IsQuiet i k n need
unfolding written
quiet_avoiding i k n need a link stack confined inside bounded opens =
    let e18 : written i 18 ≡ None = a.first_address in
    let e21 : written i 21 ≡ None = a.base in
    let e23 : written i 23 ≡ None = a.second_address in
    let e24 : written i 24 ≡ None = a.third_address in
    record {
      confined = confined;
      base = rw e21 refl;
      address = rw (e18, e23, e24) refl;
      link = link;
      offset = a.offset;
      stack = stack;
      target = inside;
      branch = bounded;
      opens = opens;
    }

-- One that spares them is quiet where it keeps the rules on accesses and branches.
pub sparing : (k n : ℕ) (i : Instruction) → (uses : List Use) → writes_of i ≡ uses → Spares uses
    → is_confined (address_of i) ≡ true → is_inside n (target_of i k) ≡ true → is_bounded i ≡ true → opens_of One i ≡ Nothing → IsQuiet i k n Nothing
sparing k n i uses e s confined inside bounded opens =
    quiet_avoiding i k n Nothing (subst Avoids (sym e) s.avoids) (link_kept i k n (ap (λ u. width_in u 30) e ∙ s.link))
    (stack_kept i k n (ap (λ u. width_in u 31) e ∙ s.stack)) confined inside bounded opens

pub quiet_sparing : (w k n : ℕ) (i : Instruction) → is_of One i ≡ true → Spells i w → (uses : List Use) → writes_of i ≡ uses → Spares uses
    → is_confined (address_of i) ≡ true → is_inside n (target_of i k) ≡ true → is_bounded i ≡ true → opens_of One i ≡ Nothing → IsQuietWord w k n Nothing
quiet_sparing w k n i of_one spells uses e s confined inside bounded opens = record {
  instruction = i;
  of_one = of_one;
  spells = spells;
  quiet = sparing k n i uses e s confined inside bounded opens;
}

pub opens_none : (i : Instruction) → loads_entry i ≡ false → loads_link i ≡ false → moves_stack i ≡ false → opens_of One i ≡ Nothing
opens_none i a b c = rw (a, b, c) refl

pub opens_guard : (i : Instruction) → loads_entry i ≡ false → loads_link i ≡ true → opens_of One i ≡ Guard
opens_guard i a b = rw (a, b) refl

pub opens_call : (i : Instruction) → loads_entry i ≡ true → opens_of One i ≡ Call
opens_call i a = rw a refl

pub same_if : (b : Bool) (uses : List Use) → (if b then uses else uses) ≡ uses
same_if true uses = refl
same_if false uses = refl
