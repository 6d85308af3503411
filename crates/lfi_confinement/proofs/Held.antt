-- What is written to registers keeps them lawful, but for a need.
use Rattle.std.proofs.Common.{◌≡◌, ◌≢◌, ℕ, ◌^◌, ◌<◌, ◌≤◌, Bool, true, false, List, [], ◌∷◌, length, get_or, set, Option, Some, None, sym, ap, subst, inl, inr, arith, eqb, eqb-true, get_or-set_other, get_or-set_same}
use Rattle.std.specs.List.{AllByRecursion}
use Rattle.std.proofs.Math.ListN.{length-set}
use Rattle.std.proofs.lemmas.Bool.{cases_eq, cond_both}
use Rattle.a64_word.specs.declared.operands.Width.{Width}
use Rattle.a64_word.specs.declared.operands.Width.TheVariants as widths
use Rattle.a64_word.specs.Operands.{bit}
use Rattle.a64_effects.specs.Uses.{Use}
use Rattle.a64_semantics.specs.declared.flags.Flags.{Flags}
use Rattle.a64_semantics.specs.declared.registers.Registers.{Registers}
use Rattle.a64_semantics.specs.Registers.{x_at, low_bits, Write, put, put_all, to_general}
use Rattle.a64_semantics.specs.Writes.{places_of, held_flags}
use Rattle.lfi_rules.specs.declared.needs.Need.{Need}
use Rattle.lfi_rules.specs.declared.needs.Need.TheVariants.{Nothing, Call, Guard, Probe}
use Rattle.lfi_confinement.specs.Slots.{InSlot}
use Rattle.lfi_confinement.specs.Lawful.{Held}
use Rattle.lfi_confinement.specs.inner.Invariant.{IsLinkFor, IsStackFor, HeldFor}
use Rattle.lfi_confinement.proofs.Uses.{Avoids, Narrow}

-- ---- one register

at_set : (xs : List ℕ) (n k v : ℕ) (P : ℕ → Type 0) → k < length xs → (n ≡ k → P v) → P (get_or xs k 0) → P (get_or (set xs n v) k 0)
at_set xs n k v P within here other = elim (cases_eq n k) [
  | inl e ↦ (let w : n < length xs = omega arith in let eq : get_or (set xs n v) k 0 ≡ v = rw (← e) (rw get_or-set_same) in subst P (sym eq) (here e))
  | inr ne ↦ (let d : k ≢ n = λ e. ne (sym e) in let eq : get_or (set xs n v) k 0 ≡ get_or xs k 0 = rw get_or-set_other in subst P (sym eq) other)
]

-- ---- results that keep registers lawful

-- what a result writes
abbrev pub value_of : Write → ℕ
value_of w = low_bits w.place.width w.value

pub record Fine (from : ℕ) (need : Need) (w : Write) : Type 0 where
  pub base : w.place.register ≢ 21
  pub offset : w.place.register ≡ 22 → value_of w < 2 ^ 32
  pub first : w.place.register ≡ 18 → InSlot from (value_of w)
  pub second : w.place.register ≡ 23 → InSlot from (value_of w)
  pub third : w.place.register ≡ 24 → InSlot from (value_of w)
  pub link : w.place.register ≡ 30 → IsLinkFor from need (value_of w)
  pub stack : w.place.register ≡ 31 → IsStackFor from need (value_of w)

abbrev pub AllFine : ℕ → Need → List Write → Type 0
AllFine from need ws = AllByRecursion (Fine from need) ws

pub kept_sp : (from : ℕ) (need : Need) (v : ℕ) (r : Registers) → HeldFor from need r → IsStackFor from need v → HeldFor from need (record r { sp = v })
kept_sp from need v r h s = record {
  count = h.count;
  base = h.base;
  first_address = h.first_address;
  second_address = h.second_address;
  third_address = h.third_address;
  link = h.link;
  offset = h.offset;
  stack = s;
  pc = h.pc;
  flags = h.flags;
}

kept_x : (from : ℕ) (need : Need) (w : Write) (r : Registers) → HeldFor from need r → Fine from need w
    → HeldFor from need (record r { x = set r.x w.place.register (value_of w) })
kept_x from need w r h f =
    let n = w.place.register in
    let v = value_of w in
    record {
      count = simp length-set h.count;
      base = at_set r.x n 21 v (λ x. x ≡ from) (omega (arith, h.count)) (λ e. absurd (f.base e)) h.base;
      first_address = at_set r.x n 18 v (InSlot from) (omega (arith, h.count)) f.first h.first_address;
      second_address = at_set r.x n 23 v (InSlot from) (omega (arith, h.count)) f.second h.second_address;
      third_address = at_set r.x n 24 v (InSlot from) (omega (arith, h.count)) f.third h.third_address;
      link = at_set r.x n 30 v (IsLinkFor from need) (omega (arith, h.count)) f.link h.link;
      offset = at_set r.x n 22 v (λ x. x < 2 ^ 32) (omega (arith, h.count)) f.offset h.offset;
      stack = h.stack;
      pc = h.pc;
      flags = h.flags;
    }

keeps_one : (from : ℕ) (need : Need) (w : Write) (r : Registers) → HeldFor from need r → Fine from need w → HeldFor from need (put w r)
keeps_one from need w r h f =
    cond_both (eqb w.place.register 31) (record r { sp = value_of w }) (record r { x = set r.x w.place.register (value_of w) }) (HeldFor from need)
    (λ e. kept_sp from need (value_of w) r h (f.stack (eqb-true w.place.register 31 e))) (λ _. kept_x from need w r h f)

pub keeps_all : (from : ℕ) (need : Need) (ws : List Write) (r : Registers) → HeldFor from need r → AllFine from need ws → HeldFor from need (put_all ws r)
keeps_all from need [] r h f = h
keeps_all from need (w ∷ ws) r h f = keeps_all from need ws (put w r) (keeps_one from need w r h f.0) f.1

-- ---- needs

pub stack_weaker : (from : ℕ) (need : Need) (sp : ℕ) → IsStackFor from Nothing sp → IsStackFor from need sp
stack_weaker from Nothing sp h = h
stack_weaker from Call sp h = record { low = h.low; high = h.high }
stack_weaker from Guard sp h = record { low = h.low; high = h.high }
stack_weaker from (Probe count) sp h = record { low = omega (arith, h.low); high = omega (arith, h.high) }

pub stack_in_slot : (from : ℕ) (need : Need) (sp : ℕ) → InSlot from sp → IsStackFor from need sp
stack_in_slot from need sp h = stack_weaker from need sp (record { low = omega (arith, h.low); high = omega (arith, h.high) })

-- lawful registers are lawful but for a need that any address in the slot fits
pub weaker : (from : ℕ) (need : Need) (r : Registers) → HeldFor from Nothing r → IsLinkFor from need (x_at r 30) → HeldFor from need r
weaker from need r h l = record {
  count = h.count;
  base = h.base;
  first_address = h.first_address;
  second_address = h.second_address;
  third_address = h.third_address;
  link = l;
  offset = h.offset;
  stack = stack_weaker from need r.sp h.stack;
  pc = h.pc;
  flags = h.flags;
}

-- what is lawful but for a probe is so however late the probe may come
pub later : (from count other : ℕ) (r : Registers) → HeldFor from (Probe count) r → HeldFor from (Probe other) r
later from count other r h = record {
  count = h.count;
  base = h.base;
  first_address = h.first_address;
  second_address = h.second_address;
  third_address = h.third_address;
  link = h.link;
  offset = h.offset;
  stack = record { low = h.stack.low; high = h.stack.high };
  pc = h.pc;
  flags = h.flags;
}

-- x30 is written alone, for another need
pub relinked : (from : ℕ) (need next : Need) (v : ℕ) (r : Registers) → HeldFor from need r → IsStackFor from next r.sp → IsLinkFor from next (low_bits widths.X v)
    → HeldFor from next (put (record { place = record { register = 30; width = widths.X }; value = v }) r)
relinked from need next v r h s l =
    record {
      count = simp length-set h.count;
      base = at_set r.x 30 21 (low_bits widths.X v) (λ x. x ≡ from) (omega (arith, h.count)) (λ e. absurd (omega (arith, e))) h.base;
      first_address = at_set r.x 30 18 (low_bits widths.X v) (InSlot from) (omega (arith, h.count)) (λ e. absurd (omega (arith, e))) h.first_address;
      second_address = at_set r.x 30 23 (low_bits widths.X v) (InSlot from) (omega (arith, h.count)) (λ e. absurd (omega (arith, e))) h.second_address;
      third_address = at_set r.x 30 24 (low_bits widths.X v) (InSlot from) (omega (arith, h.count)) (λ e. absurd (omega (arith, e))) h.third_address;
      link = (let w : 30 < length r.x = omega (arith, h.count) in let eq : get_or (set r.x 30 (low_bits widths.X v)) 30 0 ≡ low_bits widths.X v = rw get_or-set_same in subst (IsLinkFor from next) (sym eq) l);
      offset = at_set r.x 30 22 (low_bits widths.X v) (λ x. x < 2 ^ 32) (omega (arith, h.count)) (λ e. absurd (omega (arith, e))) h.offset;
      stack = s;
      pc = h.pc;
      flags = h.flags;
    }

pub from_held : (from : ℕ) (r : Registers) → Held from r → HeldFor from Nothing r
from_held from r h = record {
  count = h.count;
  base = h.base;
  first_address = h.first_address;
  second_address = h.second_address;
  third_address = h.third_address;
  link = h.link;
  offset = h.offset;
  stack = record { low = h.stack_low; high = h.stack_high };
  pc = h.pc;
  flags = h.flags;
}

-- ---- pc and flags

bit_most : (b : Bool) → bit b ≤ 1
bit_most true = omega arith
bit_most false = omega arith

pub flags_below : (o : Option Flags) (r : Registers) → r.nzcv < 16 → held_flags o r < 16
flags_below None r h = h
flags_below (Some f) r h = omega (arith, bit_most f.negative, bit_most f.zero, bit_most f.carry, bit_most f.overflow)

pub goes_on : (from : ℕ) (need : Need) (r : Registers) (a nzcv : ℕ) → HeldFor from need r → InSlot from a → nzcv < 16 → HeldFor from need (record r { pc = a; nzcv = nzcv })
goes_on from need r a nzcv h i f = record {
  count = h.count;
  base = h.base;
  first_address = h.first_address;
  second_address = h.second_address;
  third_address = h.third_address;
  link = h.link;
  offset = h.offset;
  stack = h.stack;
  pc = i;
  flags = f;
}

-- ---- results by their places

-- A result that goes here is fine, whatever it is, but for sp.
pub record IsTame (from : ℕ) (need : Need) (u : Use) : Type 0 where
  pub base : u.register ≢ 21
  pub offset : u.register ≡ 22 → u.width ≡ widths.W
  pub first : u.register ≢ 18
  pub second : u.register ≢ 23
  pub third : u.register ≢ 24
  pub link : u.register ≡ 30 → (v : ℕ) → IsLinkFor from need v

abbrev pub AnyLink : ℕ → Need → List Use → Type 0
AnyLink from need uses = AllByRecursion (λ (u : Use). u.register ≡ 30 → (v : ℕ) → IsLinkFor from need v) uses

pub no_link : (from : ℕ) (need : Need) (uses : List Use) → Avoids 30 uses → AnyLink from need uses
no_link from need [] h = tt
no_link from need (u ∷ us) h = (λ e v. absurd (h.0 e), no_link from need us h.1)

pub any_link : (from : ℕ) (uses : List Use) → AnyLink from Guard uses
any_link from [] = tt
any_link from (u ∷ us) = (λ e v. tt, any_link from us)

pub tame : (from : ℕ) (need : Need) (uses : List Use) → Avoids 21 uses → Narrow 22 uses → Avoids 18 uses → Avoids 23 uses → Avoids 24 uses → AnyLink from need uses
    → AllByRecursion (IsTame from need) uses
tame from need [] b o f s t l = tt
tame from need (u ∷ us) b o f s t l =
    (record { base = b.0; offset = o.0; first = f.0; second = s.0; third = t.0; link = l.0 }, tame from need us b.1 o.1 f.1 s.1 t.1 l.1)

-- where a result goes to sp, it is lawful there
abbrev pub AllStack : ℕ → Need → List Write → Type 0
AllStack from need ws = AllByRecursion (λ (w : Write). w.place.register ≡ 31 → IsStackFor from need (value_of w)) ws

pub narrow_below : (width : Width) (v : ℕ) → width ≡ widths.W → low_bits width v < 2 ^ 32
narrow_below widths.W v e = omega arith
narrow_below widths.X v e = cc

pub fine : (from : ℕ) (need : Need) (ws : List Write) → AllByRecursion (IsTame from need) (places_of ws) → AllStack from need ws → AllFine from need ws
fine from need [] t s = tt
fine from need (w ∷ ws) t s =
    let p = t.0 in (
      record {
        base = p.base;
        offset = λ e. narrow_below w.place.width w.value (p.offset e);
        first = λ e. absurd (p.first e);
        second = λ e. absurd (p.second e);
        third = λ e. absurd (p.third e);
        link = λ e. p.link e (value_of w);
        stack = s.0;
      },
      fine from need ws t.1 s.1,
    )

pub no_stack : (from : ℕ) (need : Need) (ws : List Write) → Avoids 31 (places_of ws) → AllStack from need ws
no_stack from need [] h = tt
no_stack from need (w ∷ ws) h = (λ e. absurd (h.0 e), no_stack from need ws h.1)

pub to_general_stack : (from : ℕ) (need : Need) (n : ℕ) (width : Width) (v : ℕ) (ws : List Write) → AllStack from need ws → AllStack from need (to_general n width v ws)
to_general_stack from need n width v ws h =
    cond_both (eqb n 31) ws (record { place = record { register = n; width = width }; value = v } ∷ ws) (AllStack from need)
    (λ _. h) (λ e. (λ x. absurd (not_31 e x), h))
  where
    not_31 : eqb n 31 ≡ false → n ≡ 31 → ⊥
    not_31 e x = let t : eqb n 31 ≡ true = ap (λ k. eqb k 31) x in cc
