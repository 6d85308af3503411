-- Lawful code is as the law needs it.
use Rattle.std.proofs.Common.{◌≡◌, ◌≢◌, ℕ, zero, suc, ◌+◌, ◌%◌, ◌^◌, ◌<◌, ◌≤◌, true, ◌⊎◌, inl, inr, length, Some, subst, arith, lit≤}
use Rattle.std.specs.Prelude.{slice_get}
use Rattle.a64_word.specs.declared.instruction.Instruction.{Instruction}
use Rattle.a64_semantics.specs.declared.registers.Registers.{Registers}
use Rattle.a64_semantics.specs.Branches.{following}
use Rattle.lfi_rules.specs.declared.rule.Rule.{Rule}
use Rattle.lfi_rules.specs.declared.rule.Rule.TheVariants as rules
use Rattle.lfi_rules.specs.declared.needs.Need.{Need}
use Rattle.lfi_rules.specs.declared.needs.Need.TheVariants.{Nothing, Call, Guard, Probe}
use Rattle.lfi_rules.specs.Needs.{opens_of, meets_of, term_of}
use Rattle.lfi_rules.specs.Calm.{is_calm}
use Rattle.lfi_rules.specs.Faults.{IsDue}
use Rattle.lfi_rules.proofs.Due.{due_more}
use Rattle.lfi_rules.proofs.Lawful.{keeps_each, due_kept, opened_due, next_meets}
use Rattle.lfi_image.specs.Image.{Image, IsImage}
use Rattle.lfi_confinement.specs.Slots.{base, word_address}
use Rattle.lfi_confinement.specs.Moves.{Fetches}
use Rattle.lfi_confinement.specs.inner.Kept.{IsKept, IsFollowed}
use Rattle.lfi_confinement.specs.inner.Invariant.{Awaits}
use Rattle.lfi_confinement.proofs.Places.{bounds, Stands, stands}

pub kept_at : (c : Image) (r : Registers) (i : Instruction) → IsImage c → (st : Stands c r.pc i) → IsKept i st.k (length c.words)
kept_at c r i l st =
    let each = λ (rule : Rule). keeps_each c.profile c.words (length c.words) st.k st.word i rule l.lawful.faultless st.is st.spelled in
    record {
      access = each rules.AccessConfined;
      base = each rules.BaseKept;
      address = each rules.AddressGuarded;
      link = each rules.LinkGuarded;
      offset = each rules.OffsetNarrow;
      stack = each rules.StackBounded;
      target = each rules.TargetInside;
      branch = each rules.BranchBounded;
    }

-- ---- a probe comes among the next words

-- where one is due after so many calm words
awaits : (c : Image) (k count : ℕ) → IsImage c → (rest d address : ℕ) → d + rest ≡ count → 0 < rest → IsDue c.profile c.words k d (Probe count)
    → address ≡ word_address (base c) (k + 1 + d) → Awaits c address rest
awaits c k count l zero d address e some due at = absurd (omega (arith, some))
awaits c k count l (suc rest) d address e some due at = λ j f.
    let b = bounds c l in
    let n = stands c address j f in
    let place : n.k ≡ k + d + 1 = omega (arith, at, n.at) in
    let is : slice_get c.words (k + d + 1) ≡ Some n.word = subst (λ m. slice_get c.words m ≡ Some n.word) place n.is in
    by_kept j (λ calm more.
    awaits c k count l rest (d + 1) ((address + 4) % 2 ^ 64) (omega (arith, e)) (omega (arith, e, more))
    (due_more c.profile c.words k d n.word (Probe count) due is (record { instruction = j; spells = n.spelled; calm = calm }) more)
    (omega (arith, at, b.low, b.high, b.words, n.at, n.within)))
    (due_kept c.profile c.words (length c.words) k d n.word (Probe count) j l.lawful.faultless due is n.spelled)
  where
    by_kept : (j : Instruction) → (is_calm c.profile j ≡ true → d + 1 < count → Awaits c ((address + 4) % 2 ^ 64) rest)
        → (meets_of j (Probe count) ≡ true) ⊎ ((is_calm c.profile j ≡ true) × (d + 1 < count))
        → (meets_of j (Probe count) ≡ true) ⊎ ((is_calm c.profile j ≡ true) × Awaits c ((address + 4) % 2 ^ 64) rest)
    by_kept j on (inl m) = inl m
    by_kept j on (inr (calm, more)) = inr (calm, on calm more)

-- ---- what a word opens is met

pub followed_at : (c : Image) (r : Registers) (i : Instruction) → IsImage c → (st : Stands c r.pc i) → IsFollowed c i (following r)
followed_at c r i l st =
    record {
      call = λ e j f. next Call e (λ k. cc) (lit≤ tt) j f;
      guard = λ e j f. next Guard e (λ k. cc) (lit≤ tt) j f;
      probe = λ count e. awaited count e;
    }
  where
    awaited : (count : ℕ) → opens_of c.profile i ≡ Probe count → Awaits c (following r) count
    awaited count e =
        let b = bounds c l in
        let due : IsDue c.profile c.words st.k 0 (Probe count) = opened_due c.profile c.words st.k st.word i (Probe count) st.is st.spelled e (λ k. cc) in
        awaits c st.k count l count 0 (following r) (omega arith) due.term due (omega (arith, st.at, st.within, b.low, b.high, b.words))

    next : (need : Need) → opens_of c.profile i ≡ need → need ≢ Nothing → term_of need ≤ 1 → (j : Instruction) (f : Fetches c (following r) j) → meets_of j need ≡ true
    next need e some one j f =
        let b = bounds c l in
        let n = stands c (following r) j f in
        let place : n.k ≡ st.k + 1 = omega (arith, st.at, st.within, b.low, b.high, b.words, n.at, n.within) in
        next_meets c.profile c.words (length c.words) st.k n.word need j l.lawful.faultless (opened_due c.profile c.words st.k st.word i need st.is st.spelled e some) one
        (subst (λ q. slice_get c.words q ≡ Some n.word) place n.is) n.spelled
