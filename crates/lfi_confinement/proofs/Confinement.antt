-- Lawful code stays in its slot.
use Rattle.std.proofs.Common.{◌≡◌, ℕ, zero, suc, ◌+◌, ◌-◌, ◌*◌, ◌%◌, ◌^◌, ◌<◌, ◌≤◌, Bool, true, false, cond, not, ◌&&◌, ◌||◌, ◌⊎◌, inl, inr, [], length, Option, Some, None, ℤ, pos, negsuc, nat_abs, ◌*ℤ◌, ◌+ℤ◌, refl, sym, ap, ◌∙◌, subst, arith, eqb, ltb, eqb-true, ltb-true}
use Rattle.std.specs.List.{AllByRecursion}
use Rattle.std.proofs.lemmas.Bool.{and_parts, cond_both, cond-true, cond-false}
use Rattle.std.proofs.lemmas.Int.{ints}
use Rattle.a64_word.specs.declared.instruction.Instruction.{Instruction}
use Rattle.a64_word.specs.declared.instruction.Instruction.TheVariants as instruction
use Rattle.a64_word.specs.declared.data_register.AddSubExtended.{AddSubExtended}
use Rattle.a64_word.specs.declared.branch.BranchRegister.{BranchRegister}
use Rattle.a64_word.specs.declared.load_store.UnsignedOffset.{UnsignedOffset}
use Rattle.a64_word.specs.declared.operands.PairMode.{PairMode}
use Rattle.a64_word.specs.declared.operands.PairMode.TheVariants as pair_modes
use Rattle.a64_word.specs.declared.operands.Width.{Width}
use Rattle.a64_word.specs.declared.operands.Width.TheVariants as widths
use Rattle.a64_word.specs.declared.operands.Size.{Size}
use Rattle.a64_word.specs.declared.operands.Size.TheVariants as sizes
use Rattle.a64_word.specs.declared.operands.Transfer.{Transfer}
use Rattle.a64_word.specs.declared.operands.Transfer.TheVariants as transfers
use Rattle.a64_word.specs.Operands.{size_code}
use Rattle.a64_effects.specs.Uses.{general, or_sp}
use Rattle.a64_semantics.specs.Conditions.{holds}
use Rattle.a64_effects.specs.declared.access.Form.{Form}
use Rattle.a64_effects.specs.declared.access.Form.TheVariants as forms
use Rattle.a64_effects.specs.declared.access.Address.{Address}
use Rattle.a64_effects.specs.Effects.{writes_of, address_of, target_of, is_blr, pair_offset, pair_bytes, form_of_pair_mode}
use Rattle.a64_semantics.specs.declared.registers.Registers.{Registers}
use Rattle.a64_semantics.specs.Registers.{x_at, x_or_sp_at, low_bits, put_all}
use Rattle.a64_word.specs.Bytes.{number_at}
use Rattle.a64_semantics.specs.Accesses.{displaced, first_byte, Touch, touch_at, touches}
use Rattle.a64_semantics.specs.Writes.{linked, to_sp_unless, to_loaded, flags_in, results_of, flags_set, held_flags}
use Rattle.a64_semantics.specs.Branches.{following, words_on, branches_if, next_pc}
use Rattle.a64_semantics.proofs.Told.{places_told}
use Rattle.lfi_rules.specs.declared.needs.Need.{Need}
use Rattle.lfi_rules.specs.declared.needs.Need.TheVariants.{Nothing, Call, Guard, Probe}
use Rattle.lfi_rules.specs.Registers.{holds_address}
use Rattle.lfi_rules.specs.Guard.{is_guard, sets_stack, guards_link, adds_to_base, is_uxtw}
use Rattle.lfi_module.specs.declared.profile.Profile.{Profile}
use Rattle.lfi_rules.specs.Needs.{is_load_64, loads_link, loads_entry, calls_link, probes_stack, is_offset, is_zero, moves_stack, window, opens_of}
use Rattle.lfi_rules.specs.Rules.{writes, links, is_indexed, is_confined, is_inside, is_ret}
use Rattle.lfi_rules.specs.Calm.{branches, is_breakpoint, is_at_stack, is_nothing, is_calm}
use Rattle.lfi_confinement.specs.Slots.{base, InSlot, word_address, entry_address, entry_at, memory_of}
use Rattle.lfi_confinement.specs.Lawful.{Held}
use Rattle.lfi_confinement.specs.Moves.{State, Fetches, Move, go, stop, ask, escape, first_denied, carried_out, unless_denied, accessed, called_entry, unless_called, performed, Moves, unfetched, fetched}
use Rattle.lfi_confinement.specs.Runs.{Outcome, Running, Stopped, Escaped, Leads, Step, Reach, NeverEscapes}
use Rattle.lfi_confinement.specs.inner.Kept.{IsKept, IsFollowed}
use Rattle.lfi_confinement.specs.inner.Invariant.{IsLinkFor, IsStackFor, HeldFor, Awaits, IsMet, IsSafe}
use Rattle.lfi_confinement.proofs.Places.{Bounds, bounds, in_slot_test, guarded_test, Stands, stands, touched_in_slot, loaded_entry, entry_is}
use Rattle.lfi_confinement.proofs.Needed.{kept_at, followed_at}
use Rattle.lfi_confinement.proofs.Uses.{Avoids, Narrow, base_avoided, addresses_avoided, link_avoided, offset_narrowed, stack_avoided, not_written, either}
use Rattle.lfi_confinement.proofs.Held.{AllFine, keeps_all, kept_sp, stack_in_slot, narrow_below, later, weaker, relinked, from_held, flags_below, goes_on, IsTame, AnyLink, no_link, any_link, tame, fine, no_stack}
use Rattle.lfi_confinement.proofs.Results.{IsShort, short, not_true, Near, access_near, access_stack, linked_fine, extended_sum, immediate_sum, guards, guard_in, sets, sets_in, moves, moved_in}
use Rattle.lfi_image.specs.Image.{Image, IsImage}

-- ---- moves that are safe

abbrev pub SafeMove : Image → Move → Type 0
SafeMove c (go after offset bytes) = IsSafe c after
SafeMove c (stop cause) = Unit {0}
SafeMove c (ask entry given) = Unit {0}
SafeMove c escape = ⊥

pub safe_start : (c : Image) (r : Registers) → Held (base c) r → IsSafe c r
safe_start c r h = record { need = Nothing; held = from_held (base c) r h; met = tt }

-- what an instruction leaves in registers
abbrev pub left : Image → Instruction → State → Registers
left c i s = put_all (results_of i s.registers (memory_of c s.data_at)) s.registers

-- an instruction that leaves registers lawful but for a need, and goes on in the slot at a word that meets it
carries_out : (c : Image) (i : Instruction) (s : State) (offset : ℕ) (need : Need) → s.registers.nzcv < 16 → HeldFor (base c) need (left c i s)
    → InSlot (base c) (next_pc i s.registers) → IsMet c need (next_pc i s.registers) → SafeMove c (carried_out c i s offset)
carries_out c i s offset need flags h within met =
    rw (in_slot_test (base c) (next_pc i s.registers) within)
    (record {
      need = need;
      held = goes_on (base c) need (left c i s) (next_pc i s.registers) (held_flags (flags_set i s.registers) s.registers) h within (flags_below (flags_set i s.registers) s.registers flags);
      met = met;
    })

-- ---- the word at a place

-- what lawful code says of an instruction at pc
record Rules (c : Image) (r : Registers) (i : Instruction) : Type 0 where
  k : ℕ
  keep : IsKept i k (length c.words)
  -- the next word lies in the slot, and from there on what this one opens is met
  within : InSlot (base c) (following r)
  met : IsFollowed c i (following r)

rules_at : (c : Image) (r : Registers) (i : Instruction) → IsImage c → Stands c r.pc i → Rules c r i
rules_at c r i l st =
    let b = bounds c l in
    record {
      k = st.k;
      keep = kept_at c r i l st;
      within = record { low = omega (arith, st.at, st.within, b.low, b.high, b.words); high = omega (arith, st.at, st.within, b.low, b.high, b.words) };
      met = followed_at c r i l st;
    }

-- ---- results that go to no reserved register

-- an instruction that doesn't write the reserved registers in its own way
record IsPlain (i : Instruction) : Type 0 where
  guard : is_guard i ≡ false
  links : links i ≡ false
  loads : loads_link i ≡ false
  sets : sets_stack i ≡ false
  moves : moves_stack i ≡ false
  indexed : is_indexed (address_of i) ≡ false

-- results that go neither to sp nor to the reserved registers in their own way, whatever need is open
apart_fine : (c : Image) (i : Instruction) (s : State) (k : ℕ) (need : Need) → IsKept i k (length c.words) → is_guard i ≡ false → links i ≡ false → loads_link i ≡ false
    → Avoids 31 (writes_of i) → AllFine (base c) need (results_of i s.registers (memory_of c s.data_at))
apart_fine c i s k need keep guard links loads stack =
    let n = length c.words in
    let from = base c in
    let told = places_told i s.registers (memory_of c s.data_at) in
    let a = addresses_avoided i k n keep guard in
    let t = tame from need (writes_of i) (base_avoided i k n keep) (offset_narrowed i k n keep) a.first a.second a.third
    (no_link from need (writes_of i) (link_avoided i k n keep guard links loads)) in
    fine from need (results_of i s.registers (memory_of c s.data_at))
    (subst (λ uses. AllByRecursion (IsTame from need) uses) (sym told) t)
    (no_stack from need (results_of i s.registers (memory_of c s.data_at)) (subst (λ uses. Avoids 31 uses) (sym told) stack))

plain_fine : (c : Image) (i : Instruction) (s : State) (k : ℕ) → IsKept i k (length c.words) → IsPlain i
    → AllFine (base c) Nothing (results_of i s.registers (memory_of c s.data_at))
plain_fine c i s k keep p =
    apart_fine c i s k Nothing keep p.guard p.links p.loads (stack_avoided i k (length c.words) keep p.guard p.sets p.moves p.indexed)

-- a plain instruction that goes on in the slot
plain : (c : Image) (i : Instruction) (s : State) → HeldFor (base c) Nothing s.registers → Rules c s.registers i → IsPlain i
    → InSlot (base c) (next_pc i s.registers) → SafeMove c (carried_out c i s 0)
plain c i s h r p within =
    carries_out c i s 0 Nothing h.flags
    (keeps_all (base c) Nothing (results_of i s.registers (memory_of c s.data_at)) s.registers h (plain_fine c i s r.k r.keep p)) within tt

-- ---- branches

inside : (n : ℕ) (z : ℤ) → is_inside n (Some z) ≡ true → (t : ℕ) × (z ≡ pos t) × (t < n)
inside n (pos t) h = (t, refl, ltb-true t n h)
inside n (negsuc t) h = cc

target_in : (from pc k t n : ℕ) (offset : ℤ) → 2 ^ 32 ≤ from → from < 2 ^ 40 → n ≤ 4194304 → k < n → t < n → pc ≡ word_address from k → pos k +ℤ offset ≡ pos t
    → InSlot from (displaced pc (offset *ℤ pos 4))
target_in from pc k t n (pos a) b c small kn tn at e =
    let f : k + a ≡ t = ap nat_abs e in
    record { low = omega (arith, at, f, kn, tn); high = omega (arith, at, f, kn, tn) }
target_in from pc k t n (negsuc a) b c small kn tn at e =
    let f : k ≡ t + (a + 1) = omega (arith, ints, e) in
    let off : negsuc a *ℤ pos 4 ≡ negsuc (4 * a + 3) = omega (arith, ints) in
    subst (λ z. InSlot from (displaced pc z)) (sym off) (record { low = omega (arith, at, f, kn, tn); high = omega (arith, at, f, kn, tn) })

-- a branch to a fixed place goes to a word
branch_in : (c : Image) (r : Registers) (i : Instruction) (offset : ℤ) → IsImage c → (st : Stands c r.pc i) → is_inside (length c.words) (Some (pos st.k +ℤ offset)) ≡ true
    → InSlot (base c) (words_on r offset)
branch_in c r i offset l st h =
    let b = bounds c l in
    let t = inside (length c.words) (pos st.k +ℤ offset) h in
    target_in (base c) r.pc st.k t.0 (length c.words) offset b.low b.high b.words st.within t.2 st.at t.1

branches_in : (c : Image) (r : Registers) (taken : Bool) (offset : ℤ) → InSlot (base c) (words_on r offset) → InSlot (base c) (following r)
    → InSlot (base c) (branches_if taken r offset)
branches_in c r taken offset to on = cond_both taken (words_on r offset) (following r) (InSlot (base c)) (λ _. to) (λ _. on)

-- a branch through a register goes through one that holds an address in the slot
register_in : (from n : ℕ) (ret : Bool) (r : Registers) → HeldFor from Nothing r → (eqb n 30 || (holds_address n && not ret)) ≡ true → InSlot from (x_at r n)
register_in from n ret r h t = elim (either (eqb n 30) (holds_address n && not ret) t) [
  | inl e ↦ (let at = eqb-true n 30 e in rw at h.link)
  | inr e ↦ (let p = and_parts (holds_address n) (not ret) e in elim (either (eqb n 18 || eqb n 23) (eqb n 24) p.0) [
    | inr e ↦ (let at = eqb-true n 24 e in rw at h.third_address)
    | inl e ↦ (elim (either (eqb n 18) (eqb n 23) e) [
      | inl e ↦ (let at = eqb-true n 18 e in rw at h.first_address)
      | inr e ↦ (let at = eqb-true n 23 e in rw at h.second_address)
    ])
  ])
]

-- links leave lawful registers
linked_carried : (c : Image) (i : Instruction) (s : State) (links : Bool) → HeldFor (base c) Nothing s.registers → Rules c s.registers i
    → results_of i s.registers (memory_of c s.data_at) ≡ linked links s.registers → InSlot (base c) (next_pc i s.registers) → SafeMove c (carried_out c i s 0)
linked_carried c i s links h r e within =
    carries_out c i s 0 Nothing h.flags
    (subst (λ ws. HeldFor (base c) Nothing (put_all ws s.registers)) (sym e)
    (keeps_all (base c) Nothing (linked links s.registers) s.registers h (linked_fine (base c) links s.registers r.within))) within tt

-- ---- accesses

record IsAccess (i : Instruction) : Type 0 where
  guard : is_guard i ≡ false
  links : links i ≡ false
  moves : moves_stack i ≡ false
  next : (r : Registers) → next_pc i r ≡ following r

-- an instruction that goes on with the next word
falls : (c : Image) (i : Instruction) (s : State) (offset : ℕ) (need : Need) → s.registers.nzcv < 16 → HeldFor (base c) need (left c i s)
    → Rules c s.registers i → next_pc i s.registers ≡ following s.registers → IsMet c need (following s.registers) → SafeMove c (carried_out c i s offset)
falls c i s offset need flags h r next met =
    carries_out c i s offset need flags h (subst (InSlot (base c)) (sym next) r.within) (subst (IsMet c need) (sym next) met)

-- an access leaves registers lawful but for a need
access_left : (c : Image) (i : Instruction) (s : State) (a : Address) (need : Need) → IsImage c → HeldFor (base c) Nothing s.registers → Rules c s.registers i → IsAccess i
    → address_of i ≡ Some a → IsShort a → is_confined (Some a) ≡ true → InSlot (base c) (first_byte a s.registers)
    → IsLinkFor (base c) need (x_at s.registers 30) → AnyLink (base c) need (writes_of i) → HeldFor (base c) need (left c i s)
access_left c i s a need l h r x e short at within here any =
    let from = base c in
    let n = length c.words in
    let b = bounds c l in
    let memory = memory_of c s.data_at in
    let told = places_told i s.registers memory in
    let g = addresses_avoided i r.k n r.keep x.guard in
    let t = tame from need (writes_of i) (base_avoided i r.k n r.keep) (offset_narrowed i r.k n r.keep) g.first g.second g.third any in
    keeps_all from need (results_of i s.registers memory) s.registers (weaker from need s.registers h here)
    (fine from need (results_of i s.registers memory)
    (subst (λ uses. AllByRecursion (IsTame from need) uses) (sym told) t)
    (access_stack from need i a s.registers memory b.low b.high e short at within))

both : (b : Bool) → (b ≡ true) ⊎ (b ≡ false)
both true = inl refl
both false = inr refl

-- an access that was permitted
access_carried : (c : Image) (i : Instruction) (s : State) (a : Address) (offset : ℕ) → IsImage c → HeldFor (base c) Nothing s.registers → Rules c s.registers i → IsAccess i
    → address_of i ≡ Some a → IsShort a → is_confined (Some a) ≡ true → InSlot (base c) (first_byte a s.registers)
    → (loads_entry i ≡ true → HeldFor (base c) Call (left c i s)) → SafeMove c (carried_out c i s offset)
access_carried c i s a offset l h r x e short at within entry = elim (both (loads_entry i)) [
  | inl t ↦ (
      let opens : opens_of c.profile i ≡ Call = cond-true (loads_entry i) Call (cond (loads_link i) Guard (cond (moves_stack i) (Probe (window c.profile)) Nothing)) t in
      falls c i s offset Call h.flags (entry t) r (x.next s.registers) (r.met.call opens))
  | inr t ↦ (elim (both (loads_link i)) [
    | inl d ↦ (
        let opens : opens_of c.profile i ≡ Guard =
        cond-false (loads_entry i) Call (cond (loads_link i) Guard (cond (moves_stack i) (Probe (window c.profile)) Nothing)) t
        ∙ cond-true (loads_link i) Guard (cond (moves_stack i) (Probe (window c.profile)) Nothing) d in
        falls c i s offset Guard h.flags (access_left c i s a Guard l h r x e short at within tt (any_link (base c) (writes_of i))) r (x.next s.registers) (r.met.guard opens))
    | inr d ↦
        falls c i s offset Nothing h.flags
        (access_left c i s a Nothing l h r x e short at within h.link
        (no_link (base c) Nothing (writes_of i) (link_avoided i r.k (length c.words) r.keep x.guard x.links d)))
        r (x.next s.registers) tt
  ])
]

unless_safe : (c : Image) (o : Option ℕ) (move : Move) → (o ≡ None → SafeMove c move) → SafeMove c (unless_denied o move)
unless_safe c None move h = h refl
unless_safe c (Some a) move h = tt

-- an access whose bytes lie in slot and guards: it is denied, or its first byte lies in the slot
access_tried : (c : Image) (s : State) (i : Instruction) (t : Touch) → IsImage c → 0 < t.bytes → Near (base c) t.address t.bytes
    → ((offset : ℕ) → InSlot (base c) t.address → SafeMove c (carried_out c i s offset)) → SafeMove c (accessed c i s (Some t))
access_tried c s i t l some near after =
    let b = bounds c l in
    rw (guarded_test (base c) t.address t.bytes near.low near.high)
    (unless_safe c (first_denied c t.stores t.bytes t.address) (carried_out c i s (t.address - base c))
    (λ e. after (t.address - base c) (touched_in_slot c t.stores t.bytes t.address b.words some e)))

-- an access from lawful registers
from_access : (c : Image) (s : State) (i : Instruction) (a : Address) → IsImage c → HeldFor (base c) Nothing s.registers → Rules c s.registers i → IsAccess i
    → address_of i ≡ Some a → IsShort a → is_confined (Some a) ≡ true → (loads_entry i ≡ true → HeldFor (base c) Call (left c i s))
    → SafeMove c (accessed c i s (Some (touch_at i s.registers a)))
from_access c s i a l h r x e short at entry =
    let b = bounds c l in
    access_tried c s i (touch_at i s.registers a) l short.some (access_near (base c) a Nothing s.registers b.low b.high h (λ _. h.stack) short at)
    (λ offset within. access_carried c i s a offset l h r x e short at within entry)

-- ---- sums into sp, and the guard

sp_moved : (from : ℕ) (need : Need) (flags : Bool) (rd : ℕ) (width : Width) (v : ℕ) (r : Registers) → flags ≡ false → rd ≡ 31 → HeldFor from Nothing r
    → IsLinkFor from need (x_at r 30) → IsStackFor from need (low_bits width v) → HeldFor from need (put_all (to_sp_unless flags rd width v) r)
sp_moved from need true rd width v r f e h l s = cc
sp_moved from need false rd width v r f e h l s = rw e (kept_sp from need (low_bits width v) r (weaker from need r h l) s)

guarded_fine : (from : ℕ) (need : Need) (flags : Bool) (rd : ℕ) (width : Width) (v : ℕ) → flags ≡ false → (InSlot from (low_bits width v) → IsLinkFor from need (low_bits width v))
    → InSlot from (low_bits width v)
    → Avoids 21 (cond flags (general rd width []) (or_sp rd width [])) → Narrow 22 (cond flags (general rd width []) (or_sp rd width []))
    → AllFine from need (to_sp_unless flags rd width v)
guarded_fine from need true rd width v f link within a n = cc
guarded_fine from need false rd width v f link within a n = (
  record {
    base = a.0;
    offset = λ e. narrow_below width v (n.0 e);
    first = λ _. within;
    second = λ _. within;
    third = λ _. within;
    link = λ _. link within;
    stack = λ _. stack_in_slot from need (low_bits width v) within;
  },
  tt,
)

-- ---- the load of an entry

entry_left : (c : Image) (d : ℕ → ℕ) (size : Size) (transfer : Transfer) (rt rn imm12 : ℕ) (r : Registers) → Bounds c → is_load_64 size transfer ≡ true → rt ≡ 30 → rn ≡ 21 → imm12 < 512
    → HeldFor (base c) Nothing r
    → HeldFor (base c) Call (put_all (to_loaded size transfer rt (memory_of c d) (displaced (x_or_sp_at r rn) (pos (imm12 * 2 ^ size_code size))) []) r)
entry_left c d sizes.Double transfers.Load rt rn imm12 r b t e f small h =
    let at = displaced (x_or_sp_at r rn) (pos (imm12 * 8)) in
    let v = number_at (memory_of c d) 8 at in
    let x21 : x_at r 21 ≡ base c = h.base in
    let is : at ≡ base c + 8 * imm12 = rw f (omega (arith, b.low, b.high)) in
    let entry : v ≡ entry_address imm12 = loaded_entry c d imm12 at small is in
    let low : v % 2 ^ 64 ≡ entry_address imm12 = rw entry (omega arith) in
    rw e (relinked (base c) Nothing Call v r h (record { low = h.stack.low; high = h.stack.high }) (imm12, small, low))
entry_left c d size transfer rt rn imm12 r b t e f small h = cc

entry_held : (c : Image) (s : State) (i : UnsignedOffset) → IsImage c → HeldFor (base c) Nothing s.registers → loads_entry (instruction.UnsignedOffset i) ≡ true
    → HeldFor (base c) Call (left c (instruction.UnsignedOffset i) s)
entry_held c s i l h e =
    let p = and_parts (is_load_64 i.size i.transfer && eqb i.rt 30 && eqb i.rn 21) (ltb i.imm12 512) e in
    let q = and_parts (is_load_64 i.size i.transfer && eqb i.rt 30) (eqb i.rn 21) p.0 in
    let t = and_parts (is_load_64 i.size i.transfer) (eqb i.rt 30) q.0 in
    entry_left c s.data_at i.size i.transfer i.rt i.rn i.imm12 s.registers (bounds c l) t.0 (eqb-true i.rt 30 t.1) (eqb-true i.rn 21 q.1) (ltb-true i.imm12 512 p.1) h

-- a direct branch goes to a word
target_kept : (c : Image) (r : Registers) (i : Instruction) → IsImage c → (st : Stands c r.pc i) → is_inside (length c.words) (target_of i st.k) ≡ true
target_kept c r i l st = let kept = kept_at c r i l st in kept.target

-- ---- each instruction, from lawful registers

asked_safe : (c : Image) (i : Instruction) (s : State) (o : Option ℕ) → SafeMove c (accessed c i s (touches i s.registers)) → SafeMove c (unless_called c i s o)
asked_safe c i s (Some j) h = tt
asked_safe c i s None h = h

from_free : (c : Image) (s : State) (i : Instruction) → IsImage c → Stands c s.registers.pc i → HeldFor (base c) Nothing s.registers → SafeMove c (performed c s i)
from_free c s (instruction.AddSubImmediate i) l st h =
    let r = rules_at c s.registers (instruction.AddSubImmediate i) l st in
    let b = bounds c l in
    let imm : i.imm12 < 4096 = st.spelled.spells.word_of.in_range.1.1.1.1.1.0 in
    elim (both (moves_stack (instruction.AddSubImmediate i))) [
      | inl t ↦ (let m = moves i t in falls c (instruction.AddSubImmediate i) s 0 (Probe (window c.profile)) h.flags
          (sp_moved (base c) (Probe (window c.profile)) i.set_flags i.rd i.width (immediate_sum i s.registers) s.registers m.flags m.place h h.link
          (moved_in (base c) (window c.profile) i s.registers b.low b.high imm h.stack m))
          r refl (r.met.probe (window c.profile) (cond-true (moves_stack (instruction.AddSubImmediate i)) (Probe (window c.profile)) Nothing t)))
      | inr t ↦ plain c (instruction.AddSubImmediate i) s h r (record { guard = refl; links = refl; loads = refl; sets = refl; moves = t; indexed = refl }) r.within
    ]
from_free c s (instruction.LogicalImmediate i) l st h =
    let r = rules_at c s.registers (instruction.LogicalImmediate i) l st in
    plain c (instruction.LogicalImmediate i) s h r (record { guard = refl; links = refl; loads = refl; sets = refl; moves = refl; indexed = refl }) r.within
from_free c s (instruction.MoveWide i) l st h =
    let r = rules_at c s.registers (instruction.MoveWide i) l st in
    plain c (instruction.MoveWide i) s h r (record { guard = refl; links = refl; loads = refl; sets = refl; moves = refl; indexed = refl }) r.within
from_free c s (instruction.PcRelative i) l st h =
    let r = rules_at c s.registers (instruction.PcRelative i) l st in
    plain c (instruction.PcRelative i) s h r (record { guard = refl; links = refl; loads = refl; sets = refl; moves = refl; indexed = refl }) r.within
from_free c s (instruction.Bitfield i) l st h =
    let r = rules_at c s.registers (instruction.Bitfield i) l st in
    plain c (instruction.Bitfield i) s h r (record { guard = refl; links = refl; loads = refl; sets = refl; moves = refl; indexed = refl }) r.within
from_free c s (instruction.LogicalShifted i) l st h =
    let r = rules_at c s.registers (instruction.LogicalShifted i) l st in
    plain c (instruction.LogicalShifted i) s h r (record { guard = refl; links = refl; loads = refl; sets = refl; moves = refl; indexed = refl }) r.within
from_free c s (instruction.AddSubShifted i) l st h =
    let r = rules_at c s.registers (instruction.AddSubShifted i) l st in
    plain c (instruction.AddSubShifted i) s h r (record { guard = refl; links = refl; loads = refl; sets = refl; moves = refl; indexed = refl }) r.within
from_free c s (instruction.AddSubExtended i) l st h =
    let r = rules_at c s.registers (instruction.AddSubExtended i) l st in
    let b = bounds c l in
    elim (both (is_guard (instruction.AddSubExtended i))) [
      | inl t ↦ (let g = guards i t in carries_out c (instruction.AddSubExtended i) s 0 Nothing h.flags
          (keeps_all (base c) Nothing (results_of (instruction.AddSubExtended i) s.registers (memory_of c s.data_at)) s.registers h
          (guarded_fine (base c) Nothing i.set_flags i.rd i.width (extended_sum i s.registers) g.sum.flags (λ h. h)
          (guard_in (base c) i s.registers b.high h.base g) (base_avoided (instruction.AddSubExtended i) r.k (length c.words) r.keep)
          (offset_narrowed (instruction.AddSubExtended i) r.k (length c.words) r.keep)))
          r.within tt)
      | inr t ↦ (elim (both (sets_stack (instruction.AddSubExtended i))) [
        | inl u ↦ (let g = sets i u in carries_out c (instruction.AddSubExtended i) s 0 Nothing h.flags
            (sp_moved (base c) Nothing i.set_flags i.rd i.width (extended_sum i s.registers) s.registers g.sum.flags g.place h h.link
            (stack_in_slot (base c) Nothing (low_bits i.width (extended_sum i s.registers)) (sets_in (base c) i s.registers b.high h.base h.offset g)))
            r.within tt)
        | inr u ↦ plain c (instruction.AddSubExtended i) s h r (record { guard = t; links = refl; loads = refl; sets = u; moves = refl; indexed = refl }) r.within
      ])
    ]
from_free c s (instruction.ConditionalCompare i) l st h =
    let r = rules_at c s.registers (instruction.ConditionalCompare i) l st in
    plain c (instruction.ConditionalCompare i) s h r (record { guard = refl; links = refl; loads = refl; sets = refl; moves = refl; indexed = refl }) r.within
from_free c s (instruction.ConditionalSelect i) l st h =
    let r = rules_at c s.registers (instruction.ConditionalSelect i) l st in
    plain c (instruction.ConditionalSelect i) s h r (record { guard = refl; links = refl; loads = refl; sets = refl; moves = refl; indexed = refl }) r.within
from_free c s (instruction.TwoSource i) l st h =
    let r = rules_at c s.registers (instruction.TwoSource i) l st in
    plain c (instruction.TwoSource i) s h r (record { guard = refl; links = refl; loads = refl; sets = refl; moves = refl; indexed = refl }) r.within
from_free c s (instruction.CountLeadingZeros i) l st h =
    let r = rules_at c s.registers (instruction.CountLeadingZeros i) l st in
    plain c (instruction.CountLeadingZeros i) s h r (record { guard = refl; links = refl; loads = refl; sets = refl; moves = refl; indexed = refl }) r.within
from_free c s (instruction.MultiplyAdd i) l st h =
    let r = rules_at c s.registers (instruction.MultiplyAdd i) l st in
    plain c (instruction.MultiplyAdd i) s h r (record { guard = refl; links = refl; loads = refl; sets = refl; moves = refl; indexed = refl }) r.within
from_free c s (instruction.MultiplyHigh i) l st h =
    let r = rules_at c s.registers (instruction.MultiplyHigh i) l st in
    plain c (instruction.MultiplyHigh i) s h r (record { guard = refl; links = refl; loads = refl; sets = refl; moves = refl; indexed = refl }) r.within
from_free c s instruction.Nop l st h =
    let r = rules_at c s.registers instruction.Nop l st in
    plain c instruction.Nop s h r (record { guard = refl; links = refl; loads = refl; sets = refl; moves = refl; indexed = refl }) r.within
from_free c s (instruction.Branch i) l st h =
    let r = rules_at c s.registers (instruction.Branch i) l st in
    linked_carried c (instruction.Branch i) s i.link h r refl (branch_in c s.registers (instruction.Branch i) i.offset l st (target_kept c s.registers (instruction.Branch i) l st))
from_free c s (instruction.ConditionalBranch i) l st h =
    let r = rules_at c s.registers (instruction.ConditionalBranch i) l st in
    plain c (instruction.ConditionalBranch i) s h r (record { guard = refl; links = refl; loads = refl; sets = refl; moves = refl; indexed = refl })
    (branches_in c s.registers (holds i.condition (flags_in s.registers)) i.offset
    (branch_in c s.registers (instruction.ConditionalBranch i) i.offset l st (target_kept c s.registers (instruction.ConditionalBranch i) l st)) r.within)
from_free c s (instruction.CompareBranch i) l st h =
    let r = rules_at c s.registers (instruction.CompareBranch i) l st in
    plain c (instruction.CompareBranch i) s h r (record { guard = refl; links = refl; loads = refl; sets = refl; moves = refl; indexed = refl })
    (branches_in c s.registers _ i.offset
    (branch_in c s.registers (instruction.CompareBranch i) i.offset l st (target_kept c s.registers (instruction.CompareBranch i) l st)) r.within)
from_free c s (instruction.TestBranch i) l st h =
    let r = rules_at c s.registers (instruction.TestBranch i) l st in
    plain c (instruction.TestBranch i) s h r (record { guard = refl; links = refl; loads = refl; sets = refl; moves = refl; indexed = refl })
    (branches_in c s.registers _ i.offset
    (branch_in c s.registers (instruction.TestBranch i) i.offset l st (target_kept c s.registers (instruction.TestBranch i) l st)) r.within)
from_free c s (instruction.BranchRegister i) l st h =
    let r = rules_at c s.registers (instruction.BranchRegister i) l st in
    asked_safe c (instruction.BranchRegister i) s (called_entry (instruction.BranchRegister i) s.registers)
    (linked_carried c (instruction.BranchRegister i) s (is_blr i.kind) h r refl
    (register_in (base c) i.rn (is_ret i.kind) s.registers h (r.keep.branch)))
from_free c s (instruction.Breakpoint i) l st h = tt
from_free c s (instruction.UnsignedOffset i) l st h =
    let r = rules_at c s.registers (instruction.UnsignedOffset i) l st in
    from_access c s (instruction.UnsignedOffset i) _ l h r (record { guard = refl; links = refl; moves = refl; next = λ r. refl }) refl
    (short (instruction.UnsignedOffset i) st.word st.spelled.spells) (r.keep.access) (λ e. entry_held c s i l h e)
from_free c s (instruction.SignedOffset i) l st h =
    let r = rules_at c s.registers (instruction.SignedOffset i) l st in
    from_access c s (instruction.SignedOffset i) _ l h r (record { guard = refl; links = refl; moves = refl; next = λ r. refl }) refl
    (short (instruction.SignedOffset i) st.word st.spelled.spells) (r.keep.access) (λ e. cc)
from_free c s (instruction.RegisterOffset i) l st h =
    let r = rules_at c s.registers (instruction.RegisterOffset i) l st in
    from_access c s (instruction.RegisterOffset i) _ l h r (record { guard = refl; links = refl; moves = refl; next = λ r. refl }) refl
    (short (instruction.RegisterOffset i) st.word st.spelled.spells) (r.keep.access) (λ e. cc)
from_free c s (instruction.Pair i) l st h =
    let r = rules_at c s.registers (instruction.Pair i) l st in
    from_access c s (instruction.Pair i) _ l h r (record { guard = refl; links = refl; moves = refl; next = λ r. refl }) refl
    (short (instruction.Pair i) st.word st.spelled.spells) (r.keep.access) (λ e. cc)
from_free c s (instruction.Ordered i) l st h =
    let r = rules_at c s.registers (instruction.Ordered i) l st in
    from_access c s (instruction.Ordered i) _ l h r (record { guard = refl; links = refl; moves = refl; next = λ r. refl }) refl
    (short (instruction.Ordered i) st.word st.spelled.spells) (r.keep.access) (λ e. cc)

-- ---- each instruction that meets a need

-- the guard makes x30 lawful again
guard_left : (from : ℕ) (flags : Bool) (rd : ℕ) (width : Width) (v : ℕ) (r : Registers) → flags ≡ false → rd ≡ 30 → width ≡ widths.X → HeldFor from Guard r
    → InSlot from (low_bits width v) → HeldFor from Nothing (put_all (to_sp_unless flags rd width v) r)
guard_left from true rd width v r f e w h within = cc
guard_left from false rd widths.W v r f e w h within = cc
guard_left from false rd widths.X v r f e w h within = rw e (relinked from Guard Nothing v r h (record { low = h.stack.low; high = h.stack.high }) within)

from_guard : (c : Image) (s : State) (i : AddSubExtended) → IsImage c → Stands c s.registers.pc (instruction.AddSubExtended i) → HeldFor (base c) Guard s.registers
    → guards_link (instruction.AddSubExtended i) ≡ true → SafeMove c (performed c s (instruction.AddSubExtended i))
from_guard c s i l st h t =
    let r = rules_at c s.registers (instruction.AddSubExtended i) l st in
    let b = bounds c l in
    let p = and_parts (adds_to_base i && is_uxtw i.extend && eqb i.rm 30) (eqb i.rd 30) t in
    let q = and_parts (is_guard (instruction.AddSubExtended i)) (eqb i.rm 30) p.0 in
    let g = guards i q.0 in
    carries_out c (instruction.AddSubExtended i) s 0 Nothing h.flags
    (guard_left (base c) i.set_flags i.rd i.width (extended_sum i s.registers) s.registers g.sum.flags (eqb-true i.rd 30 p.1) g.sum.width h (guard_in (base c) i s.registers b.high h.base g))
    r.within tt

-- at an entry the runtime is called
from_call : (c : Image) (s : State) (i : BranchRegister) → HeldFor (base c) Call s.registers → calls_link (instruction.BranchRegister i) ≡ true
    → SafeMove c (performed c s (instruction.BranchRegister i))
from_call c s i h t =
    let p = and_parts (is_blr i.kind) (eqb i.rn 30) t in
    let at : entry_at (x_at s.registers 30) ≡ Some h.link.0 = rw h.link.2 (entry_is h.link.0 h.link.1) in
    let is : called_entry (instruction.BranchRegister i) s.registers ≡ Some h.link.0 = rw (p.0, p.1) at in
    subst (λ o. SafeMove c (unless_called c (instruction.BranchRegister i) s o)) (sym is) tt

-- a probe is carried out only where sp lies in the slot
from_sp : (from count : ℕ) (r : Registers) → HeldFor from (Probe count) r → InSlot from r.sp → HeldFor from Nothing r
from_sp from count r h i = record {
  count = h.count;
  base = h.base;
  first_address = h.first_address;
  second_address = h.second_address;
  third_address = h.third_address;
  link = h.link;
  offset = h.offset;
  stack = stack_in_slot from Nothing r.sp i;
  pc = h.pc;
  flags = h.flags;
}

from_probe : (c : Image) (s : State) (i : Instruction) (a : Address) (count : ℕ) → IsImage c → HeldFor (base c) (Probe count) s.registers → Rules c s.registers i → IsAccess i
    → address_of i ≡ Some a → IsShort a → is_confined (Some a) ≡ true → first_byte a s.registers ≡ s.registers.sp
    → (HeldFor (base c) Nothing s.registers → loads_entry i ≡ true → HeldFor (base c) Call (left c i s))
    → SafeMove c (accessed c i s (Some (touch_at i s.registers a)))
from_probe c s i a count l h r x e short at is entry =
    let few = short.few in
    access_tried c s i (touch_at i s.registers a) l short.some
    (record { low = omega (arith, is, h.stack.low); high = omega (arith, is, h.stack.high, few) })
    (λ offset within.
    let free = from_sp (base c) count s.registers h (subst (InSlot (base c)) is within) in
    access_carried c i s a offset l free r x e short at within (entry free))

zero_offset : (from count n : ℕ) (offset : ℤ) (r : Registers) → from < 2 ^ 40 → n ≡ 31 → offset ≡ pos 0 → HeldFor from (Probe count) r → displaced (x_or_sp_at r n) offset ≡ r.sp
zero_offset from count n offset r c e z h = rw (e, z) (omega (arith, h.stack.low, h.stack.high))

zero_scaled : (imm : ℕ) (size : Size) → imm ≡ 0 → imm * 2 ^ size_code size ≡ 0
zero_scaled imm sizes.Byte e = omega arith
zero_scaled imm sizes.Half e = omega arith
zero_scaled imm sizes.Word e = omega arith
zero_scaled imm sizes.Double e = omega arith

zero_pair : (width : Width) (z : ℤ) → is_zero z ≡ true → pair_offset width z ≡ pos 0
zero_pair widths.W (pos n) h = let e : n ≡ 0 = eqb-true n 0 h in rw e refl
zero_pair widths.X (pos n) h = let e : n ≡ 0 = eqb-true n 0 h in rw e refl
zero_pair width (negsuc n) h = cc

offset_mode : (mode : PairMode) → is_offset mode ≡ true → form_of_pair_mode mode ≡ forms.Offset
offset_mode pair_modes.Offset h = refl
offset_mode pair_modes.PostIndex h = cc
offset_mode pair_modes.PreIndex h = cc

-- a load or store at sp
probes_safe : (c : Image) (s : State) (i : Instruction) (count : ℕ) → IsImage c → Stands c s.registers.pc i → HeldFor (base c) (Probe count) s.registers → probes_stack i ≡ true
    → SafeMove c (performed c s i)
probes_safe c s (instruction.UnsignedOffset i) count l st h t =
    let r = rules_at c s.registers (instruction.UnsignedOffset i) l st in
    let b = bounds c l in
    let p = and_parts (eqb i.rn 31) (eqb i.imm12 0) t in
    let zero : pos (i.imm12 * 2 ^ size_code i.size) ≡ pos 0 = ap pos (zero_scaled i.imm12 i.size (eqb-true i.imm12 0 p.1)) in
    from_probe c s (instruction.UnsignedOffset i) _ count l h r (record { guard = refl; links = refl; moves = refl; next = λ r. refl }) refl
    (short (instruction.UnsignedOffset i) st.word st.spelled.spells) (r.keep.access)
    (zero_offset (base c) count i.rn (pos (i.imm12 * 2 ^ size_code i.size)) s.registers b.high (eqb-true i.rn 31 p.0) zero h)
    (λ free e. entry_held c s i l free e)
probes_safe c s (instruction.Pair i) count l st h t =
    let r = rules_at c s.registers (instruction.Pair i) l st in
    let b = bounds c l in
    let p = and_parts (is_offset i.mode && eqb i.rn 31) (is_zero i.imm7) t in
    let q = and_parts (is_offset i.mode) (eqb i.rn 31) p.0 in
    let mode = offset_mode i.mode q.0 in
    let a : Form → Address = λ form. record { base = i.rn; form = form; offset = pair_offset i.width i.imm7; bytes = pair_bytes i.width } in
    from_probe c s (instruction.Pair i) _ count l h r (record { guard = refl; links = refl; moves = refl; next = λ r. refl }) refl
    (short (instruction.Pair i) st.word st.spelled.spells) (r.keep.access)
    (ap (λ form. first_byte (a form) s.registers) mode ∙ zero_offset (base c) count i.rn (pair_offset i.width i.imm7) s.registers b.high (eqb-true i.rn 31 q.1) (zero_pair i.width i.imm7 p.1) h)
    (λ free e. cc)
probes_safe c s i count l st h t = cc

-- ---- each calm instruction, between the move of sp and its probe

-- what is needed of it
pub record LeavesStack (p : Profile) (i : Instruction) : Type 0 where
  pub branch : branches i ≡ false
  pub stack : Avoids 31 (writes_of i)
  pub base : is_at_stack (address_of i) ≡ false
  pub link : loads_link i ≡ false

opens_no_link : (p : Profile) (entry link moves : Bool) → is_nothing (cond entry Call (cond link Guard (cond moves (Probe (window p)) Nothing))) ≡ true → link ≡ false
opens_no_link p true link moves h = cc
opens_no_link p false true moves h = cc
opens_no_link p false false moves h = refl

pub leaves_stack : (p : Profile) (i : Instruction) → is_calm p i ≡ true → LeavesStack p i
leaves_stack p i h =
    let a = and_parts (not (branches i) && not (is_breakpoint i) && not (writes i 31) && not (is_at_stack (address_of i)))
    (is_nothing (cond (loads_entry i) Call (cond (loads_link i) Guard (cond (moves_stack i) (Probe (window p)) Nothing)))) h in
    let b = and_parts (not (branches i) && not (is_breakpoint i) && not (writes i 31)) (not (is_at_stack (address_of i))) a.0 in
    let d = and_parts (not (branches i) && not (is_breakpoint i)) (not (writes i 31)) b.0 in
    let e = and_parts (not (branches i)) (not (is_breakpoint i)) d.0 in
    record {
      branch = not_true (branches i) e.0;
      stack = not_written i d.1;
      base = not_true (is_at_stack (address_of i)) b.1;
      link = opens_no_link p (loads_entry i) (loads_link i) (moves_stack i) a.1;
    }

falls_through : (i : Instruction) (r : Registers) → branches i ≡ false → next_pc i r ≡ following r
falls_through (instruction.Branch i) r h = cc
falls_through (instruction.ConditionalBranch i) r h = cc
falls_through (instruction.CompareBranch i) r h = cc
falls_through (instruction.TestBranch i) r h = cc
falls_through (instruction.BranchRegister i) r h = cc
falls_through i r h = refl

no_links : (i : Instruction) → branches i ≡ false → links i ≡ false
no_links (instruction.Branch i) h = cc
no_links (instruction.BranchRegister i) h = cc
no_links i h = refl

-- one that isn't the guard
apart_carried : (c : Image) (i : Instruction) (s : State) (offset count : ℕ) → HeldFor (base c) (Probe count) s.registers → Rules c s.registers i → LeavesStack c.profile i → is_guard i ≡ false
    → Awaits c (following s.registers) count → SafeMove c (carried_out c i s offset)
apart_carried c i s offset count h r q guard on =
    falls c i s offset (Probe count) h.flags
    (keeps_all (base c) (Probe count) (results_of i s.registers (memory_of c s.data_at)) s.registers h
    (apart_fine c i s r.k (Probe count) r.keep guard (no_links i q.branch) q.link q.stack))
    r (falls_through i s.registers q.branch) on

-- an access that doesn't go through sp
apart_access : (c : Image) (s : State) (i : Instruction) (a : Address) (count : ℕ) → IsImage c → HeldFor (base c) (Probe count) s.registers → Rules c s.registers i → LeavesStack c.profile i
    → is_guard i ≡ false → address_of i ≡ Some a → IsShort a → is_confined (Some a) ≡ true → Awaits c (following s.registers) count
    → SafeMove c (accessed c i s (Some (touch_at i s.registers a)))
apart_access c s i a count l h r q guard e short at on =
    let b = bounds c l in
    access_tried c s i (touch_at i s.registers a) l short.some
    (access_near (base c) a (Probe count) s.registers b.low b.high h (λ x. absurd (not_31 a.base (subst (λ o. is_at_stack o ≡ false) e q.base) x)) short at)
    (λ offset within. apart_carried c i s offset count h r q guard on)
  where
    not_31 : (n : ℕ) → eqb n 31 ≡ false → n ≡ 31 → ⊥
    not_31 n f e = let t : eqb n 31 ≡ true = ap (λ k. eqb k 31) e in cc

from_calm : (c : Image) (s : State) (i : Instruction) (count : ℕ) → IsImage c → Stands c s.registers.pc i → HeldFor (base c) (Probe count) s.registers → LeavesStack c.profile i
    → Awaits c (following s.registers) count → SafeMove c (performed c s i)
from_calm c s (instruction.UnsignedOffset i) count l st h q on =
    let r = rules_at c s.registers (instruction.UnsignedOffset i) l st in
    apart_access c s (instruction.UnsignedOffset i) _ count l h r q refl refl (short (instruction.UnsignedOffset i) st.word st.spelled.spells) (r.keep.access) on
from_calm c s (instruction.SignedOffset i) count l st h q on =
    let r = rules_at c s.registers (instruction.SignedOffset i) l st in
    apart_access c s (instruction.SignedOffset i) _ count l h r q refl refl (short (instruction.SignedOffset i) st.word st.spelled.spells) (r.keep.access) on
from_calm c s (instruction.RegisterOffset i) count l st h q on =
    let r = rules_at c s.registers (instruction.RegisterOffset i) l st in
    apart_access c s (instruction.RegisterOffset i) _ count l h r q refl refl (short (instruction.RegisterOffset i) st.word st.spelled.spells) (r.keep.access) on
from_calm c s (instruction.Pair i) count l st h q on =
    let r = rules_at c s.registers (instruction.Pair i) l st in
    apart_access c s (instruction.Pair i) _ count l h r q refl refl (short (instruction.Pair i) st.word st.spelled.spells) (r.keep.access) on
from_calm c s (instruction.Ordered i) count l st h q on =
    let r = rules_at c s.registers (instruction.Ordered i) l st in
    apart_access c s (instruction.Ordered i) _ count l h r q refl refl (short (instruction.Ordered i) st.word st.spelled.spells) (r.keep.access) on
from_calm c s (instruction.AddSubExtended i) count l st h q on =
    let r = rules_at c s.registers (instruction.AddSubExtended i) l st in
    let b = bounds c l in
    elim (both (is_guard (instruction.AddSubExtended i))) [
      | inl t ↦ (let g = guards i t in falls c (instruction.AddSubExtended i) s 0 (Probe count) h.flags
          (keeps_all (base c) (Probe count) (results_of (instruction.AddSubExtended i) s.registers (memory_of c s.data_at)) s.registers h
          (guarded_fine (base c) (Probe count) i.set_flags i.rd i.width (extended_sum i s.registers) g.sum.flags (λ h. h)
          (guard_in (base c) i s.registers b.high h.base g) (base_avoided (instruction.AddSubExtended i) r.k (length c.words) r.keep)
          (offset_narrowed (instruction.AddSubExtended i) r.k (length c.words) r.keep)))
          r refl on)
      | inr t ↦ apart_carried c (instruction.AddSubExtended i) s 0 count h r q t on
    ]
from_calm c s (instruction.BranchRegister i) count l st h q on = let e = q.branch in cc
from_calm c s (instruction.Breakpoint i) count l st h q on = tt
from_calm c s i count l st h q on =
    let r = rules_at c s.registers i l st in
    apart_carried c i s 0 count h r q refl on

-- ---- each instruction where a need is met

-- by what the instruction at pc is, where a probe is awaited
awaited_safe : (c : Image) (s : State) (i : Instruction) (count : ℕ) → IsImage c → Stands c s.registers.pc i → HeldFor (base c) (Probe (suc count)) s.registers
    → (probes_stack i ≡ true) ⊎ ((is_calm c.profile i ≡ true) × Awaits c (following s.registers) count) → SafeMove c (performed c s i)
awaited_safe c s i count l st h (inl t) = probes_safe c s i (suc count) l st h t
awaited_safe c s i count l st h (inr (q, on)) = from_calm c s i count l st (later (base c) (suc count) count s.registers h) (leaves_stack c.profile i q) on

called_safe : (c : Image) (s : State) (i : Instruction) → HeldFor (base c) Call s.registers → calls_link i ≡ true → SafeMove c (performed c s i)
called_safe c s (instruction.BranchRegister i) h t = from_call c s i h t
called_safe c s i h t = cc

link_guarded_safe : (c : Image) (s : State) (i : Instruction) → IsImage c → Stands c s.registers.pc i → HeldFor (base c) Guard s.registers → guards_link i ≡ true
    → SafeMove c (performed c s i)
link_guarded_safe c s (instruction.AddSubExtended i) l st h t = from_guard c s i l st h t
link_guarded_safe c s i l st h t = cc

met_safe : (c : Image) (s : State) (i : Instruction) (need : Need) → IsImage c → Fetches c s.registers.pc i → HeldFor (base c) need s.registers → IsMet c need s.registers.pc
    → SafeMove c (performed c s i)
met_safe c s i Nothing l f h met = from_free c s i l (stands c s.registers.pc i f) h
met_safe c s i Call l f h met = called_safe c s i h (met i f)
met_safe c s i Guard l f h met = link_guarded_safe c s i l (stands c s.registers.pc i f) h (met i f)
met_safe c s i (Probe zero) l f h met = absurd met
met_safe c s i (Probe (suc count)) l f h met = awaited_safe c s i count l (stands c s.registers.pc i f) h (met i f)

-- ---- every move and step

-- from safe registers every move of lawful code is safe
pub safe_moves : (c : Image) (s : State) (move : Move) → IsImage c → IsSafe c s.registers → Moves c s move → SafeMove c move
safe_moves c s move l h (unfetched none e) = subst (SafeMove c) (sym e) tt
safe_moves c s move l h (fetched i f e) =
    subst (SafeMove c) (sym e) (met_safe c s i h.need l f h.held h.met)

abbrev pub SafeOutcome : Image → Outcome → Type 0
SafeOutcome c (Running t) = IsSafe c t.registers
SafeOutcome c (Stopped cause) = Unit {0}
SafeOutcome c Escaped = ⊥

led_safe : (c : Image) (s : State) (move : Move) (t : Outcome) → SafeMove c move → Leads c s move t → SafeOutcome c t
led_safe c s (go after offset bytes) (Running t) h e = subst (IsSafe c) (sym e.0) h
led_safe c s (ask entry given) (Running t) h e = safe_start c t.registers e
led_safe c s (stop cause) (Running t) h e = absurd e
led_safe c s escape (Running t) h e = absurd e
led_safe c s (go after offset bytes) Escaped h e = absurd e
led_safe c s (stop cause) Escaped h e = absurd e
led_safe c s (ask entry given) Escaped h e = absurd e
led_safe c s escape Escaped h e = absurd h
led_safe c s move (Stopped cause) h e = tt

pub safe_step : (c : Image) (s : State) (t : Outcome) → IsImage c → IsSafe c s.registers → Step c s t → SafeOutcome c t
safe_step c s t l h step = led_safe c s step.move t (safe_moves c s step.move l h step.moves) step.leads

-- ---- every run

pub safe_reach : (c : Image) (s : State) (count : ℕ) (t : Outcome) → IsImage c → IsSafe c s.registers → Reach c s count t → SafeOutcome c t
safe_reach c s zero t l h e = subst (SafeOutcome c) (sym e) h
safe_reach c s (suc count) t l h e = safe_step c e.0 t l (safe_reach c s count (Running e.0) l h e.1) e.2

pub never : (c : Image) (s : State) → IsImage c → Held (base c) s.registers → NeverEscapes c s
never c s l h count e = safe_reach c s count Escaped l (safe_start c s.registers h) e
