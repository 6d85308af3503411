-- The loop is lawful, and runs on.
use Rattle.std.proofs.Common.{◌≡◌, ℕ, zero, suc, ◌+◌, ◌-◌, ◌%◌, ◌^◌, ◌<◌, true, false, List, [], ◌∷◌, length, get_or, set, Some, None, pos, negsuc, ◌*ℤ◌, refl, sym, ap, ◌∙◌, subst, arith, get_or-set_same}
use Rattle.std.proofs.lemmas.Bool.{cond-true}
use Rattle.a64_word.specs.declared.instruction.Instruction.{Instruction}
use Rattle.a64_word.specs.declared.instruction.Instruction.TheVariants as instruction
use Rattle.a64_word.specs.declared.operands.Width.TheVariants as widths
use Rattle.a64_word.specs.declared.operands.Size.TheVariants as sizes
use Rattle.a64_word.specs.declared.operands.Transfer.TheVariants as transfers
use Rattle.a64_word.specs.declared.operands.BranchKind.TheVariants as branches
use Rattle.a64_word.specs.Profiles.{SpellsIn}
use Rattle.lfi_module.specs.declared.profile.Profile.TheVariants.{One}
use Rattle.a64_effects.specs.declared.access.Form.TheVariants as forms
use Rattle.a64_effects.specs.declared.access.Address.{Address}
use Rattle.a64_semantics.specs.declared.registers.Registers.{Registers}
use Rattle.a64_semantics.specs.Registers.{x_at, put}
use Rattle.a64_word.specs.Bytes.{number_at}
use Rattle.a64_semantics.specs.Accesses.{displaced, Touch, touch_at, stored}
use Rattle.a64_semantics.specs.Branches.{next_pc, following}
use Rattle.a64_semantics.specs.Steps.{registers_after}
use Rattle.lfi_rules.specs.declared.needs.Need.TheVariants.{Nothing}
use Rattle.lfi_rules.specs.Rules.{written as written_by}
use Rattle.a64_word.specs.Bytes.{written}
use Rattle.lfi_confinement.specs.Slots.{base, word_address, entry_address, entry_at, is_in_slot, is_guarded, memory_of}
use Rattle.lfi_confinement.specs.Lawful.{Held}
use Rattle.lfi_confinement.specs.Moves.{State, go, ask, escape, word_at, Fetches, first_denied, carried_out, unless_denied, accessed, given, unless_called, performed, fetched}
use Rattle.lfi_confinement.specs.Runs.{Running, Step, Reach}
use Rattle.lfi_confinement.specs.Loop.{loop_words, loop_image, StartsLoop}
use Rattle.lfi_confinement.specs.inner.Invariant.{HeldFor, IsSafe}
use Rattle.lfi_confinement.proofs.Places.{loaded_entry}
use Rattle.lfi_confinement.proofs.Held.{relinked, goes_on}
use Rattle.lfi_confinement.proofs.Confinement.{safe_start, safe_step}
use Rattle.lfi_confinement.proofs.Tested.{spelled, AllSpell, passes, faultless}
use Rattle.lfi_image.specs.Image.{IsImage}

-- ---- the words

abbrev store : Instruction
store = instruction.UnsignedOffset (record { size = sizes.Double; transfer = transfers.Store; imm12 = 0; rn = 31; rt = 0 })

abbrev load : Instruction
load = instruction.UnsignedOffset (record { size = sizes.Double; transfer = transfers.Load; imm12 = 0; rn = 31; rt = 1 })

abbrev load_entry : Instruction
load_entry = instruction.UnsignedOffset (record { size = sizes.Double; transfer = transfers.Load; imm12 = 0; rn = 21; rt = 30 })

abbrev call_entry : Instruction
call_entry = instruction.BranchRegister (record { kind = branches.Blr; rn = 30 })

abbrev call : Instruction
call = instruction.Branch (record { link = true; offset = pos 2 })

abbrev back : Instruction
back = instruction.Branch (record { link = false; offset = negsuc 4 })

abbrev return : Instruction
return = instruction.BranchRegister (record { kind = branches.Ret; rn = 30 })

abbrev instructions : List Instruction
instructions = store ∷ load ∷ load_entry ∷ call_entry ∷ call ∷ back ∷ return ∷ []

store_spelled : SpellsIn One store 0xF90003E0
store_spelled = spelled store 0xF90003E0 tt refl refl refl

load_spelled : SpellsIn One load 0xF94003E1
load_spelled = spelled load 0xF94003E1 tt refl refl refl

load_entry_spelled : SpellsIn One load_entry 0xF94002BE
load_entry_spelled = spelled load_entry 0xF94002BE tt refl refl refl

call_entry_spelled : SpellsIn One call_entry 0xD63F03C0
call_entry_spelled = spelled call_entry 0xD63F03C0 tt refl refl refl

call_spelled : SpellsIn One call 0x94000002
call_spelled = spelled call 0x94000002 (omega arith) refl refl refl

back_spelled : SpellsIn One back 0x17FFFFFB
back_spelled = spelled back 0x17FFFFFB (omega arith) refl refl refl

return_spelled : SpellsIn One return 0xD65F03C0
return_spelled = spelled return 0xD65F03C0 tt refl refl refl

all_spell : AllSpell instructions loop_words
all_spell = (store_spelled, (load_spelled, (load_entry_spelled, (call_entry_spelled, (call_spelled, (back_spelled, (return_spelled, tt)))))))

all_pass : passes instructions 0 (length loop_words) ≡ true
unfolding written_by
all_pass = refl

pub loop_lawful : IsImage loop_image
loop_lawful = record {
  entry = omega arith;
  slot = omega arith;
  lawful = record { some = omega arith; most = omega arith; faultless = faultless instructions loop_words all_spell all_pass };
}

-- ---- the start

abbrev from : ℕ
from = base loop_image

start : State
start = record {
  registers = record {
    x = 0 ∷ 0 ∷ 0 ∷ 0 ∷ 0 ∷ 0 ∷ 0 ∷ 0 ∷ 0 ∷ 0 ∷ 0 ∷ 0 ∷ 0 ∷ 0 ∷ 0 ∷ 0 ∷ 0 ∷ 0 ∷ from ∷ 0 ∷ 0 ∷ from ∷ 0 ∷ from ∷ from ∷ 0 ∷ 0 ∷ 0 ∷ 0 ∷ 0 ∷ from ∷ [];
    sp = from + 2 ^ 31;
    pc = word_address from 0;
    nzcv = 0;
  };
  data_at = λ _. 0;
}

pub loop_starts : (s : State) × StartsLoop s
unfolding start
loop_starts = (
  start,
  record {
    held = record {
      count = refl;
      base = refl;
      first_address = record { low = omega arith; high = omega arith };
      second_address = record { low = omega arith; high = omega arith };
      third_address = record { low = omega arith; high = omega arith };
      link = record { low = omega arith; high = omega arith };
      offset = omega arith;
      stack_low = omega arith;
      stack_high = omega arith;
      pc = record { low = omega arith; high = omega arith };
      flags = omega arith;
    };
    stack = refl;
    pc = refl;
  },
)

-- ---- where the loop is

data At (r : Registers) : Type 0 where
  at_store : r.pc ≡ word_address from 0 → At r
  at_load : r.pc ≡ word_address from 1 → At r
  at_load_entry : r.pc ≡ word_address from 2 → At r
  at_call_entry : r.pc ≡ word_address from 3 → x_at r 30 ≡ entry_address 0 → At r
  at_call : r.pc ≡ word_address from 4 → At r
  at_back : r.pc ≡ word_address from 5 → At r
  at_return : r.pc ≡ word_address from 6 → x_at r 30 ≡ word_address from 5 → At r

record Loops (s : State) : Type 0 where
  safe : IsSafe loop_image s.registers
  stack : s.registers.sp ≡ from + 2 ^ 31
  at : At s.registers

record Next (s : State) : Type 0 where
  t : State
  step : Step loop_image s (Running t)
  loops : Loops t

-- ---- one step

-- the 8 bytes at sp, and at the table
abbrev at_sp : Address
at_sp = record { base = 31; form = forms.Offset; offset = pos 0; bytes = 8 }

abbrev at_table : Address
at_table = record { base = 21; form = forms.Offset; offset = pos 0; bytes = 8 }

fetches : (i : Instruction) (word address place : ℕ) → SpellsIn One i word → address ≡ place → word_at loop_image place ≡ Some word → Fetches loop_image address i
fetches i word address place s e h = record { word = word; stands = subst (λ a. word_at loop_image a ≡ Some word) (sym e) h; spelled = s }

carried_go : (i : Instruction) (s : State) (offset : ℕ) → is_in_slot from (next_pc i s.registers) ≡ true
    → carried_out loop_image i s offset ≡ go (registers_after i s.registers (memory_of loop_image s.data_at)) offset (stored i s.registers)
carried_go i s offset h = cond-true (is_in_slot from (next_pc i s.registers)) _ escape h

accessed_go : (i : Instruction) (s : State) (t : Touch) → is_guarded from t.address t.bytes ≡ true → first_denied loop_image t.stores t.bytes t.address ≡ None
    → is_in_slot from (next_pc i s.registers) ≡ true
    → accessed loop_image i s (Some t) ≡ go (registers_after i s.registers (memory_of loop_image s.data_at)) (t.address - from) (stored i s.registers)
accessed_go i s t g d h =
    cond-true (is_guarded from t.address t.bytes) (unless_denied (first_denied loop_image t.stores t.bytes t.address) (carried_out loop_image i s (t.address - from))) escape g
    ∙ ap (λ o. unless_denied o (carried_out loop_image i s (t.address - from))) d
    ∙ carried_go i s (t.address - from) h

goes : (s : State) (i : Instruction) (after : Registers) (offset : ℕ) (bytes : List ℕ) → Loops s → Fetches loop_image s.registers.pc i
    → performed loop_image s i ≡ go after offset bytes → after.sp ≡ from + 2 ^ 31 → At after → Next s
goes s i after offset bytes l f e sp at =
    let t : State = record { registers = after; data_at = written s.data_at offset bytes } in
    let step : Step loop_image s (Running t) = record { move = go after offset bytes; moves = fetched i f (sym e); leads = (refl, λ _. refl) } in
    record { t = t; step = step; loops = record { safe = safe_step loop_image s (Running t) loop_lawful l.safe step; stack = sp; at = at } }

abbrev registers_next : Instruction → State → Registers
registers_next i s = registers_after i s.registers (memory_of loop_image s.data_at)

-- the pc after a word that doesn't branch, and the slot's test of it
next_at : (pc here next : ℕ) → pc ≡ here → (here + 4) % 2 ^ 64 ≡ next → (pc + 4) % 2 ^ 64 ≡ next
next_at pc here next e h = ap (λ p. (p + 4) % 2 ^ 64) e ∙ h

tested : (a place : ℕ) → a ≡ place → is_in_slot from place ≡ true → is_in_slot from a ≡ true
tested a place e h = subst (λ p. is_in_slot from p ≡ true) (sym e) h

after_store : (s : State) → Loops s → s.registers.pc ≡ word_address from 0 → Next s
after_store s l e =
    let on : next_pc store s.registers ≡ word_address from 1 = next_at s.registers.pc (word_address from 0) (word_address from 1) e refl in
    goes s store (registers_next store s) _ (stored store s.registers) l (fetches store 0xF90003E0 s.registers.pc (word_address from 0) store_spelled e refl)
    (accessed_go store s (touch_at store s.registers at_sp)
    (subst (λ p. is_guarded from (displaced p (pos 0)) 8 ≡ true) (sym l.stack) refl)
    (subst (λ p. first_denied loop_image true 8 (displaced p (pos 0)) ≡ None) (sym l.stack) refl)
    (tested (next_pc store s.registers) (word_address from 1) on refl))
    l.stack (at_load on)

after_load : (s : State) → Loops s → s.registers.pc ≡ word_address from 1 → Next s
after_load s l e =
    let on : next_pc load s.registers ≡ word_address from 2 = next_at s.registers.pc (word_address from 1) (word_address from 2) e refl in
    goes s load (registers_next load s) _ (stored load s.registers) l (fetches load 0xF94003E1 s.registers.pc (word_address from 1) load_spelled e refl)
    (accessed_go load s (touch_at load s.registers at_sp)
    (subst (λ p. is_guarded from (displaced p (pos 0)) 8 ≡ true) (sym l.stack) refl)
    (subst (λ p. first_denied loop_image false 8 (displaced p (pos 0)) ≡ None) (sym l.stack) refl)
    (tested (next_pc load s.registers) (word_address from 2) on refl))
    l.stack (at_load_entry on)

-- x30 after it was written
link_set : (x : List ℕ) (v : ℕ) → length x ≡ 31 → get_or (set x 30 v) 30 0 ≡ v
link_set x v h = let w : 30 < length x = omega (arith, h) in rw get_or-set_same

after_load_entry : (s : State) → Loops s → s.registers.pc ≡ word_address from 2 → Next s
after_load_entry s l e =
    let r = s.registers in
    let on : next_pc load_entry r ≡ word_address from 3 = next_at r.pc (word_address from 2) (word_address from 3) e refl in
    let table : x_at r 21 ≡ from = l.safe.held.base in
    let at = displaced (x_at r 21) (pos 0) in
    let v = number_at (memory_of loop_image s.data_at) 8 at in
    let is : v ≡ entry_address 0 = loaded_entry loop_image s.data_at 0 at (omega arith) (ap (λ p. displaced p (pos 0)) table) in
    goes s load_entry (registers_next load_entry s) _ (stored load_entry r) l (fetches load_entry 0xF94002BE r.pc (word_address from 2) load_entry_spelled e refl)
    (accessed_go load_entry s (touch_at load_entry r at_table)
    (subst (λ p. is_guarded from (displaced p (pos 0)) 8 ≡ true) (sym table) refl)
    (subst (λ p. first_denied loop_image false 8 (displaced p (pos 0)) ≡ None) (sym table) refl)
    (tested (next_pc load_entry r) (word_address from 3) on refl))
    l.stack (at_call_entry on (link_set r.x (v % 2 ^ 64) l.safe.held.count ∙ ap (λ y. y % 2 ^ 64) is))

to_held : (r : Registers) → HeldFor from Nothing r → Held from r
to_held r h = record {
  count = h.count;
  base = h.base;
  first_address = h.first_address;
  second_address = h.second_address;
  third_address = h.third_address;
  link = h.link;
  offset = h.offset;
  stack_low = h.stack.low;
  stack_high = h.stack.high;
  pc = h.pc;
  flags = h.flags;
}

-- the runtime answers with the registers that it got
after_call_entry : (s : State) → Loops s → s.registers.pc ≡ word_address from 3 → x_at s.registers 30 ≡ entry_address 0 → Next s
after_call_entry s l e link =
    let r = s.registers in
    let h = l.safe.held in
    let sp : r.sp ≡ from + 2 ^ 31 = l.stack in
    let on : following r ≡ word_address from 4 = next_at r.pc (word_address from 3) (word_address from 4) e refl in
    let f : Fetches loop_image r.pc call_entry = fetches call_entry 0xD63F03C0 r.pc (word_address from 3) call_entry_spelled e refl in
    let asks : performed loop_image s call_entry ≡ ask 0 (given r) =
    ap (λ a. unless_called loop_image call_entry s (entry_at a)) link in
    let relink : HeldFor from Nothing (put (record { place = record { register = 30; width = widths.X }; value = following r }) r) =
    relinked from l.safe.need Nothing (following r) r h (record { low = omega (arith, sp); high = omega (arith, sp) }) (record { low = omega (arith, on); high = omega (arith, on) }) in
    let held : Held from (given r) = to_held (given r) (goes_on from Nothing _ (following r) r.nzcv relink (record { low = omega (arith, on); high = omega (arith, on) }) h.flags) in
    let t : State = record { registers = given r; data_at = s.data_at } in
    let step : Step loop_image s (Running t) = record { move = ask 0 (given r); moves = fetched call_entry f (sym asks); leads = held } in
    record { t = t; step = step; loops = record { safe = safe_start loop_image (given r) held; stack = sp; at = at_call on } }

after_call : (s : State) → Loops s → s.registers.pc ≡ word_address from 4 → Next s
after_call s l e =
    let r = s.registers in
    let to : next_pc call r ≡ word_address from 6 = ap (λ p. displaced p (pos 2 *ℤ pos 4)) e in
    let back_at : (r.pc + 4) % 2 ^ 64 ≡ word_address from 5 = next_at r.pc (word_address from 4) (word_address from 5) e refl in
    goes s call (registers_next call s) _ (stored call r) l (fetches call 0x94000002 r.pc (word_address from 4) call_spelled e refl)
    (carried_go call s 0 (tested (next_pc call r) (word_address from 6) to refl))
    l.stack (at_return to (link_set r.x ((r.pc + 4) % 2 ^ 64) l.safe.held.count ∙ back_at))

after_back : (s : State) → Loops s → s.registers.pc ≡ word_address from 5 → Next s
after_back s l e =
    let r = s.registers in
    let to : next_pc back r ≡ word_address from 0 = ap (λ p. displaced p (negsuc 4 *ℤ pos 4)) e in
    goes s back (registers_next back s) _ (stored back r) l (fetches back 0x17FFFFFB r.pc (word_address from 5) back_spelled e refl)
    (carried_go back s 0 (tested (next_pc back r) (word_address from 0) to refl))
    l.stack (at_store to)

after_return : (s : State) → Loops s → s.registers.pc ≡ word_address from 6 → x_at s.registers 30 ≡ word_address from 5 → Next s
after_return s l e link =
    let r = s.registers in
    goes s return (registers_next return s) _ (stored return r) l (fetches return 0xD65F03C0 r.pc (word_address from 6) return_spelled e refl)
    (carried_go return s 0 (tested (next_pc return r) (word_address from 5) link refl))
    l.stack (at_back link)

next_of : (s : State) → Loops s → Next s
next_of s l = by_place l.at
  where
    by_place : At s.registers → Next s
    by_place (at_store e) = after_store s l e
    by_place (at_load e) = after_load s l e
    by_place (at_load_entry e) = after_load_entry s l e
    by_place (at_call_entry e f) = after_call_entry s l e f
    by_place (at_call e) = after_call s l e
    by_place (at_back e) = after_back s l e
    by_place (at_return e f) = after_return s l e f

-- ---- any number of steps

record Reached (s : State) (count : ℕ) : Type 0 where
  t : State
  reach : Reach loop_image s count (Running t)
  loops : Loops t

reached : (s : State) (count : ℕ) → Loops s → Reached s count
reached s zero l = record { t = s; reach = refl; loops = l }
reached s (suc count) l =
    let mid = reached s count l in
    let next = next_of mid.t mid.loops in
    record { t = next.t; reach = (mid.t, mid.reach, next.step); loops = next.loops }

pub loop_runs : (s : State) (count : ℕ) → StartsLoop s → (t : State) × Reach loop_image s count (Running t)
loop_runs s count h =
    let r = reached s count (record { safe = safe_start loop_image s.registers h.held; stack = h.stack; at = at_store h.pc }) in
    (r.t, r.reach)
