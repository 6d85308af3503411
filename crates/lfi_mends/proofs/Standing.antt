-- Instructions that stand after a need.
use Rattle.std.proofs.Common.{◌≡◌, ◌≢◌, ℕ, ◌<◌, ◌≤◌, eqb, List, [], ◌∷◌, ◌++◌, Bool, true, false, refl, ap, ◌∙◌, subst, sym, arith, lit≤, true≢false, inl, inr, None}
use Rattle.std.specs.Prelude.{if◌then◌else◌, ◌⊎◌, ◌||◌, ◌&&◌, not}
use Rattle.std.proofs.lemmas.Bool.{and_left, and_right, or_left, or_right, or_cases, and_parts, or_parts, not-true, eqb-true}
use Rattle.lfi_module.specs.declared.profile.Profile.{Profile}
use Rattle.lfi_module.specs.declared.profile.Profile.TheVariants.{Two}
use Rattle.a64_word.specs.declared.instruction.Instruction.{Instruction}
use Rattle.a64_word.specs.declared.instruction.Instruction.TheVariants as instructions
use Rattle.a64_word.specs.declared.operands.Width.TheVariants as widths
use Rattle.a64_word.specs.declared.operands.Extend.TheVariants as extends
use Rattle.a64_word.specs.declared.operands.IndexExtend.TheVariants as indexes
use Rattle.a64_word.specs.declared.operands.Size.{Size}
use Rattle.a64_word.specs.declared.operands.Transfer.{Transfer}
use Rattle.a64_word.specs.Fields.{sum_of, AllFit}
use Rattle.a64_word.specs.Encoding.{fields, IsLegal}
use Rattle.a64_word.specs.Profiles.{is_of, SpellsIn}
use Rattle.lfi_rules.specs.declared.needs.Need.{Need}
use Rattle.lfi_rules.specs.declared.needs.Need.TheVariants.{Nothing, Guard, Probe}
use Rattle.lfi_rules.specs.Needs.{opens_of, meets_of}
use Rattle.lfi_rules.specs.declared.rule.Rule.{Rule}
use Rattle.lfi_rules.specs.declared.rule.Rule.TheVariants as rules
use Rattle.lfi_rules.specs.Rules.{keeps, written}
use Rattle.lfi_rules.specs.Faults.{meets_by}
use Rattle.lfi_rules.proofs.Broken.{in_same}
use Rattle.a64_word.specs.Encoding.{IsAccess}
use Rattle.a64_word.specs.declared.operands.Size.TheVariants as sizes
use Rattle.a64_word.specs.declared.operands.Transfer.TheVariants as transfers
use Rattle.a64_word.specs.declared.operands.Width.{Width}
use Rattle.a64_word.specs.Operands.{bit, sf, size_code, transfer_code, branch_code}
use Rattle.a64_word.specs.declared.operands.BranchKind.{BranchKind}
use Rattle.a64_word.specs.declared.operands.BranchKind.TheVariants as kinds
use Rattle.lfi_rules.specs.Guard.{is_x}
use Rattle.a64_effects.specs.Uses.{Use, general, or_sp, width_in}
use Rattle.a64_effects.specs.Effects.{is_store, is_ands, data_width, ordered_transfer, writes_of, address_of}
use Rattle.lfi_rules.specs.Rules.{is_confined, is_bounded}
use Rattle.lfi_rules.specs.Needs.{loads_link, loads_entry, moves_stack, is_load_64}
use Rattle.lfi_rules.specs.inner.Quiet.{IsUnreserved}
use Rattle.lfi_rules.proofs.Avoiding.{Spares, spares_none, spares_one, spares_more, spares_free, spares_offset, link_kept, stack_kept, Avoids, avoids_none, avoids_link, avoids_more, no_stack}
use Rattle.lfi_mends.specs.Mends.{Stands, Leads, KeepsRules}
use Rattle.lfi_mends.specs.inner.Rows.{sum_of_immediate, sum_of_index, access_of, changed_of, guard_of, pair_of, ordered_of}
use Rattle.lfi_mends.specs.inner.Computing.{may_compute, is_computing}
use Rattle.lfi_mends.specs.Registers.{is_reserved, is_free, may_hold, may_move, may_move_two, holds_link}

-- One more instruction at the end.
one_more : (p : Profile) (before between : Need) (is : List Instruction) (i : Instruction) → Leads p before is between → Stands p between i
    → Leads p before (is ++ i ∷ []) (opens_of p i)
one_more p before between [] i same s = (subst (λ need. Stands p need i) (sym same) s, refl)
one_more p before between (j ∷ rest) i (first, more) s = (first, one_more p (opens_of p j) between rest i more s)

-- One more instruction at the end of those that keep the rules, which opens nothing.
pub keeps_more : (p : Profile) (is more : List Instruction) (i : Instruction) → more ≡ is ++ i ∷ [] → KeepsRules p is → Stands p Nothing i → opens_of p i ≡ Nothing
    → KeepsRules p more
keeps_more p is more i e keeps s opens =
    subst (λ l. Leads p Nothing l Nothing) (sym e) (subst (λ need. Leads p Nothing (is ++ i ∷ []) need) opens (one_more p Nothing Nothing is i keeps s))

-- An instruction whose fields fit is spelled by their sum.
pub spelled : (p : Profile) (i : Instruction) → is_of p i ≡ true → IsLegal i → AllFit (fields i) → SpellsIn p i (sum_of (fields i))
spelled p i has legal fit = record { spells = record { legal = legal; word_of = record { in_range = fit; sum = refl } }; of_profile = has }

-- It keeps each of the rules.
pub record Kept (i : Instruction) : Type 0 where
  pub confined : (k n : ℕ) → keeps i k n rules.AccessConfined ≡ true
  pub base : (k n : ℕ) → keeps i k n rules.BaseKept ≡ true
  pub address : (k n : ℕ) → keeps i k n rules.AddressGuarded ≡ true
  pub link : (k n : ℕ) → keeps i k n rules.LinkGuarded ≡ true
  pub offset : (k n : ℕ) → keeps i k n rules.OffsetNarrow ≡ true
  pub stack : (k n : ℕ) → keeps i k n rules.StackBounded ≡ true
  pub branch : (k n : ℕ) → keeps i k n rules.BranchBounded ≡ true

each_kept : (i : Instruction) (k n : ℕ) → Kept i → (rule : Rule) → rule ≢ rules.TargetInside → keeps i k n rule ≡ true
each_kept i k n h rules.Spelled other = refl
each_kept i k n h rules.AccessConfined other = h.confined k n
each_kept i k n h rules.BaseKept other = h.base k n
each_kept i k n h rules.AddressGuarded other = h.address k n
each_kept i k n h rules.LinkGuarded other = h.link k n
each_kept i k n h rules.OffsetNarrow other = h.offset k n
each_kept i k n h rules.StackBounded other = h.stack k n
each_kept i k n h rules.TargetInside other = absurd (other refl)
each_kept i k n h rules.BranchBounded other = h.branch k n
each_kept i k n h rules.NeedMet other = refl

pub stands : (p : Profile) (need : Need) (i : Instruction) (word : ℕ) → SpellsIn p i word → Kept i → meets_of i need ≡ true → Stands p need i
stands p need i word s h met = record {
  word = word;
  spells = s;
  allowed = λ k n rule other. record {
    spelled = λ _. (i, s);
    kept = λ j t. subst (λ x. keeps x k n rule ≡ true) (in_same p i j word s t) (each_kept i k n h rule other);
  };
  meets = meets_by i s met;
}

-- An instruction that writes no reserved register but w22 keeps them all where its access is confined and it is no branch.
kept_sparing : (i : Instruction) (uses : List Use) → writes_of i ≡ uses → Spares uses → is_confined (address_of i) ≡ true → is_bounded i ≡ true → Kept i
unfolding written
kept_sparing i uses e s confined bounded =
    let all = subst Spares (sym e) s in
    let e18 : written i 18 ≡ None = all.avoids.first_address in
    let e21 : written i 21 ≡ None = all.avoids.base in
    let e23 : written i 23 ≡ None = all.avoids.second_address in
    let e24 : written i 24 ≡ None = all.avoids.third_address in
    record {
      confined = λ k n. confined;
      base = λ k n. rw e21 refl;
      address = λ k n. rw (e18, e23, e24) refl;
      link = λ k n. link_kept i k n all.link;
      offset = λ k n. all.avoids.offset;
      stack = λ k n. stack_kept i k n all.stack;
      branch = λ k n. bounded;
    }

pub opens_nothing : (p : Profile) (i : Instruction) → loads_entry i ≡ false → loads_link i ≡ false → moves_stack i ≡ false → opens_of p i ≡ Nothing
opens_nothing p i a b c = rw (a, b, c) refl

bit_fits : (b : Bool) → bit b < 2
bit_fits true = lit≤ tt
bit_fits false = lit≤ tt

size_fits : (s : Size) → size_code s < 4
size_fits sizes.Byte = lit≤ tt
size_fits sizes.Half = lit≤ tt
size_fits sizes.Word = lit≤ tt
size_fits sizes.Double = lit≤ tt

transfer_fits : (t : Transfer) → transfer_code t < 4
transfer_fits transfers.Store = lit≤ tt
transfer_fits transfers.Load = lit≤ tt
transfer_fits transfers.LoadSignedX = lit≤ tt
transfer_fits transfers.LoadSignedW = lit≤ tt

sf_fits : (w : Width) → sf w < 2
sf_fits widths.W = lit≤ tt
sf_fits widths.X = lit≤ tt

-- what the test of registers says
pub unreserved : (r : ℕ) → is_reserved r ≡ false → IsUnreserved r
unreserved r h =
    let a = or_parts _ _ h in
    let b = or_parts _ _ a.1 in
    let c = or_parts _ _ b.1 in
    let d = or_parts _ _ c.1 in
    let e = or_parts _ _ d.1 in
    record { first_address = a.0; base = b.0; offset = c.0; second_address = d.0; third_address = e.0; link = e.1 }

-- what an access writes: nothing, or a register that isn't reserved
record Writes (size : Size) (transfer : Transfer) (rt : ℕ) (uses : List Use) : Type 0 where
  spares : Spares uses
  no_link : (is_load_64 size transfer && eqb rt 30) ≡ false

no_load : (s : Size) (t : Transfer) → is_store t ≡ true → is_load_64 s t ≡ false
no_load sizes.Byte t h = refl
no_load sizes.Half t h = refl
no_load sizes.Word t h = refl
no_load sizes.Double transfers.Store h = refl
no_load sizes.Double transfers.Load h = absurd (true≢false (sym h))
no_load sizes.Double transfers.LoadSignedX h = refl
no_load sizes.Double transfers.LoadSignedW h = refl

writes_moved : (size : Size) (t : Transfer) (rt : ℕ) → may_move t rt ≡ true
    → Writes size t rt (if is_store t then [] else general rt (data_width size t) [])
writes_moved size t rt h = elim (or_cases (is_store t) (not (is_reserved rt)) h) [
  | inl store ↦ rw store (record { spares = spares_none; no_link = and_left _ _ (no_load size t store) })
  | inr free ↦
      let u = unreserved rt (not-true _ free) in
      record { spares = by_test (is_store t) (spares_one rt (data_width size t) u); no_link = and_right _ _ u.link }
]
  where
    by_test : (b : Bool) → {uses : List Use} → Spares uses → Spares (if b then [] else uses)
    by_test true s = spares_none
    by_test false s = s

-- ---- guards
-- a test among others that holds
second_of_four : (a c d : Bool) → (a || true || c || d) ≡ true
second_of_four true c d = refl
second_of_four false c d = refl

second_of_five : (a c d e : Bool) → (a || true || c || d || e) ≡ true
second_of_five true c d e = refl
second_of_five false c d e = refl

guard_kept : (rd rm : ℕ) → eqb rd 21 ≡ false → eqb rd 22 ≡ false → Kept (guard_of rd rm)
unfolding written
guard_kept rd rm base offset = record {
  confined = λ k n. refl;
  base = λ k n. rw base refl;
  address = λ k n. or_right _ _ refl;
  link = λ k n. second_of_four _ _ _;
  offset = λ k n. rw offset refl;
  stack = λ k n. second_of_five _ _ _ _;
  branch = λ k n. refl;
}

guard_spelled : (p : Profile) (rd rm : ℕ) → rd < 32 → rm < 32 → SpellsIn p (guard_of rd rm) (sum_of (fields (guard_of rd rm)))
guard_spelled p rd rm to from =
    spelled p (guard_of rd rm) refl (lit≤ tt) (lit≤ tt, (lit≤ tt, (lit≤ tt, (lit≤ tt, (from, (lit≤ tt, (lit≤ tt, (lit≤ tt, (to, tt)))))))))

pub guard_stands : (p : Profile) (rd rm : ℕ) → rd < 32 → rm < 32 → eqb rd 21 ≡ false → eqb rd 22 ≡ false → Stands p Nothing (guard_of rd rm)
guard_stands p rd rm to from base offset = stands p Nothing (guard_of rd rm) _ (guard_spelled p rd rm to from) (guard_kept rd rm base offset) refl

-- the guard of x30 by itself
pub link_guard_stands : (p : Profile) → Stands p Guard (guard_of 30 30)
link_guard_stands p = stands p Guard (guard_of 30 30) _ (guard_spelled p 30 30 (lit≤ tt) (lit≤ tt)) (guard_kept 30 30 refl refl) refl

-- ---- what touches sp: LDR XZR, [SP]
abbrev pub probe_of : Instruction
probe_of = instructions.UnsignedOffset (record { size = sizes.Double; transfer = transfers.Load; imm12 = 0; rn = 31; rt = 31 })

pub probe_stands : (p : Profile) (count : ℕ) → Stands p (Probe count) probe_of
probe_stands p count =
    stands p (Probe count) probe_of _ (spelled p probe_of refl tt (lit≤ tt, (lit≤ tt, (lit≤ tt, (lit≤ tt, (lit≤ tt, (lit≤ tt, tt)))))))
    (kept_sparing probe_of _ refl spares_none refl refl) refl

-- ---- a load of 64 bits into x30
abbrev pub link_access_of : ℕ → Instruction
link_access_of rm = instructions.RegisterOffset (record {
  size = sizes.Double;
  transfer = transfers.Load;
  rm = rm;
  extend = indexes.Uxtw;
  scaled = false;
  rn = 21;
  rt = 30;
})

link_access_kept : (rm : ℕ) → Kept (link_access_of rm)
unfolding written
link_access_kept rm = record {
  confined = λ k n. refl;
  base = λ k n. refl;
  address = λ k n. refl;
  link = λ k n. refl;
  offset = λ k n. refl;
  stack = λ k n. refl;
  branch = λ k n. refl;
}

pub link_access_stands : (p : Profile) (rm : ℕ) → rm < 32 → Stands p Nothing (link_access_of rm)
link_access_stands p rm index =
    stands p Nothing (link_access_of rm) _
    (spelled p (link_access_of rm) refl tt (lit≤ tt, (lit≤ tt, (lit≤ tt, (lit≤ tt, (index, (lit≤ tt, (lit≤ tt, (lit≤ tt, (lit≤ tt, (lit≤ tt, tt)))))))))))
    (link_access_kept rm) refl

-- ---- branches through a register
abbrev pub branch_of : BranchKind → ℕ → Instruction
branch_of kind rn = instructions.BranchRegister (record { kind = kind; rn = rn })

code_fits : (kind : BranchKind) → branch_code kind < 4
code_fits kinds.Br = lit≤ tt
code_fits kinds.Blr = lit≤ tt
code_fits kinds.Ret = lit≤ tt

branch_kept : (kind : BranchKind) (rn : ℕ) → is_bounded (branch_of kind rn) ≡ true → Kept (branch_of kind rn)
unfolding written
branch_kept kinds.Br rn h = record {
  confined = λ k n. refl;
  base = λ k n. refl;
  address = λ k n. refl;
  link = λ k n. refl;
  offset = λ k n. refl;
  stack = λ k n. refl;
  branch = λ k n. h;
}
branch_kept kinds.Blr rn h = record {
  confined = λ k n. refl;
  base = λ k n. refl;
  address = λ k n. refl;
  link = λ k n. refl;
  offset = λ k n. refl;
  stack = λ k n. refl;
  branch = λ k n. h;
}
branch_kept kinds.Ret rn h = record {
  confined = λ k n. refl;
  base = λ k n. refl;
  address = λ k n. refl;
  link = λ k n. refl;
  offset = λ k n. refl;
  stack = λ k n. refl;
  branch = λ k n. h;
}

pub through_first : (kind : BranchKind) → kind ≢ kinds.Ret → is_bounded (branch_of kind 18) ≡ true
through_first kinds.Br other = refl
through_first kinds.Blr other = refl
through_first kinds.Ret other = absurd (other refl)

pub branch_stands : (p : Profile) (kind : BranchKind) (rn : ℕ) → rn < 32 → is_bounded (branch_of kind rn) ≡ true → Stands p Nothing (branch_of kind rn)
branch_stands p kind rn below h =
    stands p Nothing (branch_of kind rn) _
    (spelled p (branch_of kind rn) refl tt (lit≤ tt, (code_fits kind, (lit≤ tt, (below, (lit≤ tt, tt))))))
    (branch_kept kind rn h) refl

-- ---- sums into w22
-- a register in which a sum may be held, as W
held : (r : ℕ) → may_hold r ≡ true → Spares (or_sp r widths.W [])
held r h = elim (or_cases (eqb r 22) (is_free r) h) [
  | inl offset ↦ subst (λ n. Spares (or_sp n widths.W [])) (sym (eqb-true r 22 offset)) spares_offset
  | inr free ↦
      let tests = and_parts _ _ free in
      spares_free r widths.W (record { unreserved = unreserved r (not-true _ tests.0); stack = not-true _ tests.1 })
]

pub immediate_stands : (p : Profile) (into : ℕ) (subtract shifted : Bool) (imm12 rn : ℕ) → imm12 < 4096 → rn < 32 → into < 32 → may_hold into ≡ true
    → Stands p Nothing (sum_of_immediate into subtract shifted imm12 rn)
immediate_stands p into subtract shifted imm12 rn fits below to holds =
    stands p Nothing (sum_of_immediate into subtract shifted imm12 rn) _
    (spelled p (sum_of_immediate into subtract shifted imm12 rn) refl tt (lit≤ tt, (bit_fits subtract, (lit≤ tt, (lit≤ tt, (bit_fits shifted, (fits, (below, (to, tt)))))))))
    (kept_sparing (sum_of_immediate into subtract shifted imm12 rn) _ refl (held into holds) refl refl) refl

pub index_sum_stands : (p : Profile) (into amount rm rn : ℕ) → amount ≤ 4 → rm < 32 → rn < 32 → into < 32 → may_hold into ≡ true
    → Stands p Nothing (sum_of_index into amount rm rn)
index_sum_stands p into amount rm rn fits index below to holds =
    stands p Nothing (sum_of_index into amount rm rn) _
    (spelled p (sum_of_index into amount rm rn) refl fits (lit≤ tt, (lit≤ tt, (lit≤ tt, (lit≤ tt, (index, (lit≤ tt, (omega arith, (below, (to, tt))))))))))
    (kept_sparing (sum_of_index into amount rm rn) _ refl (held into holds) refl refl) refl

-- ---- a base that is changed
pub changed_stands : (p : Profile) (subtract : Bool) (imm12 rn : ℕ) → imm12 < 4096 → rn < 32 → is_reserved rn ≡ false → eqb rn 31 ≡ false
    → Stands p Nothing (changed_of subtract imm12 rn) × (opens_of p (changed_of subtract imm12 rn) ≡ Nothing)
changed_stands p subtract imm12 rn fits below free other = (
  stands p Nothing (changed_of subtract imm12 rn) _
      (spelled p (changed_of subtract imm12 rn) refl tt (lit≤ tt, (bit_fits subtract, (lit≤ tt, (lit≤ tt, (lit≤ tt, (fits, (below, (below, tt)))))))))
      (kept_sparing (changed_of subtract imm12 rn) _ refl (spares_free rn widths.X (record { unreserved = unreserved rn free; stack = other })) refl refl) refl,
  opens_nothing p (changed_of subtract imm12 rn) refl refl (rw other refl),
)

-- ---- a single access at x21 and a W register
pub access_stands : (p : Profile) (size : Size) (transfer : Transfer) (rm rt : ℕ) → IsAccess size transfer → rm < 32 → rt < 32 → may_move transfer rt ≡ true
    → Stands p Nothing (access_of size transfer rm rt) × (opens_of p (access_of size transfer rm rt) ≡ Nothing)
access_stands p size transfer rm rt legal index below free =
    let w = writes_moved size transfer rt free in
    let i = access_of size transfer rm rt in (
      stands p Nothing i _
          (spelled p i refl legal (size_fits size, (lit≤ tt, (transfer_fits transfer, (lit≤ tt, (index, (lit≤ tt, (lit≤ tt, (lit≤ tt, (lit≤ tt, (below, tt)))))))))))
          (kept_sparing i _ refl w.spares refl refl) refl,
      opens_nothing p i refl w.no_link refl,
    )

-- ---- two registers at x18
-- what a pair writes: nothing, or two registers that aren't reserved
record WritesTwo (width : Width) (load : Bool) (rt2 rt : ℕ) : Type 0 where
  spares : Spares (if load then general rt width (general rt2 width []) else [])
  no_link : (load && is_x width && (eqb rt 30 || eqb rt2 30)) ≡ false

writes_two : (width : Width) (load : Bool) (rt2 rt : ℕ) → may_move_two load rt2 rt ≡ true → WritesTwo width load rt2 rt
writes_two width false rt2 rt h = record { spares = spares_none; no_link = refl }
writes_two width true rt2 rt h =
    let tests = and_parts _ _ h in
    let u = unreserved rt (not-true _ tests.0) in
    let u2 = unreserved rt2 (not-true _ tests.1) in
    record { spares = spares_more rt width _ u (spares_one rt2 width u2); no_link = rw (u.link, u2.link) (and_right _ _ refl) }

pub pair_stands : (p : Profile) (width : Width) (load : Bool) (rt2 rt : ℕ) → rt2 < 32 → rt < 32 → may_move_two load rt2 rt ≡ true → (load ≡ true → rt ≢ rt2)
    → Stands p Nothing (pair_of width load rt2 rt) × (opens_of p (pair_of width load rt2 rt) ≡ Nothing)
pair_stands p width load rt2 rt below2 below free apart =
    let w = writes_two width load rt2 rt free in
    let i = pair_of width load rt2 rt in (
      stands p Nothing i _
          (spelled p i refl (lit≤ tt, apart, (λ other. absurd (other refl))) (sf_fits width, (lit≤ tt, (lit≤ tt, (bit_fits load, (lit≤ tt, (below2, (lit≤ tt, (below, tt)))))))))
          (kept_sparing i _ refl w.spares refl refl) refl,
      opens_nothing p i refl w.no_link refl,
    )

-- ---- ADD SP, X21, X22, UXTX
abbrev pub stack_of : Instruction
stack_of = instructions.AddSubExtended (record {
  width = widths.X;
  subtract = false;
  set_flags = false;
  extend = extends.Uxtx;
  amount = 0;
  rm = 22;
  rn = 21;
  rd = 31;
})

stack_set_kept : Kept stack_of
unfolding written
stack_set_kept = record {
  confined = λ k n. refl;
  base = λ k n. refl;
  address = λ k n. refl;
  link = λ k n. refl;
  offset = λ k n. refl;
  stack = λ k n. refl;
  branch = λ k n. refl;
}

pub stack_stands : (p : Profile) → Stands p Nothing stack_of
stack_stands p =
    stands p Nothing stack_of _
    (spelled p stack_of refl (lit≤ tt) (lit≤ tt, (lit≤ tt, (lit≤ tt, (lit≤ tt, (lit≤ tt, (lit≤ tt, (lit≤ tt, (lit≤ tt, (lit≤ tt, tt))))))))))
    stack_set_kept refl

-- ---- instructions that only compute
-- a register that they may compute, as an operand of which number 31 is zr
computes : (r : ℕ) (w : Width) → may_compute w r ≡ true → Spares (general r w [])
computes r w h = elim (or_cases (not (is_reserved r)) _ h) [
  | inl free ↦ spares_one r w (unreserved r (not-true _ free))
  | inr offset ↦ let tests = and_parts _ _ offset in narrow r w (eqb-true r 22 tests.0) tests.1
]
  where
    narrow : (r : ℕ) (w : Width) → r ≡ 22 → not (is_x w) ≡ true → Spares (general r w [])
    narrow r widths.W e h = subst (λ n. Spares (general n widths.W [])) (sym e) spares_offset
    narrow r widths.X e h = absurd (true≢false (sym h))

-- and as one of which it would be sp
computes_other : (r : ℕ) (w : Width) → may_compute w r ≡ true → eqb r 31 ≡ false → Spares (or_sp r w [])
computes_other r w h other = subst (λ b. Spares (if b then [] else or_sp r w [])) other (computes r w h)

computes_either : (flags : Bool) (r : ℕ) (w : Width) → may_compute w r ≡ true → eqb r 31 ≡ false → Spares (if flags then general r w [] else or_sp r w [])
computes_either true r w h other = computes r w h
computes_either false r w h other = computes_other r w h other

by_spares : (p : Profile) (i : Instruction) (uses : List Use) → is_of p i ≡ true → IsLegal i → AllFit (fields i) → writes_of i ≡ uses → Spares uses
    → is_confined (address_of i) ≡ true → is_bounded i ≡ true → opens_of p i ≡ Nothing → Stands p Nothing i × (opens_of p i ≡ Nothing)
by_spares p i uses has legal fits e s confined bounded opens = (stands p Nothing i _ (spelled p i has legal fits) (kept_sparing i uses e s confined bounded) refl, opens)

pub computing_stands : (p : Profile) (i : Instruction) → is_computing i ≡ true → IsLegal i → AllFit (fields i) → Stands p Nothing i × (opens_of p i ≡ Nothing)
computing_stands p (instructions.AddSubImmediate x) h legal fits =
    let tests = and_parts _ _ h in
    let other = not-true _ tests.1 in
    by_spares p (instructions.AddSubImmediate x) _ refl legal fits refl (computes_either x.set_flags x.rd x.width tests.0 other) refl refl
    (opens_nothing p (instructions.AddSubImmediate x) refl refl (and_left _ _ (and_right _ _ other)))
computing_stands p (instructions.LogicalImmediate x) h legal fits =
    let tests = and_parts _ _ h in
    by_spares p (instructions.LogicalImmediate x) _ refl legal fits refl (computes_either (is_ands x.operation) x.rd x.width tests.0 (not-true _ tests.1)) refl refl
    (opens_nothing p (instructions.LogicalImmediate x) refl refl refl)
computing_stands p (instructions.MoveWide x) h legal fits =
    by_spares p (instructions.MoveWide x) _ refl legal fits refl (computes x.rd x.width h) refl refl (opens_nothing p (instructions.MoveWide x) refl refl refl)
computing_stands p (instructions.Bitfield x) h legal fits =
    by_spares p (instructions.Bitfield x) _ refl legal fits refl (computes x.rd x.width h) refl refl (opens_nothing p (instructions.Bitfield x) refl refl refl)
computing_stands p (instructions.LogicalShifted x) h legal fits =
    by_spares p (instructions.LogicalShifted x) _ refl legal fits refl (computes x.rd x.width h) refl refl (opens_nothing p (instructions.LogicalShifted x) refl refl refl)
computing_stands p (instructions.AddSubShifted x) h legal fits =
    by_spares p (instructions.AddSubShifted x) _ refl legal fits refl (computes x.rd x.width h) refl refl (opens_nothing p (instructions.AddSubShifted x) refl refl refl)
computing_stands p (instructions.AddSubExtended x) h legal fits =
    let tests = and_parts _ _ h in
    by_spares p (instructions.AddSubExtended x) _ refl legal fits refl (computes_either x.set_flags x.rd x.width tests.0 (not-true _ tests.1)) refl refl
    (opens_nothing p (instructions.AddSubExtended x) refl refl refl)
computing_stands p (instructions.ConditionalCompare x) h legal fits =
    by_spares p (instructions.ConditionalCompare x) _ refl legal fits refl spares_none refl refl (opens_nothing p (instructions.ConditionalCompare x) refl refl refl)
computing_stands p (instructions.ConditionalSelect x) h legal fits =
    by_spares p (instructions.ConditionalSelect x) _ refl legal fits refl (computes x.rd x.width h) refl refl (opens_nothing p (instructions.ConditionalSelect x) refl refl refl)
computing_stands p (instructions.TwoSource x) h legal fits =
    by_spares p (instructions.TwoSource x) _ refl legal fits refl (computes x.rd x.width h) refl refl (opens_nothing p (instructions.TwoSource x) refl refl refl)
computing_stands p (instructions.CountLeadingZeros x) h legal fits =
    by_spares p (instructions.CountLeadingZeros x) _ refl legal fits refl (computes x.rd x.width h) refl refl (opens_nothing p (instructions.CountLeadingZeros x) refl refl refl)
computing_stands p (instructions.MultiplyAdd x) h legal fits =
    by_spares p (instructions.MultiplyAdd x) _ refl legal fits refl (computes x.rd x.width h) refl refl (opens_nothing p (instructions.MultiplyAdd x) refl refl refl)
computing_stands p (instructions.MultiplyHigh x) h legal fits =
    by_spares p (instructions.MultiplyHigh x) _ refl legal fits refl (computes x.rd widths.X h) refl refl (opens_nothing p (instructions.MultiplyHigh x) refl refl refl)
computing_stands p i h legal fits = absurd (true≢false (sym h))

-- ---- two registers at x18, of which one is x30
abbrev pub link_pair_of : (rt2 rt : ℕ) → Instruction
link_pair_of rt2 rt = pair_of widths.X true rt2 rt

link_pair_cases : (rt2 rt : ℕ) → holds_link widths.X rt2 rt ≡ true
    → ((eqb rt 30 && not (is_reserved rt2)) ≡ true) ⊎ ((eqb rt2 30 && not (is_reserved rt)) ≡ true)
link_pair_cases rt2 rt h = or_cases (eqb rt 30 && not (is_reserved rt2)) (eqb rt2 30 && not (is_reserved rt)) h

link_pair_avoids : (rt2 rt : ℕ) → holds_link widths.X rt2 rt ≡ true → Avoids (general rt widths.X (general rt2 widths.X []))
link_pair_avoids rt2 rt h = elim (link_pair_cases rt2 rt h) [
  | inl first ↦
      let tests = and_parts (eqb rt 30) (not (is_reserved rt2)) first in
      subst (λ n. Avoids (general n widths.X (general rt2 widths.X []))) (sym (eqb-true rt 30 tests.0))
      (avoids_link _ (avoids_more rt2 widths.X [] (unreserved rt2 (not-true _ tests.1)) avoids_none))
  | inr second ↦
      let tests = and_parts (eqb rt2 30) (not (is_reserved rt)) second in
      subst (λ n. Avoids (general rt widths.X (general n widths.X []))) (sym (eqb-true rt2 30 tests.0))
      (avoids_more rt widths.X _ (unreserved rt (not-true _ tests.1)) (avoids_link [] avoids_none))
]

link_pair_loads : (rt2 rt : ℕ) → holds_link widths.X rt2 rt ≡ true → loads_link (link_pair_of rt2 rt) ≡ true
link_pair_loads rt2 rt h = elim (link_pair_cases rt2 rt h) [
  | inl first ↦ or_left (eqb rt 30) (eqb rt2 30) (and_parts (eqb rt 30) (not (is_reserved rt2)) first).0
  | inr second ↦ or_right (eqb rt 30) (eqb rt2 30) (and_parts (eqb rt2 30) (not (is_reserved rt)) second).0
]

-- An instruction that loads x30, and else avoids what is reserved.
kept_loading : (i : Instruction) (uses : List Use) → writes_of i ≡ uses → Avoids uses → width_in uses 31 ≡ None → loads_link i ≡ true
    → is_confined (address_of i) ≡ true → is_bounded i ≡ true → Kept i
unfolding written
kept_loading i uses e avoids stack loads confined bounded =
    let all = subst Avoids (sym e) avoids in
    let e18 : written i 18 ≡ None = all.first_address in
    let e21 : written i 21 ≡ None = all.base in
    let e23 : written i 23 ≡ None = all.second_address in
    let e24 : written i 24 ≡ None = all.third_address in
    record {
      confined = λ k n. confined;
      base = λ k n. rw e21 refl;
      address = λ k n. rw (e18, e23, e24) refl;
      link = λ k n. or_right _ _ loads;
      offset = λ k n. all.offset;
      stack = λ k n. stack_kept i k n (ap (λ u. width_in u 31) e ∙ stack);
      branch = λ k n. bounded;
    }

pub link_pair_stands : (p : Profile) (rt2 rt : ℕ) → rt2 < 32 → rt < 32 → holds_link widths.X rt2 rt ≡ true → rt ≢ rt2
    → Stands p Nothing (link_pair_of rt2 rt) × (opens_of p (link_pair_of rt2 rt) ≡ Guard)
link_pair_stands p rt2 rt below2 below holds apart =
    let i = link_pair_of rt2 rt in
    let loads = link_pair_loads rt2 rt holds in (
      stands p Nothing i _
          (spelled p i refl (lit≤ tt, (λ _. apart), (λ other. absurd (other refl))) (lit≤ tt, (lit≤ tt, (lit≤ tt, (lit≤ tt, (lit≤ tt, (below2, (lit≤ tt, (below, tt)))))))))
          (kept_loading i _ refl (link_pair_avoids rt2 rt holds) (no_stack rt widths.X _ (no_stack rt2 widths.X [] refl)) loads refl refl) refl,
      rw loads refl,
    )

-- ---- LDAR and STLR at x18
pub ordered_stands : (size : Size) (load : Bool) (rt : ℕ) → rt < 32 → may_move (ordered_transfer load) rt ≡ true
    → Stands Two Nothing (ordered_of size load rt) × (opens_of Two (ordered_of size load rt) ≡ Nothing)
ordered_stands size load rt below free =
    let w = writes_moved size (ordered_transfer load) rt free in
    let i = ordered_of size load rt in (
      stands Two Nothing i _
          (spelled Two i refl tt (size_fits size, (lit≤ tt, (bit_fits load, (lit≤ tt, (lit≤ tt, (below, tt)))))))
          (kept_sparing i _ refl w.spares refl refl) refl,
      opens_nothing Two i refl w.no_link refl,
    )

link_ordered_kept : Kept (ordered_of sizes.Double true 30)
unfolding written
link_ordered_kept = record {
  confined = λ k n. refl;
  base = λ k n. refl;
  address = λ k n. refl;
  link = λ k n. refl;
  offset = λ k n. refl;
  stack = λ k n. refl;
  branch = λ k n. refl;
}

pub link_ordered_stands : Stands Two Nothing (ordered_of sizes.Double true 30)
link_ordered_stands =
    stands Two Nothing (ordered_of sizes.Double true 30) _
    (spelled Two (ordered_of sizes.Double true 30) refl tt (lit≤ tt, (lit≤ tt, (lit≤ tt, (lit≤ tt, (lit≤ tt, (lit≤ tt, tt)))))))
    link_ordered_kept refl

-- ---- a move of sp
abbrev pub stack_moved_of : (subtract : Bool) → (imm12 : ℕ) → Instruction
stack_moved_of subtract imm12 = instructions.AddSubImmediate (record {
  width = widths.X;
  subtract = subtract;
  set_flags = false;
  shifted = false;
  imm12 = imm12;
  rn = 31;
  rd = 31;
})

stack_moved_kept : (subtract : Bool) (imm12 : ℕ) → Kept (stack_moved_of subtract imm12)
unfolding written
stack_moved_kept subtract imm12 = record {
  confined = λ k n. refl;
  base = λ k n. refl;
  address = λ k n. refl;
  link = λ k n. refl;
  offset = λ k n. refl;
  stack = λ k n. refl;
  branch = λ k n. refl;
}

pub stack_moved_stands : (p : Profile) (subtract : Bool) (imm12 : ℕ) → imm12 < 4096 → Stands p Nothing (stack_moved_of subtract imm12)
stack_moved_stands p subtract imm12 fits =
    stands p Nothing (stack_moved_of subtract imm12) _
    (spelled p (stack_moved_of subtract imm12) refl tt (lit≤ tt, (bit_fits subtract, (lit≤ tt, (lit≤ tt, (lit≤ tt, (fits, (lit≤ tt, (lit≤ tt, tt)))))))))
    (stack_moved_kept subtract imm12) refl

-- One that opens a need, and what meets it.
pub keeps_closed : (p : Profile) (need : Need) (is one two : List Instruction) (i closing : Instruction) → one ≡ is ++ i ∷ [] → two ≡ one ++ closing ∷ [] → KeepsRules p is
    → Stands p Nothing i → opens_of p i ≡ need → Stands p need closing → opens_of p closing ≡ Nothing → KeepsRules p two
keeps_closed p need is one two i closing e f keeps s opens met closes =
    subst (λ l. Leads p Nothing l Nothing) (sym f)
    (subst (λ after. Leads p Nothing (one ++ closing ∷ []) after) closes (one_more p Nothing need one closing
    (subst (λ l. Leads p Nothing l need) (sym e) (subst (λ after. Leads p Nothing (is ++ i ∷ []) after) opens (one_more p Nothing Nothing is i keeps s)))
    met))

-- What meets a need, before instructions that keep the rules.
pub leads_behind : (p : Profile) (need : Need) (is all : List Instruction) (first : Instruction) → all ≡ first ∷ is → Stands p need first → opens_of p first ≡ Nothing
    → KeepsRules p is → Leads p need all Nothing
leads_behind p need is all first e s opens keeps =
    subst (λ l. Leads p need l Nothing) (sym e) (s, subst (λ before. Leads p before is Nothing) (sym opens) keeps)
