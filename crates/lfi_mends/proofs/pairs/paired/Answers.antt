use Rattle.lfi_mends.proofs.BoundedPairMends.{offset_bounded, pre_pair_bounded, post_pair_bounded, pair_sum_is, loaded_apart, IsPairSum}
use Rattle.lfi_mends.proofs.StoredPairs.{apart_from_sum, offset_stored, pre_stored, post_stored}
use Rattle.lfi_mends.proofs.BoundedPairs.{ArePair}
use Rattle.std.proofs.Common.{rules, ℕ, Bool, ◌≡◌, ◌≢◌, eqb, true, false, Some, [], refl, sym, subst, inl, inr, ◌∙◌, true≢false}
use Rattle.std.specs.Prelude.{◌&&◌, ◌||◌, not}
use Rattle.std.proofs.lemmas.Bool.{cases_Bool, eqb-false, and_parts, or_cases, not-true}
use Rattle.a64_word.specs.declared.instruction.Instruction.TheVariants.{Pair}
use Rattle.a64_word.specs.declared.operands.PairMode.{PairMode}
use Rattle.a64_word.specs.declared.operands.Width.{Width}
use Rattle.a64_word.specs.declared.operands.PairMode.TheVariants as modes
use Rattle.lfi_mends.specs.Mends.{mended}
use Rattle.lfi_mends.specs.Outcomes.{DoesTheSame, DoesTheSameBounded, is_offset, is_scratch, moves_both}
use Rattle.lfi_mends.specs.Registers.{is_free, is_reserved, may_move_two, holds_link}
use Rattle.lfi_mends.specs.inner.Rows as rows
use Rattle.lfi_mends.proofs.Standing.{unreserved}
use Rattle.lfi_mends.proofs.Changed.{free_base}
use Rattle.lfi_mends.proofs.Paired.{pair_same}
use Rattle.lfi_mends.proofs.ChangedPairs.{pre_pair_same, post_pair_same}
use Rattle.lfi_mends.proofs.pairs.paired.Goals as goal

no_change : modes.PreIndex ≢ modes.Offset
no_change e = cc

no_change_after : modes.PostIndex ≢ modes.Offset
no_change_after e = cc

by_mode : (F : PairMode → Type 0) (m : PairMode) → (m ≡ modes.Offset → F modes.Offset) → (m ≡ modes.PreIndex → F modes.PreIndex) → (m ≡ modes.PostIndex → F modes.PostIndex) → F m
by_mode F modes.Offset a b c = a refl
by_mode F modes.PreIndex a b c = b refl
by_mode F modes.PostIndex a b c = c refl

pub returns-clause-does : goal.returns-clause-does
returns-clause-does c = λ plain.
    let i = c.args.i.now in
    let d = c.distance.result in
    let far = c.distance.ensures in
    let is = mended c.placed.result in
    let tests = and_parts (moves_both i.rt2 i.rt) (is_offset i.mode && not (eqb i.rn 22) || is_free i.rn) plain in
    let no_offset : eqb i.rn 22 ≡ false = elim (or_cases (is_offset i.mode && not (eqb i.rn 22)) (is_free i.rn) tests.1) [
      | inl offset ↦ not-true (eqb i.rn 22) (and_parts (is_offset i.mode) (not (eqb i.rn 22)) offset).1
      | inr free ↦ (unreserved i.rn (not-true (is_reserved i.rn) (and_parts (not (is_reserved i.rn)) (not (eqb i.rn 31)) free).0)).offset
    ] in
    let sum : c.in-Some.sum ≡ 22 = c.in-Some.ensures.offset tests.0 no_offset in
    let at_offset : i.mode ≡ modes.Offset → DoesTheSame [] is (Pair (record { width = i.width; load = i.load; mode = modes.Offset; imm7 = i.imm7; rt2 = i.rt2; rn = i.rn; rt = i.rt })) =
    λ mode. pair_same i.width i.load i.imm7 i.rt2 i.rn i.rt d.below d.bytes is far.is far.near far.some tests.0
    (subst (λ r. is ≡ rows.paired r i.width i.load i.rt2 i.rt i.rn d.below d.bytes) sum (c.placed.ensures.items mode tests.0)) in
    let free_of : is_offset i.mode ≡ false → is_free i.rn ≡ true =
    λ changes. elim (or_cases (is_offset i.mode && not (eqb i.rn 22)) (is_free i.rn) tests.1) [
      | inl offset ↦ let yes : is_offset i.mode ≡ true = (and_parts (is_offset i.mode) (not (eqb i.rn 22)) offset).0 in let no : true ≡ false = sym yes ∙ changes in cc
      | inr free ↦ free
    ] in
    let before : i.mode ≡ modes.PreIndex → DoesTheSame [] is (Pair (record { width = i.width; load = i.load; mode = modes.PreIndex; imm7 = i.imm7; rt2 = i.rt2; rn = i.rn; rt = i.rt })) =
    λ mode.
    let free = free_of (subst (λ m. is_offset m ≡ false) (sym mode) refl) in
    let only = c.requires.legal.2 (λ e. no_change (sym mode ∙ e)) in
    let one = free_base i.rn i.rt free only.0 in
    let two = free_base i.rn i.rt2 free only.1 in
    pre_pair_same i.width i.load i.imm7 i.rt2 i.rn i.rt d.below d.bytes is far.is far.near far.some tests.0 one.stack one.base (search rules) one.apart two.apart
    (c.placed.ensures.before mode free tests.0) in
    let behind : i.mode ≡ modes.PostIndex → DoesTheSame [] is (Pair (record { width = i.width; load = i.load; mode = modes.PostIndex; imm7 = i.imm7; rt2 = i.rt2; rn = i.rn; rt = i.rt })) =
    λ mode.
    let free = free_of (subst (λ m. is_offset m ≡ false) (sym mode) refl) in
    let only = c.requires.legal.2 (λ e. no_change_after (sym mode ∙ e)) in
    let one = free_base i.rn i.rt free only.0 in
    let two = free_base i.rn i.rt2 free only.1 in
    let first = (unreserved i.rn (not-true (is_reserved i.rn) (and_parts (not (is_reserved i.rn)) (not (eqb i.rn 31)) free).0)).first_address in
    let kept : is_scratch i.rn ≡ false = rw (first, no_offset) refl in
    post_pair_same i.width i.load i.imm7 i.rt2 i.rn i.rt d.below d.bytes is far.is far.near far.some tests.0 one.stack first no_offset kept (search rules) one.apart two.apart
    (c.placed.ensures.after mode free tests.0) in
    by_mode (λ m. DoesTheSame [] is (Pair (record { width = i.width; load = i.load; mode = m; imm7 = i.imm7; rt2 = i.rt2; rn = i.rn; rt = i.rt }))) i.mode at_offset before behind

some_of : (w : Width) (load : Bool) (rt2 rt : ℕ) → (not load || may_move_two true rt2 rt || holds_link w rt2 rt) ≡ true → (not load || may_move_two load rt2 rt || holds_link w rt2 rt) ≡ true
some_of w true rt2 rt h = h
some_of w false rt2 rt h = refl

store_of : (load : Bool) (rt2 rt : ℕ) → rows.stores_first load rt2 rt ≡ true → load ≡ false
store_of true rt2 rt h = absurd (true≢false (sym h))
store_of false rt2 rt h = refl

pub returns-clause-bounded : goal.returns-clause-bounded
returns-clause-bounded c = λ bounded.
    let i = c.args.i.now in
    let d = c.distance.result in
    let far = c.distance.ensures in
    let is = mended c.placed.result in
    let first = rows.stores_first i.load i.rt2 i.rt in
    let loads : (not i.load || may_move_two i.load i.rt2 i.rt || holds_link i.width i.rt2 i.rt) ≡ true =
    some_of i.width i.load i.rt2 i.rt (sym c.may_load.ensures ∙ c.if-not-may_load.false) in
    let pair : first ≡ false → ArePair i.width i.load i.rt2 i.rt = λ stored. record { apart = c.requires.legal.1; stored = stored; some = loads } in
    let sum = c.in-Some.sum in
    let found = sym c.in-Some.ensures.is in
    let psum = pair_sum_is i.load i.rt2 i.rt i.rn sum found in
    let store : first ≡ true → i.load ≡ false = store_of i.load i.rt2 i.rt in
    let ssum : first ≡ true → IsPairSum false i.rt2 i.rt sum = λ one. subst (λ l. IsPairSum l i.rt2 i.rt sum) (store one) psum in
    let sapart : first ≡ true → i.rn ≢ sum = λ one. apart_from_sum i.rt2 i.rt i.rn sum (subst (λ l. rows.pair_sum l i.rt2 i.rt i.rn ≡ Some sum) (store one) found) in
    let unsummed : i.load ≡ true → (i.rt ≢ sum) × (i.rt2 ≢ sum) = λ l. let both = (loaded_apart i.width i.load i.rt2 i.rt loads l).0 in ((λ e. both.0 (e ∙ psum.loads l)), (λ e. both.1 (e ∙ psum.loads l))) in
    let unloaded : i.load ≡ true → (21 ≢ i.rt) × (21 ≢ i.rt2) = λ l. (loaded_apart i.width i.load i.rt2 i.rt loads l).1 in
    let stack : is_offset i.mode ≡ false → eqb i.rn 31 ≡ false = λ changes. not-true (eqb i.rn 31) (rw changes at bounded) in
    let apart : i.mode ≢ modes.Offset → eqb i.rn 31 ≡ false → (i.rn ≢ i.rt) × (i.rn ≢ i.rt2) =
    λ changes free. let only = c.requires.legal.2 changes in ((λ e. eqb-false i.rn 31 free (only.0 e)), (λ e. eqb-false i.rn 31 free (only.1 e))) in
    let base : i.mode ≢ modes.Offset → eqb i.rn 21 ≡ false = λ changes. search rules in
    let as_store : (m : PairMode) → first ≡ true → DoesTheSameBounded [] is (Pair (record { width = i.width; load = false; mode = m; imm7 = i.imm7; rt2 = i.rt2; rn = i.rn; rt = i.rt }))
    → DoesTheSameBounded [] is (Pair (record { width = i.width; load = i.load; mode = m; imm7 = i.imm7; rt2 = i.rt2; rn = i.rn; rt = i.rt })) =
    λ m one h. subst (λ l. DoesTheSameBounded [] is (Pair (record { width = i.width; load = l; mode = m; imm7 = i.imm7; rt2 = i.rt2; rn = i.rn; rt = i.rt }))) (sym (store one)) h in
    let at_offset : i.mode ≡ modes.Offset → DoesTheSameBounded [] is (Pair (record { width = i.width; load = i.load; mode = modes.Offset; imm7 = i.imm7; rt2 = i.rt2; rn = i.rn; rt = i.rt })) =
    λ mode. elim (cases_Bool first) [
      | inl one ↦ as_store modes.Offset one (offset_stored i.width i.imm7 i.rt2 i.rn i.rt sum d.below d.bytes is far.is far.near far.some (ssum one) (c.placed.ensures.stored mode one))
      | inr none ↦ offset_bounded i.width i.load i.imm7 i.rt2 i.rn i.rt sum d.below d.bytes is far.is far.near far.some (pair none) psum (c.placed.ensures.all mode none)
    ] in
    let before : i.mode ≡ modes.PreIndex → DoesTheSameBounded [] is (Pair (record { width = i.width; load = i.load; mode = modes.PreIndex; imm7 = i.imm7; rt2 = i.rt2; rn = i.rn; rt = i.rt })) =
    λ mode.
    let changes : i.mode ≢ modes.Offset = λ e. no_change (sym mode ∙ e) in
    let free = stack (subst (λ m. is_offset m ≡ false) (sym mode) refl) in
    let others = apart changes free in
    elim (cases_Bool first) [
      | inl one ↦ as_store modes.PreIndex one
          (pre_stored i.width i.imm7 i.rt2 i.rn i.rt sum d.below d.bytes is far.is far.near far.some (ssum one) (sapart one) free (base changes) (search rules) others.0 others.1 (c.placed.ensures.before_stored mode free one))
      | inr none ↦
          pre_pair_bounded i.width i.load i.imm7 i.rt2 i.rn i.rt sum d.below d.bytes is far.is far.near far.some (pair none) psum free (base changes) (search rules) others.0 others.1 (c.placed.ensures.before_all mode free none)
    ] in
    let behind : i.mode ≡ modes.PostIndex → DoesTheSameBounded [] is (Pair (record { width = i.width; load = i.load; mode = modes.PostIndex; imm7 = i.imm7; rt2 = i.rt2; rn = i.rn; rt = i.rt })) =
    λ mode.
    let changes : i.mode ≢ modes.Offset = λ e. no_change_after (sym mode ∙ e) in
    let free = stack (subst (λ m. is_offset m ≡ false) (sym mode) refl) in
    let others = apart changes free in
    elim (cases_Bool first) [
      | inl one ↦ as_store modes.PostIndex one
          (post_stored i.width i.imm7 i.rt2 i.rn i.rt sum d.below d.bytes is far.is far.near far.some (ssum one) (sapart one) free (base changes) (search rules) others.0 others.1 (c.placed.ensures.after_stored mode free one))
      | inr none ↦
          post_pair_bounded i.width i.load i.imm7 i.rt2 i.rn i.rt sum d.below d.bytes is far.is far.near far.some (pair none) psum unsummed free (base changes) unloaded (search rules) others.0 others.1 (c.placed.ensures.after_all mode free none)
    ] in
    by_mode (λ m. DoesTheSameBounded [] is (Pair (record { width = i.width; load = i.load; mode = m; imm7 = i.imm7; rt2 = i.rt2; rn = i.rn; rt = i.rt }))) i.mode at_offset before behind
