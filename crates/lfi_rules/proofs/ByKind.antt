-- What the kinds of classes tell of their words.
use Rattle.std.proofs.Common.{◌≡◌, ◌≢◌, ℕ, ◌+◌, ◌^◌, ◌<◌, ◌≤◌, List, [], ◌∷◌, ◌++◌, true, refl, sym, arith, inl, inr, ◌⊎◌}
use Rattle.a64_word.specs.inner.Bits.{bits_at}
use Rattle.lfi_classes.specs.Parts.{Class, IsIn}
use Rattle.lfi_classes.specs.Classes.{AnyHas, IsQuietHere, call_classes, probe_classes, guard_classes, pair_classes, direct_classes, ordered_guard_classes, ordered_classes, near_classes, quiet_classes}
use Rattle.lfi_rules.specs.declared.needs.Need.TheVariants.{Nothing, Call, Guard, Probe}
use Rattle.std.specs.Prelude.{pos, ◌+ℤ◌}
use Rattle.std.proofs.Common.{Some, subst}
use Rattle.std.proofs.lemmas.Bool.{or_cases}
use Rattle.lfi_rules.specs.Rules.{is_inside}
use Rattle.lfi_classes.specs.declared.classes.Reach.{Reach}
use Rattle.lfi_classes.specs.declared.classes.Reach.TheVariants.{Quiet, Near, Ordered}
use Rattle.lfi_module.specs.declared.profile.Profile.{Profile}
use Rattle.lfi_module.specs.declared.profile.Profile.TheVariants.{Two}
use Rattle.lfi_rules.specs.inner.Quiet.{IsToldWord, IsQuietWord}
use Rattle.lfi_rules.proofs.Broken.{quiet_told}
use Rattle.lfi_rules.specs.inner.Passing.{IsFarFromEnds, signed_of, IsOffset, of_branch, of_bit_test, of_other}
use Rattle.lfi_rules.proofs.Fields.{top_is, low_is}
use Rattle.lfi_rules.proofs.Jumps.{branch_quiet, conditional_quiet, comparison_quiet, bit_test_quiet}
use Rattle.lfi_rules.proofs.Numbers.{plain_is_quiet, sum_is_quiet, narrow_shift_is_quiet, long_bitmask_is_quiet, long_ands_is_quiet, short_bitmask_is_quiet, short_ands_is_quiet, extended_sum_is_quiet, extended_flags_is_quiet, conditional_compare_is_quiet, conditional_select_is_quiet, two_source_is_quiet, leading_zeros_is_quiet, high_product_is_quiet, offset_plain_is_quiet, offset_shift_is_quiet, offset_bitmask_is_quiet, offset_extended_is_quiet}
use Rattle.lfi_rules.proofs.Accesses.{load_entry_opens, load_link_past_table_opens, load_link_opens, load_link_unscaled_opens, pop_link_opens, load_link_at_index_opens, load_is_quiet, load_unscaled_is_quiet, store_unscaled_is_quiet, pop_is_quiet, push_is_quiet, load_at_index_is_quiet, store_at_index_is_quiet, load_ordered_is_told, store_ordered_is_told, load_link_ordered_opens}
use Rattle.lfi_rules.proofs.Doubles.{load_link_first_opens, load_link_second_opens, pop_link_first_opens, pop_link_second_opens, load_pair_is_quiet, pop_pair_is_quiet, store_is_quiet, push_pair_is_quiet, load_even_odd_is_quiet, load_odd_even_is_quiet, pop_even_odd_is_quiet, pop_odd_even_is_quiet}
use Rattle.lfi_rules.proofs.Jumps.{move_stack_opens, branch_on_is_quiet, branch_back_is_quiet, conditional_on_is_quiet, conditional_back_is_quiet, comparison_on_is_quiet, comparison_back_is_quiet, bit_test_on_is_quiet, bit_test_back_is_quiet, guard_is_quiet, stack_from_offset_is_quiet, nop_is_quiet, breakpoint_is_quiet, jump_is_quiet, ret_is_quiet}

abbrev Each : (Class → Type 0) → List Class → Type 0
Each P [] = Unit {0}
Each P (class ∷ classes) = P class × Each P classes

from_each : (w : ℕ) (P : Type 0) (classes : List Class) → Each (λ class. IsIn class w → P) classes → AnyHas classes w → P
from_each w P [] each has = absurd has
from_each w P (class ∷ classes) each (inl here) = each.0 here
from_each w P (class ∷ classes) each (inr later) = from_each w P classes each.1 later

each_quiet : (w k n : ℕ) → w < 2 ^ 32 → Each (λ class. IsIn class w → IsQuietWord w k n Nothing) quiet_classes
unfolding quiet_classes
each_quiet w k n below = (
  plain_is_quiet w k n below,
  (
    sum_is_quiet w k n below,
    (
      narrow_shift_is_quiet w k n below,
      (
        long_bitmask_is_quiet w k n below,
        (
          long_ands_is_quiet w k n below,
          (
            short_bitmask_is_quiet w k n below,
            (
              short_ands_is_quiet w k n below,
              (
                extended_sum_is_quiet w k n below,
                (
                  extended_flags_is_quiet w k n below,
                  (
                    conditional_compare_is_quiet w k n below,
                    (
                      conditional_select_is_quiet w k n below,
                      (
                        two_source_is_quiet w k n below,
                        (
                          leading_zeros_is_quiet w k n below,
                          (
                            high_product_is_quiet w k n below,
                            (
                              offset_plain_is_quiet w k n below,
                              (
                                offset_shift_is_quiet w k n below,
                                (
                                  offset_bitmask_is_quiet w k n below,
                                  (
                                    offset_extended_is_quiet w k n below,
                                    (
                                      guard_is_quiet w k n below,
                                      (
                                        stack_from_offset_is_quiet w k n below,
                                        (
                                          nop_is_quiet w k n below,
                                          (
                                            breakpoint_is_quiet w k n below,
                                            (
                                              jump_is_quiet w k n below,
                                              (
                                                ret_is_quiet w k n below,
                                                (
                                                  load_is_quiet w k n below,
                                                  (
                                                    store_is_quiet w k n below,
                                                    (
                                                      load_unscaled_is_quiet w k n below,
                                                      (
                                                        store_unscaled_is_quiet w k n below,
                                                        (
                                                          pop_is_quiet w k n below,
                                                          (
                                                            push_is_quiet w k n below,
                                                            (
                                                              load_at_index_is_quiet w k n below,
                                                              (
                                                                store_at_index_is_quiet w k n below,
                                                                (
                                                                  push_pair_is_quiet w k n below,
                                                                  (
                                                                    load_even_odd_is_quiet w k n below,
                                                                    (load_odd_even_is_quiet w k n below, (pop_even_odd_is_quiet w k n below, (pop_odd_even_is_quiet w k n below, tt))),
                                                                  ),
                                                                ),
                                                              ),
                                                            ),
                                                          ),
                                                        ),
                                                      ),
                                                    ),
                                                  ),
                                                ),
                                              ),
                                            ),
                                          ),
                                        ),
                                      ),
                                    ),
                                  ),
                                ),
                              ),
                            ),
                          ),
                        ),
                      ),
                    ),
                  ),
                ),
              ),
            ),
          ),
        ),
      ),
    ),
  ),
)

each_near : (w k n : ℕ) → w < 2 ^ 32 → IsFarFromEnds k n → Each (λ class. IsIn class w → IsQuietWord w k n Nothing) (near_classes ++ quiet_classes)
unfolding near_classes
each_near w k n below far =
    let on : k + 2048 ≤ n = far.end in
    let back : 2048 ≤ k = far.start in
    let within : k < n = omega arith in (
      branch_on_is_quiet w k n below on,
      (
        branch_back_is_quiet w k n below back within,
        (
          conditional_on_is_quiet w k n below on,
          (
            conditional_back_is_quiet w k n below back within,
            (
              comparison_on_is_quiet w k n below on,
              (
                comparison_back_is_quiet w k n below back within,
                (
                  bit_test_on_is_quiet w k n below on,
                  (
                    bit_test_back_is_quiet w k n below back within,
                    each_quiet w k n below,
                  ),
                ),
              ),
            ),
          ),
        ),
      ),
    )

quiet_anywhere : (w k n : ℕ) → w < 2 ^ 32 → AnyHas quiet_classes w → IsQuietWord w k n Nothing
quiet_anywhere w k n below has = from_each w (IsQuietWord w k n Nothing) quiet_classes (each_quiet w k n below) has

quiet_far : (w k n : ℕ) → w < 2 ^ 32 → IsFarFromEnds k n → AnyHas (near_classes ++ quiet_classes) w → IsQuietWord w k n Nothing
quiet_far w k n below far has = from_each w (IsQuietWord w k n Nothing) (near_classes ++ quiet_classes) (each_near w k n below far) has

pub quiet_here : (w k n : ℕ) → w < 2 ^ 32 → IsQuietHere Quiet w → IsQuietWord w k n Nothing
quiet_here w k n below has = quiet_anywhere w k n below has

pub ordered_told : (w k n : ℕ) → w < 2 ^ 32 → AnyHas ordered_classes w → IsToldWord Two w k n Nothing
unfolding ordered_classes
ordered_told w k n below has = from_each w (IsToldWord Two w k n Nothing) ordered_classes (load_ordered_is_told w k n below, (store_ordered_is_told w k n below, tt)) has

pub ordered_guard_opens : (w k n : ℕ) → w < 2 ^ 32 → AnyHas ordered_guard_classes w → IsToldWord Two w k n Guard
unfolding ordered_guard_classes
ordered_guard_opens w k n below has = from_each w (IsToldWord Two w k n Guard) ordered_guard_classes (load_link_ordered_opens w k n below, tt) has

-- one of the ordered classes, or of those after them
either_of : (w : ℕ) → AnyHas (ordered_classes ++ (near_classes ++ quiet_classes)) w → AnyHas ordered_classes w ⊎ AnyHas (near_classes ++ quiet_classes) w
unfolding ordered_classes
either_of w (inl a) = inl (inl a)
either_of w (inr (inl b)) = inl (inr (inl b))
either_of w (inr (inr c)) = inr c

pub told_here : (p : Profile) (w k n : ℕ) (near : Reach) → w < 2 ^ 32 → (near ≢ Quiet → IsFarFromEnds k n) → (near ≡ Ordered → p ≡ Two) → IsQuietHere near w → IsToldWord p w k n Nothing
told_here p w k n Quiet below far of has = quiet_told p w k n Nothing (quiet_anywhere w k n below has)
told_here p w k n Near below far of has = quiet_told p w k n Nothing (quiet_far w k n below (far (λ e. cc)) has)
told_here p w k n Ordered below far of has = elim (either_of w has) [
  | inl ordered ↦ subst (λ x. IsToldWord x w k n Nothing) (sym (of refl)) (ordered_told w k n below ordered)
  | inr other ↦ quiet_told p w k n Nothing (quiet_far w k n below (far (λ e. cc)) other)
]

pub call_opens : (w k n : ℕ) → w < 2 ^ 32 → AnyHas call_classes w → IsQuietWord w k n Call
unfolding call_classes
call_opens w k n below has = from_each w (IsQuietWord w k n Call) call_classes (load_entry_opens w k n below, tt) has

pub probe_opens : (w k n : ℕ) → w < 2 ^ 32 → AnyHas probe_classes w → IsQuietWord w k n (Probe 1)
unfolding probe_classes
probe_opens w k n below has = from_each w (IsQuietWord w k n (Probe 1)) probe_classes (move_stack_opens w k n below, tt) has

pub guard_opens : (w k n : ℕ) → w < 2 ^ 32 → AnyHas guard_classes w → IsQuietWord w k n Guard
unfolding guard_classes
guard_opens w k n below has = from_each w (IsQuietWord w k n Guard) guard_classes (
  load_link_past_table_opens w k n below,
  (
    load_link_opens w k n below,
    (
      load_link_unscaled_opens w k n below,
      (
        pop_link_opens w k n below,
        (
          load_link_at_index_opens w k n below,
          (load_link_first_opens w k n below, (load_link_second_opens w k n below, (pop_link_first_opens w k n below, (pop_link_second_opens w k n below, tt)))),
        ),
      ),
    ),
  ),
)
    has

pub pair_tells : (w k n : ℕ) → w < 2 ^ 32 → AnyHas pair_classes w → bits_at w 0 5 ≢ bits_at w 10 5 → IsQuietWord w k n Nothing
unfolding pair_classes
pair_tells w k n below has apart = from_each w (IsQuietWord w k n Nothing) pair_classes
    ((λ h. load_pair_is_quiet w k n below h apart), ((λ h. pop_pair_is_quiet w k n below h apart), tt)) has

-- a direct branch, by where its field says that it goes
pub direct_tells : (w bits half k n : ℕ) → w < 2 ^ 32 → IsOffset w bits half → AnyHas direct_classes w → is_inside n (Some (pos k +ℤ signed_of half bits)) ≡ true → IsQuietWord w k n Nothing
unfolding direct_classes
direct_tells w bits half k n below (of_branch op b h) has inside =
    branch_quiet w k n below op (subst (λ x. is_inside n (Some (pos k +ℤ signed_of (2 ^ 25) x)) ≡ true) b (subst (λ x. is_inside n (Some (pos k +ℤ signed_of x bits)) ≡ true) h inside))
direct_tells w bits half k n below (of_bit_test op b h) has inside =
    bit_test_quiet w k n below op (subst (λ x. is_inside n (Some (pos k +ℤ signed_of (2 ^ 13) x)) ≡ true) b (subst (λ x. is_inside n (Some (pos k +ℤ signed_of x bits)) ≡ true) h inside))
direct_tells w bits half k n below (of_other no_branch no_test b h) (inl class) inside =
    let there = subst (λ x. is_inside n (Some (pos k +ℤ signed_of (2 ^ 18) x)) ≡ true) b (subst (λ x. is_inside n (Some (pos k +ℤ signed_of x bits)) ≡ true) h inside) in
    elim (or_cases _ _ class.top) [
      | inl first ↦ elim (or_cases _ _ first) [
        | inl branch ↦ absurd (no_branch (top_is w 5 5 5 branch))
        | inr comparison ↦ comparison_quiet w k n below (top_is w 4 6 26 comparison) there
      ]
      | inr test ↦ absurd (no_test (top_is w 4 6 27 test))
    ]
direct_tells w bits half k n below (of_other no_branch no_test b h) (inr (inl class)) inside =
    let there = subst (λ x. is_inside n (Some (pos k +ℤ signed_of (2 ^ 18) x)) ≡ true) b (subst (λ x. is_inside n (Some (pos k +ℤ signed_of x bits)) ≡ true) h inside) in
    conditional_quiet w k n below (top_is w 3 8 84 class.top) (low_is w 5 1 4 0 class.low) there
direct_tells w bits half k n below (of_other no_branch no_test b h) (inr (inr none)) inside = absurd none

-- a quiet word, or a pair into two registers
pub follower : (p : Profile) (w k n : ℕ) (near : Reach) → w < 2 ^ 32 → (near ≢ Quiet → IsFarFromEnds k n) → (near ≡ Ordered → p ≡ Two) → IsQuietHere near w ⊎ (AnyHas pair_classes w × (bits_at w 0 5 ≢ bits_at w 10 5))
    → IsToldWord p w k n Nothing
follower p w k n near below far of (inl quiet) = told_here p w k n near below far of quiet
follower p w k n near below far of (inr pair) = quiet_told p w k n Nothing (pair_tells w k n below pair.0 pair.1)
