use Rattle.std.proofs.Common.{◌≡◌, ℕ, ◌+◌, ◌/◌, ◌%◌, ◌^◌, ◌<◌, List, Some, true, sym, subst, ap, ◌∙◌, arith, rules}
use Rattle.std.specs.Prelude.{bit_and, slice_get}
use Rattle.std.proofs.lemmas.Bool.{not-true, eqb-false}
use Rattle.std.proofs.lemmas.Nat.{and_mask}
use Rattle.std.proofs.lemmas.Option.{slice_get-get_or}
use Rattle.a64_word.specs.inner.Bits.{bits_at}
use Rattle.lfi_classes.specs.Classes.{of_call, of_guard, of_ordered_guard, of_pair, of_direct, of_ordered}
use Rattle.lfi_rules.specs.declared.needs.Need.TheVariants.{Nothing, Call, Guard}
use Rattle.lfi_rules.specs.inner.Quiet.{IsToldWord}
use Rattle.lfi_rules.proofs.Broken.{quiet_told, is_two_told}
use Rattle.lfi_rules.proofs.ByKind.{call_opens, guard_opens, ordered_guard_opens, pair_tells, ordered_told}
use Rattle.lfi_rules.proofs.Fine.{fine_quiet, fine_opening}
use Rattle.lfi_rules.proofs.pass.is_told.Goals as goal

pub returns : goal.returns
returns g c = λ h.
    let p = c.args.region.profile in
    let ws : List ℕ = g.W.Words.words c.args.region.words.now in
    let w : ℕ = c.word-word.result in
    let i : ℕ = c.args.i in
    let first : ℕ = c.args.region.first in
    let n : ℕ = c.args.region.n in
    let k : ℕ = first + i in
    let fits : w < 2 ^ 32 = search rules in
    let at : slice_get ws i ≡ Some w = slice_get-get_or ws i 0 c.requires.within ∙ ap Some (sym c.word-word.ensures) in
    let in_two = λ (two : c.has_ordered.result ≡ true). is_two_told p (sym c.has_ordered.ensures ∙ two) in
    elim (c.is_of.ensures w c.classes_of.ensures h) [
      | of_call met has ↦ fine_opening p ws first n i w Call at (quiet_told p w k n Call (call_opens w k n fits has)) (c.met_after-met.ensures.call p met)
      | of_guard met has ↦ fine_opening p ws first n i w Guard at (quiet_told p w k n Guard (guard_opens w k n fits has)) (c.met_after-met.ensures.guard p met)
      | of_ordered_guard met two has ↦
          fine_opening p ws first n i w Guard at (subst (λ x. IsToldWord x w k n Guard) (sym (in_two two)) (ordered_guard_opens w k n fits has)) (c.met_after-met.ensures.guard p met)
      | of_pair apart has ↦
          let low : w % 2 ^ 5 ≡ bits_at w 0 5 = omega arith in
          let first_is : bit_and w 31 ≡ bits_at w 0 5 = and_mask w 5 ∙ low in
          let second_is : bit_and (w / 2 ^ 10) 31 ≡ bits_at w 10 5 = and_mask (w / 2 ^ 10) 5 in
          let differ : bit_and w 31 ≡ bit_and (w / 2 ^ 10) 31 → ⊥ = eqb-false _ _ (not-true _ apart) in
          fine_quiet p ws first n i w at (quiet_told p w k n Nothing (pair_tells w k n fits has (λ e. differ (first_is ∙ e ∙ sym second_is))))
      | of_direct inside has ↦ fine_quiet p ws first n i w at (quiet_told p w k n Nothing (c.stays_inside.ensures inside has))
      | of_ordered two has ↦ fine_quiet p ws first n i w at (subst (λ x. IsToldWord x w k n Nothing) (sym (in_two two)) (ordered_told w k n fits has))
    ]
