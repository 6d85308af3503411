use Rattle.std.proofs.Common.{rules, arith, ◌≡◌, ◌<◌, suc, ◌++◌, ◌∷◌, [], length, get_or, refl, ap, ◌∙◌, subst, sym, length-append, Some}
use Rattle.std.proofs.lemmas.Option.{slice_get_read}
use Rattle.std.proofs.Math.ListN.{set}
use Rattle.std.specs.Prelude.{slice_get}
use Rattle.lfi_sequence.proofs.Rows.{Dealt, deal_one}
use Rattle.lfi_sequence.proofs.lanes.deal.Goals as goal

pub loop-pass-preserved : goal.loop-pass-preserved
loop-pass-preserved c = (
  search rules,
  search rules,
  λ lane are.
      let old = c.args.rows.now.items in
      let rows = c.loop-pass.rows.items in
      let left = c.pop.new.self.items in
      let pass = c.in-Some.pass in
      let popped : c.loop-pass.passes.items ≡ left ++ pass ∷ [] = search rules in
      let long : length (left ++ pass ∷ []) ≡ suc (length left) = omega (arith, length-append left (pass ∷ [])) in
      let was = subst (λ l. Dealt lane old (length l) l rows) popped (c.loop-pass.invariant.2 lane are) in
      let dealt = subst (λ k. Dealt lane old k (left ++ pass ∷ []) rows) long was in
      let place : c.len.result ≡ length left = search rules in
      let within : length left < length rows = (let same = c.loop-pass.invariant.0 in let fewer = c.loop-pass.invariant.1 in let here = ap length popped ∙ long in omega (arith, same, fewer, here)) in
      let value : c.index_mut.result.now ≡ get_or rows (length left) c.index_mut.result.now = subst (λ k. c.index_mut.result.now ≡ get_or rows k c.index_mut.result.now) place c.index_mut.ensures.value in
      let at : slice_get rows (length left) ≡ Some c.index_mut.result.now = slice_get_read rows (length rows) (length left) c.index_mut.result.now refl within value in
      subst (λ k. Dealt lane old (length left) left (set rows k c.push.new.self)) (sym place)
      (deal_one lane old rows left pass c.index_mut.result.now c.push.new.self dealt at (search rules) within),
)
