use Rattle.std.proofs.Common.{◌≡◌, ℕ, length, length-append, [], ◌∷◌, sym, ap, subst, ◌∙◌, arith}
use Rattle.std.specs.Prelude.{slice_get}
use Rattle.std.proofs.lemmas.Option.{none-some}
use Rattle.lfi_queues.specs.Passes.{QueueId}
use Rattle.lfi_sequence.specs.Lanes.{AreRows, new_row}
use Rattle.lfi_sequence.proofs.Rows.{HaveCounts, one_more_lane}
use Rattle.lfi_sequence.proofs.lanes.Lanes.new.Goals as goal

pub loop-module-init : goal.loop-module-init
loop-module-init c =
    let none : c.new.result.items ≡ [] = c.new.ensures.items in (
      ap length none,
      λ m lane at. absurd (none-some lane (sym (ap (λ l. slice_get l m) none) ∙ at)),
      subst (λ l. AreRows l c.args.verifiers c.in_ok-empty_rows.field-0.items) (sym none) c.in_ok-empty_rows.ensures,
      c.new-2.ensures.items ∙ ap (λ l. new_row l 0) (sym none),
    )

pub loop-module-preserved : goal.loop-module-preserved
loop-module-preserved c =
    let was = c.loop-module.invariant in
    let old = c.loop-module.made in
    let new = c.add.new.self in
    let n : ℕ = c.args.verifiers in
    let count : length old.puts.items ≡ n = was.2.all in
    let lanes = c.in_ok-add.ensures.lanes in
    let lane : QueueId = lanes.0 in (
      omega (arith, ap length lanes.1, length-append old.lanes.items (lane ∷ []), was.0),
      subst (HaveCounts n) (sym lanes.1) (one_more_lane n old.lanes.items lane (lanes.2 ∙ count, lanes.3) was.1),
      subst (λ k. AreRows new.lanes.items k new.puts.items) count (c.in_ok-add.ensures.puts (subst (λ k. AreRows old.lanes.items k old.puts.items) (sym count) was.2)),
      c.in_ok-add.ensures.takes was.3,
    )

pub returns : goal.returns
returns c =
    let made = c.loop-module.invariant in
    record { lanes = made.0 ∙ (let past = c.loop-module-test.false in let most = c.loop-module.auto._module-end in omega (arith, past, most)); counts = made.1; puts = made.2; takes = made.3 }
