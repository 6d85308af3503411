-- Each taker gets its end of the part.
use Rattle.std.proofs.Common.{arith, ◌<◌, ◌≤◌, ◌++◌, ◌∷◌, [], ◌∙◌, Some, length, ap, sym, subst, refl}
use Rattle.std.proofs.lemmas.Option.{slice_get_read}
use Rattle.std.proofs.lemmas.List.{length-set}
use Rattle.lfi_queues.specs.inner.Delivery.{log, next_taker, one_more_taker}
use Rattle.lfi_queues.specs.inner.Parts.{new_end, AreNewTakers}
use Rattle.lfi_queues.proofs.NewParts.{part_begins, next_ready, all_ready}
use Rattle.lfi_queues.proofs.making.new_owner.Goals as goal

pub fifo_as-requires : goal.fifo_as-requires
fifo_as-requires g c = part_begins _

pub loop-number-preserved : goal.loop-number-preserved
loop-number-preserved g c =
    let i = c.loop-number.invariant in
    let e = c.in_ok-end.ensures in
    let takers = c.loop-number.takers.items in
    let n = c.loop-number.number in
    let old = c.index_mut.result.now in
    let seen = c.behind-takers.view_is in
    let inside : n < length takers = (let same = i.5 in let lt = c.loop-number-test.true in let long = c.len-number-end.ensures in let ok = c.args.takers.now.ok.0 in omega (arith, same, lt, long, ok)) in (
      e.knows ∙ ap (λ v. log v.puts v.takes (one_more_taker v.made)) i.0,
      (let less = e.owner.0.3 in let room = i.1 in omega (arith, less, room)),
      e.owner.1 ∙ i.2,
      e.owner.0.1 ∙ i.3,
      ap (λ d. d.0) e.owner.0.0 ∙ i.4,
      length-set takers n _ ∙ i.5,
      λ parts are. next_ready parts _ n takers old _ c.in_ok-end.end (i.6 parts are) (slice_get_read takers (length takers) n old refl inside c.index_mut.ensures.value)
          (e.end ∙ (λ j. new_end (i.4 j) (next_taker (i.0 j).made)))
          (λ j. record (seen j) { ends = (c.in_ok-push.ensures.items ∙ ap (λ t. t.ends ++ Some c.in_ok-end.end ∷ []) seen) j }),
    )

pub returns-clause-takers : goal.returns-clause-takers
returns-clause-takers g c = λ parts are.
    let i = c.loop-number.invariant in
    let done : length c.loop-number.takers.items ≤ c.loop-number.number = (let same = i.5 in let past = c.loop-number-test.false in let long = c.len-number-end.ensures in let ok = c.args.takers.now.ok.0 in omega (arith, same, past, long, ok)) in
    subst (λ p. AreNewTakers (parts ++ p ∷ []) c.loop-number.takers.items) (sym i.4) (all_ready parts _ _ _ done (i.6 parts are))
