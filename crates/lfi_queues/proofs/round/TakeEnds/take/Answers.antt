-- A round begins at the part after that of the last item, or where that was the last part at part 0.
use Rattle.std.proofs.Common.{◌≡◌, [], ◌∷◌, ◌++◌, ◌+◌, min, length, take, drop, ap, sym, ◌∙◌, subst}
use Rattle.lfi_queues.specs.inner.Rounds.{AsksRound}
use Rattle.lfi_queues.proofs.Rounds.{round_from, written}
use Rattle.lfi_queues.proofs.round.TakeEnds.take.Goals as goal

pub returns-in-Got : goal.returns-in-Got
returns-in-Got g c =
    let old = c.args.self.now in
    let x = c.in-Got.item in
    let p = c.in-Got.number in
    let new = c.try_round-round.new.ends in
    let view = c.self.view_is in
    let ends = c.as_mut_slice.ensures.value ∙ ap (λ t. t.ends) view in
    let is : AsksRound c.min-first.result p x old.ends new = subst (λ l. AsksRound c.min-first.result p x l new) ends c.in-Got.ensures in
    let count : c.len.result ≡ length old.ends = c.len.ensures ∙ c.self.inside.ends.ok.0 ∙ ap (λ t. length t.ends) view in
    let first : c.min-first.result ≡ min old.next (length old.ends) = c.min-first.ensures ∙ (λ i. min (view i).next (count i)) in
    let e = written c.self.inside.ends.len new c.self.inside.ends.items (is.long ∙ ap (λ t. length t.ends) (sym view) ∙ sym c.self.inside.ends.ok.0) in (
      p,
      subst (λ l. AsksRound old.next p x old.ends l) (sym e) (round_from old.next c.min-first.result p x old.ends new first is),
      (λ i. record {
        home = (view i).home;
        number = (view i).number;
        calls = (c.of.ensures ∙ ap (λ t. t.calls + 1) view) i;
        items = (c.of-in-Got.ensures ∙ ap (λ t. t.items ++ x ∷ []) view) i;
        next = p + 1;
        ends = take c.self.inside.ends.len (new ++ drop (length new) c.self.inside.ends.items);
      }),
    )
