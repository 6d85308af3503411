use Rattle.std.proofs.Common.{rules, ◌≡◌, ◌≤◌, ◌++◌, ◌∷◌, [], None, ap, ◌∙◌, inr, get_or, length, length-append, arith}
use Rattle.lfi_sequence.proofs.Steps.{longer_same}
use Rattle.lfi_sequence.proofs.sequencing.grow.Goals as goal

pub loop-table-preserved : goal.loop-table-preserved
loop-table-preserved c =
    let i = c.loop-table.invariant in
    let items : c.push.new.self.items ≡ c.loop-table.table.items ++ None ∷ [] = search rules in
    let long = ap length items ∙ length-append c.loop-table.table.items (None ∷ []) in
    let short : length c.loop-table.table.items ≤ c.args.place = search rules in
    record {
      most = inr (omega arith);
      same = λ k. ap (λ l. get_or l k None) items ∙ longer_same c.loop-table.table.items k ∙ i.same k;
      room = search rules;
    }
