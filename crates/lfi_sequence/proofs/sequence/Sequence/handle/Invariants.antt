use Rattle.std.proofs.Common.{◌≡◌, ◌-◌, ◌++◌, ◌∷◌, [], List}
use Rattle.lfi_model.specs.Item.{ItemView}
use Rattle.lfi_sequence.specs.Come.{Coming}
use Rattle.lfi_sequence.specs.Sequenced.{Holds, Sequenced}
use Rattle.lfi_sequence.proofs.sequence.Sequence.handle.Given as goal

abbrev pub invariant-loop : goal.invariant-loop
invariant-loop l = record {
  goes : (taken : List ItemView) → Sequenced l.fn.self taken → (come : List ItemView) × Coming (taken ++ l.fn.item ∷ []) come × Holds l.self (taken ++ l.fn.item ∷ []) come;
  same : l.self.seat ≡ l.fn.self.seat;
}

abbrev pub decreases-loop : goal.decreases-loop
decreases-loop l = 4098 - l.self.count
