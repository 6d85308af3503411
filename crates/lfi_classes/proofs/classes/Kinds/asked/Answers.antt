use Rattle.std.proofs.Common.{inl, inr}
use Rattle.lfi_classes.specs.Classes.{of_call, of_guard, of_ordered_guard, of_pair, of_direct, of_ordered}
use Rattle.lfi_classes.proofs.Members.{call_at, guard_at, pair_at, direct_at, ordered_guard_at, ordered_at, either_of, asked_of}
use Rattle.lfi_classes.proofs.classes.Kinds.asked.Goals as goal

pub returns : goal.returns
returns c = λ word some. elim (either_of _ _ _ some) [
  | inr ordered ↦ let asked = asked_of _ _ _ _ c.set_if-ordered.ensures ordered in of_ordered asked.0 (ordered_at word asked.1)
  | inl some ↦ elim (either_of _ _ _ some) [
    | inr direct ↦ let asked = asked_of _ _ _ _ c.set_if-direct.ensures direct in of_direct asked.0 (direct_at word asked.1)
    | inl some ↦ elim (either_of _ _ _ some) [
      | inr pair ↦ let asked = asked_of _ _ _ _ c.set_if-pair.ensures pair in of_pair asked.0 (pair_at word asked.1)
      | inl some ↦ elim (either_of _ _ _ some) [
        | inl call ↦ let asked = asked_of _ _ _ _ c.set_if-call.ensures call in of_call asked.0 (call_at word asked.1)
        | inr guard ↦ let asked = asked_of _ _ _ _ c.set_if-guard.ensures guard in elim (either_of _ _ _ asked.1) [
          | inl plain ↦ of_guard asked.0 (guard_at word plain)
          | inr ordered ↦ let too = asked_of _ _ _ _ c.set_if-ordered_guard.ensures ordered in of_ordered_guard asked.0 too.0 (ordered_guard_at word too.1)
        ]
      ]
    ]
  ]
]
