use Rattle.lfi_thread_loops.specs.Seated.{IsVerifierOf}
use Rattle.lfi_thread_loops.proofs.verifier_loop.verify_on.Given as goal

abbrev pub invariant-loop : goal.invariant-loop
invariant-loop g l = record {
  can_next : (goal.iterator-loop g).can_next l.iterator';
  is_finite : (goal.iterator-loop g).is_finite l.iterator';
  is : IsVerifierOf l.part.shared.now l.part.number l.verifier;
}
