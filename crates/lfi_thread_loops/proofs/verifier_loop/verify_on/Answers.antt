use Rattle.lfi_thread_loops.proofs.verifier_loop.verify_on.Goals as goal

pub loop-init : goal.loop-init
loop-init g c = record { can_next = tt; is_finite = tt; is = c.requires.is }

pub loop-preserved : goal.loop-preserved
loop-preserved g c = record { can_next = tt; is_finite = tt; is = c.verify_once.ensures.is }

pub returns-in-Some-verify_once-clause-is : goal.returns-in-Some-verify_once-clause-is
returns-in-Some-verify_once-clause-is g c = c.verify_once.ensures.is
