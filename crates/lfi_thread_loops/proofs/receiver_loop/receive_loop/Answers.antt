use Rattle.std.proofs.Common.{rules, [], sym, subst}
use Rattle.std.proofs.KnownBytes.{Consumes-nil}
use Rattle.lfi_receive.specs.Inputs.{left_of}
use Rattle.lfi_receive.specs.Pulls.{EndsAt}
use Rattle.lfi_receive.specs.Receivers.{claimed_by}
use Rattle.lfi_thread_loops.proofs.Hears.{has_heard}
use Rattle.lfi_thread_loops.proofs.receiver_loop.receive_loop.Goals as goal

pub loop-init : goal.loop-init
loop-init g c =
    let whole = left_of g.R.Read.remaining c.args.input in
    let fresh = c.requires.fresh in
    record {
      can_next = tt;
      is_finite = tt;
      is = c.requires.is;
      hearing = record {
        heard = [];
        stands = fresh.stands;
        consumes = Consumes-nil whole;
        ends = subst (λ o. EndsAt (claimed_by c.args.receiver) o whole []) (sym fresh.running) tt;
      };
    }

pub loop-preserved : goal.loop-preserved
loop-preserved g c = record {
  can_next = tt;
  is_finite = tt;
  is = c.receive_once.ensures.is;
  hearing = c.receive_once.ensures.hearing (left_of g.R.Read.remaining c.args.input) c.loop.invariant.hearing;
}

pub returns-in-Some-Finished : goal.returns-in-Some-Finished
returns-in-Some-Finished g c =
    let remaining = g.R.Read.remaining in
    let whole = left_of remaining c.args.input in
    let did = c.receive_once in
    (did.ensures.is, has_heard remaining whole did.new.receiver did.new.input (did.ensures.hearing whole c.loop.invariant.hearing) (did.ensures.finished (search rules)))
