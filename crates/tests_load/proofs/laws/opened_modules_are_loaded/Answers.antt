use Rattle.std.proofs.Common.{sym, subst}
use Rattle.lfi_frame.specs.Streams.{Cut}
use Rattle.lfi_thread_loops.specs.Heard.{IsHeard}
use Rattle.tests_load.proofs.Held.{opened_held}
use Rattle.tests_load.proofs.laws.opened_modules_are_loaded.Goals as goal

pub returns-clause-opened : goal.returns-clause-opened
returns-clause-opened a connections verifiers texts report is c m messages rest within in_range ended cut opens =
    let whole = subst (λ cause. IsHeard (is.claims c) cause (is.heard c) (texts c)) ended (is.hears c within) in
    opened_held connections is.heard is.causes is.claims report is.reports c m messages rest within in_range (subst (λ text. Cut text messages rest) (sym whole) cut) opens

pub returns-clause-starved : goal.returns-clause-starved
returns-clause-starved a connections verifiers texts report is c within starved =
    (subst (λ cause. IsHeard (is.claims c) cause (is.heard c) (texts c)) starved (is.hears c within)).0

pub returns-clause-failed : goal.returns-clause-failed
returns-clause-failed a connections verifiers texts report is c within failed = subst (λ cause. IsHeard (is.claims c) cause (is.heard c) (texts c)) failed (is.hears c within)
