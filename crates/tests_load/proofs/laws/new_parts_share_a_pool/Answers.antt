use Rattle.std.proofs.Common.{◌∙◌, sym}
use Rattle.tests_load.proofs.laws.new_parts_share_a_pool.Goals as goal

pub returns-clause-shared : goal.returns-clause-shared
returns-clause-shared a receivers verifiers stage is c m r s at there = is.receivers_share c r at ∙ sym (is.sequencers_share m s there)

pub returns-clause-judging : goal.returns-clause-judging
returns-clause-judging a receivers verifiers stage is k v at = (is.fresh_verifiers k v at).taken

pub returns-clause-placing : goal.returns-clause-placing
returns-clause-placing a receivers verifiers stage is m s at = is.fresh_sequencers m s at
