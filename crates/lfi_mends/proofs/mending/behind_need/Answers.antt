use Rattle.lfi_mends.proofs.mending.behind_need.Goals as goal

pub behind-requires-clause-stands : goal.behind-requires-clause-stands
behind-requires-clause-stands c = c.in-Some.ensures.stands c.args.profile
