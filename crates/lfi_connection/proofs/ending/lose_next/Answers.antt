use Rattle.lfi_connection.proofs.ending.lose_next.Goals as goal

pub returns-clause-loses : goal.returns-clause-loses
returns-clause-loses g c = (
  record { was = c.in-Some.ensures.going; possible = c.in-Some.ensures.possible; least = c.in-Some.ensures.least; at = c.set.ensures.at },
  c.reason_of.ensures,
)
