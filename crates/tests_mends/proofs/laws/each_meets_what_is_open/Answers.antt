use Rattle.tests_mends.proofs.laws.each_meets_what_is_open.Goals as goal

pub returns : goal.returns
returns a profile before after i rest leads = (leads.0.word, leads.0.spells, leads.0.meets, leads.1)
