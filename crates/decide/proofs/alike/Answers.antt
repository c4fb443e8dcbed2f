use Rattle.decide.proofs.alike.Goals as goal

pub returns : goal.returns
returns c = rw c.listed_of.ensures
