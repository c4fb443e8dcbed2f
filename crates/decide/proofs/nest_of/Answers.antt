use mir.Syntax.{w32}
use Rattle.integer.proofs.Signs.{held}
use Rattle.decide.proofs.nest_of.Goals as goal

pub returns-in-List : goal.returns-in-List
returns-in-List c = rw (c.in-List.is, c.alike.ensures, c.form_of-form.ensures, held {w = w32} c.ranges.first)

pub returns-in-Pairs : goal.returns-in-Pairs
returns-in-Pairs c = rw (c.in-Pairs.is, c.form_of-form.ensures, c.listed_of.ensures, c.form_of.ensures, held {w = w32} c.ranges.first, held {w = w32} c.ranges.second)

pub returns-in-Sparse : goal.returns-in-Sparse
returns-in-Sparse c = rw (c.in-Sparse.is, c.alike-in-Sparse.ensures, c.form_of-form.ensures, held {w = w32} c.ranges.first)

pub returns-in-User : goal.returns-in-User
returns-in-User c = rw (c.in-User.is, c.alike-in-User.ensures)
