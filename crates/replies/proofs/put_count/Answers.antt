use Rattle.text.proofs.Writes.{left-all, left_one, left-place}
use Rattle.replies.proofs.Texts.{spaced-one}
use Rattle.replies.proofs.put_count.Goals as goal

pub bounds-out-at : goal.bounds-out-at
bounds-out-at c = left-place (left-all c.requires) (spaced-one _)

pub put_digits-requires : goal.put_digits-requires
put_digits-requires c = (left_one (left-all c.requires) (spaced-one _)).room

pub returns : goal.returns
returns c = (left_one (left-all c.requires) (spaced-one _)).rest c.put_digits.ensures
