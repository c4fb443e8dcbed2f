use mathlib.Core.List.{[], ◌∷◌}
use Rattle.integer.proofs.Signs.{held}
use Rattle.replies.proofs.Texts.{value-short, word-room, word-put, number-fits, number-put, numbers-put, listed}
use Rattle.replies.proofs.put_value.Goals as goal

pub put_text-next-requires : goal.put_text-next-requires
put_text-next-requires c = word-room 0x6F 0x6B (c.args.v ∷ []) (value-short _ c.ranges.v.sfits) c.requires

pub put_spaced-requires : goal.put_spaced-requires
put_spaced-requires c = rw (held c.ranges.v) (number-fits _ _ (word-put 0x6F 0x6B (c.args.v ∷ []) (value-short _ c.ranges.v.sfits) c.requires c.put_text-next.ensures))

pub returns : goal.returns
returns c = listed (value-short _ c.ranges.v.sfits) (numbers-put (number-put _ _ (word-put 0x6F 0x6B (c.args.v ∷ []) (value-short _ c.ranges.v.sfits) c.requires c.put_text-next.ensures) (rw (held c.ranges.v) at c.put_spaced.ensures)))
