use mathlib.Core.List.{[], ◌∷◌}
use lib.IntN.{pos}
use Rattle.replies.proofs.Texts.{ok-short, word-room, word-put, number-fits, number-put, numbers-put, listed}
use Rattle.replies.proofs.put_ok.Goals as goal

pub put_text-next-requires : goal.put_text-next-requires
put_text-next-requires c = word-room 0x6F 0x6B (pos c.args.n ∷ []) (ok-short _ c.ranges.n.fits) c.requires

pub put_count-requires : goal.put_count-requires
put_count-requires c = number-fits _ _ (word-put 0x6F 0x6B (pos c.args.n ∷ []) (ok-short _ c.ranges.n.fits) c.requires c.put_text-next.ensures)

pub returns : goal.returns
returns c = listed (ok-short _ c.ranges.n.fits) (numbers-put (number-put _ _ (word-put 0x6F 0x6B (pos c.args.n ∷ []) (ok-short _ c.ranges.n.fits) c.requires c.put_text-next.ensures) c.put_count.ensures))
