use mathlib.Core.List.{[], ◌∷◌}
use lib.IntN.{pos}
use Rattle.replies.proofs.Texts.{no_short, word-room, word-put, number-fits, number-put, numbers-put, listed}
use Rattle.replies.proofs.put_no_at.Goals as goal

pub put_text-next-requires : goal.put_text-next-requires
put_text-next-requires c = word-room 0x6E 0x6F (pos c.args.number ∷ pos c.args.place ∷ pos 1 ∷ []) (no_short _ _ c.ranges.number.fits c.ranges.place.fits) c.requires

pub put_count-past-requires : goal.put_count-past-requires
put_count-past-requires c = (number-fits _ _ (word-put 0x6E 0x6F (pos c.args.number ∷ pos c.args.place ∷ pos 1 ∷ []) (no_short _ _ c.ranges.number.fits c.ranges.place.fits) c.requires c.put_text-next.ensures))

pub put_count-input-requires : goal.put_count-input-requires
put_count-input-requires c = number-fits _ _ (number-put _ _ (word-put 0x6E 0x6F (pos c.args.number ∷ pos c.args.place ∷ pos 1 ∷ []) (no_short _ _ c.ranges.number.fits c.ranges.place.fits) c.requires c.put_text-next.ensures) c.put_count-past.ensures)

pub put_count-requires : goal.put_count-requires
put_count-requires c = number-fits _ _ (number-put _ _ (number-put _ _ (word-put 0x6E 0x6F (pos c.args.number ∷ pos c.args.place ∷ pos 1 ∷ []) (no_short _ _ c.ranges.number.fits c.ranges.place.fits) c.requires c.put_text-next.ensures) c.put_count-past.ensures) c.put_count-input.ensures)

pub returns : goal.returns
returns c = listed (no_short _ _ c.ranges.number.fits c.ranges.place.fits) (numbers-put (number-put _ _ (number-put _ _ (number-put _ _ (word-put 0x6E 0x6F (pos c.args.number ∷ pos c.args.place ∷ pos 1 ∷ []) (no_short _ _ c.ranges.number.fits c.ranges.place.fits) c.requires c.put_text-next.ensures) c.put_count-past.ensures) c.put_count-input.ensures) c.put_count.ensures))
