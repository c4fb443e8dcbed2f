use mathlib.Core.List.{[], ◌∷◌}
use lib.IntN.{pos}
use Rattle.text.proofs.Signs.{wide}
use Rattle.replies.proofs.Texts.{framed-short, word-room, word-put, number-fits, number-put, numbers-put, listed}
use Rattle.replies.proofs.put_framed.Goals as goal

pub put_text-next-requires : goal.put_text-next-requires
put_text-next-requires c = word-room 0x6F 0x6B (c.args.conversation ∷ pos c.args.rows ∷ []) (framed-short _ _ c.ranges.conversation.sfits c.ranges.rows.fits) c.requires

pub put_spaced-mid-requires : goal.put_spaced-mid-requires
put_spaced-mid-requires c = rw (wide _ c.ranges.conversation) (number-fits _ _ (word-put 0x6F 0x6B (c.args.conversation ∷ pos c.args.rows ∷ []) (framed-short _ _ c.ranges.conversation.sfits c.ranges.rows.fits) c.requires c.put_text-next.ensures))

pub put_count-requires : goal.put_count-requires
put_count-requires c = number-fits _ _ (number-put _ _ (word-put 0x6F 0x6B (c.args.conversation ∷ pos c.args.rows ∷ []) (framed-short _ _ c.ranges.conversation.sfits c.ranges.rows.fits) c.requires c.put_text-next.ensures) (rw (wide _ c.ranges.conversation) at c.put_spaced-mid.ensures))

pub returns : goal.returns
returns c = listed (framed-short _ _ c.ranges.conversation.sfits c.ranges.rows.fits) (numbers-put (number-put _ _ (number-put _ _ (word-put 0x6F 0x6B (c.args.conversation ∷ pos c.args.rows ∷ []) (framed-short _ _ c.ranges.conversation.sfits c.ranges.rows.fits) c.requires c.put_text-next.ensures) (rw (wide _ c.ranges.conversation) at c.put_spaced-mid.ensures)) c.put_count.ensures))
