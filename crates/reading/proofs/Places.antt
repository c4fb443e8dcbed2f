-- Readings at a place of the octets, as code finds them.
use mathlib.Core.Path.{◌≡◌}
use mathlib.Core.List.{List}
use Prim.Native.Nat.{ℕ, ◌+◌, ◌<◌, ◌≤◌}
use native.Mathlib.Numerals.{add-one}
use lib.ListN.{length, get_or, drop_of_length-le}
use lib.Seq.{drop-cons}
use Rattle.reading.specs.Reading.{Env, got, stop, refusal, octet, stand}

pub octet-at : (o : List ℕ) (at : ℕ) (e : Env) → at < length o → octet (stand o at e) ≡ got (get_or o at 0) (stand o (at + 1) e)
unfolding octet stand
octet-at o at e h = rw (drop-cons o at 0 h, add-one)

pub octet-end : (o : List ℕ) (at : ℕ) (e : Env) → length o ≤ at → octet (stand o at e) ≡ stop (refusal 1 at)
unfolding octet stand
octet-end o at e h = rw (drop_of_length-le o h)
