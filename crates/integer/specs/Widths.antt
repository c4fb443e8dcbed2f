-- The widths that messages have.
use mathlib.Core.Path.{refl}
use lib.Dec.{lit≤}
use Prim.Native.Nat.{◌^◌}
use Rattle.integer.specs.Packed.{Packable}

pub packable16 : Packable (2 ^ 15) 4
packable16 = record { by_64 = refl; most = lit≤ tt; few = lit≤ tt }

pub packable32 : Packable (2 ^ 31) 4
packable32 = record { by_64 = refl; most = lit≤ tt; few = lit≤ tt }

pub packable64 : Packable (2 ^ 63) 9
packable64 = record { by_64 = refl; most = lit≤ tt; few = lit≤ tt }
