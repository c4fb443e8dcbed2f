-- What holds of every entry of the table of types holds of every type.
use mathlib.Core.Path.{◌≡◌, refl, sym}
use mathlib.Core.Bool.{Bool, true, false, cond, not, ◌&&◌, ◌||◌}
use mathlib.Core.List.{List, [], ◌∷◌}
use Prim.Native.Nat.{ℕ, zero, suc, ◌*◌, ◌^◌, ◌<◌}
use native.Mathlib.Omega.{arith}
use lib.ListN.{get_or, take}
use lib.Seq.{get_or-take}
use lib.Dec.{ltb, leb}
use lib.IntN.{ℤ, pos, negsuc, ◌-ℤ◌}
use lib.Signed.{lt_z, non_neg}
use borrow.Author.Tests.{ltb-true, lt-ltb}
use Rattle.format.specs.Types.{Datum, packed, fixed, code, amount, implied, Holds, nothing, values, couples, indexes, properties, one, parts, Names, silent, gives, refers, integral, Kind, scalar, container, uncarried, table, kind_of}
use Rattle.format.specs.Grammar.{Number, Int32}
use Rattle.reading.proofs.Tests.{and_left, and_right}
use Rattle.laws.proofs.Tests.{clash}

-- the test passes at every entry
abbrev pub All : {A : Type 0} → (A → Bool) → List A → Bool
All p [] = true
All p (x ∷ l) = p x && All p l

all-at : {A : Type 0} (p : A → Bool) (l : List A) (i : ℕ) (d : A) → All p l ≡ true → p d ≡ true → p (get_or l i d) ≡ true
all-at p [] i d a b = b
all-at p (x ∷ l) zero d a b = and_left (p x) (All p l) a
all-at p (x ∷ l) (suc i) d a b = all-at p l i d (and_right (p x) (All p l) a) b

-- a test that passes at every entry, at a type that is not carried, at a user type and at a compact integer passes at every type
pub kind-all : (p : Kind → Bool) → All p table ≡ true → p uncarried ≡ true → p (container false false properties silent) ≡ true → ((z : ℤ) → p (scalar (implied z) integral) ≡ true) → (t : ℤ) → p (kind_of t) ≡ true
unfolding kind_of
kind-all p a b c d (pos n) = c
kind-all p a b c d (negsuc n) = by (ltb n 40) (ltb n 64)
  where
    by : (x y : Bool) → p (cond x (get_or table n uncarried) (cond y (scalar (implied (negsuc 41 -ℤ negsuc n)) integral) uncarried)) ≡ true
    by true y = all-at p table n uncarried a b
    by false true = d _
    by false false = b

-- the octets of an integer's width are enough, and no number of a fixed count of octets is over 64 bits
abbrev pub workable : Datum → Bool
workable (packed w) = leb w.bound (64 * 128 ^ w.more)
workable (fixed n) = leb n 8
workable code = true
workable amount = true
workable (implied z) = true

pub all-workable : (t : ℤ) → workable (kind_of t).datum ≡ true
all-workable = kind-all (λ k. workable k.datum) refl refl refl (λ z. refl)

-- the number of a sparse array is a size
abbrev is_amount : Datum → Bool
is_amount (packed w) = false
is_amount (fixed n) = false
is_amount code = false
is_amount amount = true
is_amount (implied z) = false

abbrev pub sized : Holds → Datum → Bool
sized nothing d = true
sized values d = true
sized couples d = true
sized indexes d = is_amount d
sized properties d = true
sized one d = true
sized (parts p) d = true

pub all-sized : (t : ℤ) → sized (kind_of t).holds (kind_of t).datum ≡ true
all-sized = kind-all (λ k. sized k.holds k.datum) refl refl refl (λ z. refl)

pub amount-fits : (d : Datum) (z : ℤ) → is_amount d ≡ true → Number d z → Int32 z
amount-fits (packed w) z e g = clash (sym e)
amount-fits (fixed n) z e g = clash (sym e)
amount-fits code z e g = clash (sym e)
amount-fits amount z e g = g.0
amount-fits (implied y) z e g = clash (sym e)

-- the number of an identity or reference is 0 or more
abbrev pub numbered : Names → Datum → Bool
numbered silent d = true
numbered gives d = is_amount d
numbered refers d = is_amount d

pub all-numbered : (t : ℤ) → numbered (kind_of t).names (kind_of t).datum ≡ true
all-numbered = kind-all (λ k. numbered k.names k.datum) refl refl refl (λ z. refl)

pub amount-whole : (d : Datum) (z : ℤ) → is_amount d ≡ true → Number d z → non_neg z ≡ true
amount-whole (packed w) z e g = clash (sym e)
amount-whole (fixed n) z e g = clash (sym e)
amount-whole code z e g = clash (sym e)
amount-whole amount z e g = g.1
amount-whole (implied y) z e g = clash (sym e)

-- ---- bare values

-- a test that passes at the first 30 entries, at a type that is not carried and at a user type passes at every type above -31
kind-above : (p : Kind → Bool) → All p (take 30 table) ≡ true → p uncarried ≡ true → p (container false false properties silent) ≡ true → (t : ℤ) → lt_z (negsuc 30) t ≡ true → p (kind_of t) ≡ true
unfolding kind_of
kind-above p a b c (pos n) h = c
kind-above p a b c (negsuc n) h =
    let small : n < 30 = ltb-true n 30 h in
    rw (lt-ltb n 40 (omega arith), ← get_or-take 30 table n uncarried small) (all-at p (take 30 table) n uncarried a b)

abbrev pub is_parts : Holds → Bool
is_parts nothing = false
is_parts values = false
is_parts couples = false
is_parts indexes = false
is_parts properties = false
is_parts one = false
is_parts (parts p) = true

-- the number takes octets, or there are the integers of a date or time
abbrev pub filled : Datum → Holds → Bool
filled (packed w) y = true
filled (fixed n) y = ltb 0 n
filled code y = true
filled amount y = true
filled (implied z) y = is_parts y

implies : (a b : Bool) → not a || b ≡ true → a ≡ true → b ≡ true
implies true b h e = h
implies false b h e = clash (sym e)

pub above-filled : (t : ℤ) → (kind_of t).carried ≡ true → lt_z (negsuc 30) t ≡ true → filled (kind_of t).datum (kind_of t).holds ≡ true
above-filled t e h = implies (kind_of t).carried _ (kind-above (λ k. not k.carried || filled k.datum k.holds) refl refl refl t h) e
