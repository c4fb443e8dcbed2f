-- Every value takes octets, and twice the rows of a message are at most three times its octets.
use mathlib.Core.Path.{◌≡◌, refl, sym, ap, ◌∙◌, subst}
use mathlib.Core.Bool.{Bool, true, false}
use mathlib.Core.List.{List, [], ◌∷◌, ◌++◌}
use Prim.Native.Nat.{ℕ, suc, ◌*◌, ◌<◌, ◌≤◌}
use native.Mathlib.Omega.{arith}
use lib.ListN.{length, length-append}
use lib.IntN.{ℤ, negsuc}
use lib.Signed.{lt_z}
use borrow.Author.Tests.{ltb-true}
use Rattle.integer.specs.Packed.{spell_int}
use Rattle.integer.proofs.Spelling.{Spelt, one, more, spelt}
use Rattle.format.specs.Types.{Datum, packed, fixed, code, amount, implied, Parts, date, time, dateTime, Holds, nothing, values, couples, indexes, properties, parts, Kind, kind_of}
use Rattle.format.specs.Data.{usual, unsigned, spell_number}
use Rattle.format.specs.Values.{Head, Children, empty, child, child_of, Value, value, Form, whole, bare, formed, Rule, counted, rising, moments, rule_by, rule_of, pieces}
use Rattle.format.specs.Spelling.{fore, indexed, spell_children, spell}
use Rattle.format.specs.Rows.{count, rows}
use Rattle.format.specs.Grammar.{Number, Element, Good, Formed, Allows, next, Moment, Held, Fits, Shaped, Valid}
use Rattle.laws.proofs.Tests.{clash}
use Rattle.laws.proofs.Types.{is_parts, filled, above-filled}
use Rattle.laws.proofs.Characters.{char-spelt}
use Rattle.laws.proofs.Leaves.{big_spelt-long}
use Rattle.laws.proofs.Moments.{spell_ints, parts-of, pieces-spelt}
use Rattle.laws.proofs.Sound.{owned}
use Rattle.format.proofs.Counts.{rows-length}

-- ---- values take octets

pub int-some : (z : ℤ) → 0 < length (spell_int z)
int-some z = by (spelt z)
  where
    by : Spelt z → 0 < length (spell_int z)
    by (one b e l m s) = omega (arith, ap length e)
    by (more b m e l k n s) = omega (arith, ap length e)

-- a form in which every value takes octets: with its identifier, or bare of a carried type above -31
abbrev pub TakesOctets : Form → Type 0
TakesOctets (whole once) = Unit {0}
TakesOctets (bare t) = ((kind_of t).carried ≡ true) × (lt_z (negsuc 30) t ≡ true)

abbrev pub TakingOctets : Rule → Type 0
TakingOctets (counted paired f g n i) = TakesOctets f × TakesOctets g
TakingOctets (rising f top low) = TakesOctets f
TakingOctets (moments d) = Unit {0}

formed-taking : (b : Bool) (e : ℤ) → Element b e → TakesOctets (formed b e)
formed-taking true e g = (g.1, g.2)
formed-taking false e g = tt

-- the values inside stand in such forms
pub rule-taking : (h : Head) → Good (kind_of h.ty) h → TakingOctets (rule_of h)
unfolding rule_of
rule-taking h g = by (kind_of h.ty) (kind_of h.ty).holds g.first_good g.second_good
  where
    by : (k : Kind) (y : Holds) → Element k.first h.first → Element k.second h.second → TakingOctets (rule_by k y h)
    by k nothing e f = (tt, tt)
    by k values e f = (formed-taking k.first h.first e, formed-taking k.first h.first e)
    by k couples e f = (formed-taking k.first h.first e, formed-taking k.second h.second f)
    by k indexes e f = formed-taking k.first h.first e
    by k properties e f = tt
    by k Holds.one e f = (tt, tt)
    by k (parts d) e f = tt

pub next-taking : (r : Rule) (i : ℕ) → TakingOctets r → TakingOctets (next r i)
next-taking (counted paired f g n j) i s = (s.1, s.0)
next-taking (rising f top low) i s = s
next-taking (moments d) i s = s

-- a number takes octets, or stands for a date or time
data Numbered (l : List ℕ) (y : Holds) : Type 0 where
  some : 0 < length l → Numbered l y
  none : is_parts y ≡ true → Numbered l y

number-full : (d : Datum) (y : Holds) (z : ℤ) → filled d y ≡ true → Number d z → Numbered (spell_number d z) y
unfolding spell_number
number-full (packed w) y z h g = some (int-some z)
number-full (fixed k) y z h g = some (rw (big_spelt-long k (unsigned z)) (ltb-true 0 k h))
number-full code y z h g = some (rw g.2 (omega (arith, ap length (char-spelt g.0 g.1).spelt_is)))
number-full amount y z h g = some (int-some z)
number-full (implied x) y z h g = none h

-- the integers of a date or time: three at least, each with octets
ints-some : (l : List ℤ) → length l ≤ length (spell_ints l)
unfolding spell_ints
ints-some [] = omega arith
ints-some (z ∷ l) = simp length-append (omega (arith, int-some z, ints-some l))

pieces-count : (i : ℕ) (l : List ℤ) → count (pieces i l) ≡ length l
unfolding pieces count
pieces-count i [] = refl
pieces-count i (z ∷ l) = omega (arith, pieces-count (suc i) l)

usual-some : (d : Parts) → 3 ≤ usual d
usual-some date = omega arith
usual-some time = omega arith
usual-some dateTime = omega arith

-- octets stand before the values inside, or these are the integers of a date or time
data Full (h : Head) (cs : Children) : Type 0 where
  ahead : 0 < length (fore h) → Full h cs
  dated : 3 ≤ count cs → count cs ≤ length (spell_children (indexed (rule_of h)) cs) → Full h cs

moment-full : (d : Parts) (cs : Children) → Moment d cs → (3 ≤ count cs) × (count cs ≤ length (spell_children false cs))
moment-full d cs m =
    let many : count cs ≡ length (parts-of d m) = ap count m.are_pieces ∙ pieces-count 0 (parts-of d m) in
    let long : length (spell_children false cs) ≡ length (spell_ints (parts-of d m)) = ap length (ap (spell_children false) m.are_pieces ∙ pieces-spelt 0 (parts-of d m)) in
    (omega (arith, usual-some d, m.usual_count, length-append m.usual_parts m.offset_parts), omega (arith, ints-some (parts-of d m)))

parts-full : (h : Head) (cs : Children) → is_parts (kind_of h.ty).holds ≡ true → Held (rule_of h) cs (Fits (rule_of h) cs) → Full h cs
unfolding rule_of
parts-full h cs e q = by (kind_of h.ty).holds e (λ m n. dated m n) q
  where
    by : (y : Holds) → is_parts y ≡ true → (3 ≤ count cs → count cs ≤ length (spell_children (indexed (rule_by (kind_of h.ty) y h)) cs) → Full h cs) → Held (rule_by (kind_of h.ty) y h) cs (Fits (rule_by (kind_of h.ty) y h) cs) → Full h cs
    by nothing e k q = clash (sym e)
    by values e k q = clash (sym e)
    by couples e k q = clash (sym e)
    by indexes e k q = clash (sym e)
    by properties e k q = clash (sym e)
    by Holds.one e k q = clash (sym e)
    by (parts d) e k q = let m = moment-full d cs q in k m.0 m.1

form-full : (f : Form) (v : Value) → TakesOctets f → Formed f v.top → Shaped v → Full v.top v.inside
unfolding fore
form-full (whole once) v s w g = ahead (simp length-append (omega (arith, int-some v.top.ty, ap length (owned v.top w.has_own))))
form-full (bare t) v s w g =
    let h = v.top in
    let k = kind_of h.ty in
    let y : kind_of h.ty ≡ kind_of t = ap kind_of w.1 in
    by (number-full k.datum k.holds h.number (rw y (above-filled t s.0 s.1)) g.good.number_good)
  where
    by : Numbered (spell_number (kind_of v.top.ty).datum v.top.number) (kind_of v.top.ty).holds → Full v.top v.inside
    by (some n) = ahead (simp length-append (omega arith))
    by (none e) = parts-full v.top v.inside e g.held

-- a value takes at least one octet
pub value-some : (f : Form) (v : Value) → TakesOctets f → Formed f v.top → Shaped v → 0 < length (spell v)
unfolding spell
value-some f v s w g = by (form-full f v s w g)
  where
    by : Full v.top v.inside → 0 < length (fore v.top ++ spell_children (indexed (rule_of v.top)) v.inside)
    by (ahead n) = simp length-append (omega arith)
    by (dated m n) = simp length-append (omega arith)

-- and so does its reading
allowed-form : (r : Rule) (j : ℕ) (h : Head) → TakingOctets r → Allows r j h → (f : Form) × TakesOctets f × Formed f h
allowed-form (counted paired f g n i) j h s a = (f, s.0, a.2)
allowed-form (rising f top low) j h s a = (f, s, a.2)
allowed-form (moments d) j h s a = absurd a

unfoldable pub Somes : Children → Type 0
Somes empty = Unit {0}
Somes (child i h cs others) = (0 < length (spell (value h cs))) × Somes cs × Somes others

pieces-some : (i : ℕ) (l : List ℤ) → Somes (pieces i l)
unfolding Somes pieces spell fore spell_number kind_of
pieces-some i [] = tt
pieces-some i (z ∷ l) = (simp length-append (omega (arith, int-some z)), tt, pieces-some (suc i) l)

held-some : (r : Rule) (cs : Children) → Held r cs (Fits r cs) → (Fits r cs → Somes cs) → Somes cs
held-some (counted paired f g n i) cs q k = k q
held-some (rising f top low) cs q k = k q
held-some (moments d) cs q k = subst Somes (sym q.are_pieces) (pieces-some 0 _)

fits-some : (r : Rule) (cs : Children) → TakingOctets r → Fits r cs → Somes cs
unfolding Somes Fits
fits-some r empty s q = tt
fits-some r (child i h cs others) s q =
    let w = allowed-form r i h s q.0 in (
      value-some w.0 (value h cs) w.1 w.2 (record { good = q.1; held = q.2 }),
      held-some (rule_of h) cs q.2 (fits-some (rule_of h) cs (rule-taking h q.1)),
      fits-some (next r i) others (next-taking r i s) q.3,
    )

pub valid-some : (v : Value) → Valid v → Somes (child_of 0 v empty)
unfolding Somes
valid-some v a =
    let g = a.shaped in
    (value-some (whole false) v tt a.outermost g, held-some (rule_of v.top) v.inside g.held (fits-some (rule_of v.top) v.inside (rule-taking v.top g.good)), tt)

-- ---- rows and octets

held-count : (r : Rule) (cs : Children) → Held r cs (Fits r cs) → (Fits r cs → 2 * count cs ≤ 3 * length (spell_children (indexed r) cs)) → 2 * count cs ≤ 3 * length (spell_children (indexed r) cs)
held-count (counted paired f g n i) cs q k = k q
held-count (rising f top low) cs q k = k q
held-count (moments d) cs q k = omega (arith, (moment-full d cs q).1)

-- a value with the values inside it
value-count : (h : Head) (cs : Children) → Full h cs → 2 * count cs ≤ 3 * length (spell_children (indexed (rule_of h)) cs) → 2 * suc (count cs) ≤ 3 * length (spell (value h cs))
unfolding spell
value-count h cs (ahead n) b = simp length-append (omega arith)
value-count h cs (dated m n) b = simp length-append (omega arith)

fits_count : (x : Bool) (r : Rule) (cs : Children) → TakingOctets r → Fits r cs → 2 * count cs ≤ 3 * length (spell_children x cs)
unfolding count spell_children Fits spell
fits_count x r empty s q = omega arith
fits_count x r (child i h cs others) s q =
    let w = allowed-form r i h s q.0 in
    let inside = held-count (rule_of h) cs q.2 (fits_count (indexed (rule_of h)) (rule_of h) cs (rule-taking h q.1)) in
    let own = value-count h cs (form-full w.0 (value h cs) w.1 w.2 (record { good = q.1; held = q.2 })) inside in
    let rest = fits_count x (next r i) others (next-taking r i s) q.3 in
    simp length-append (omega (arith, simp length-append at own))

-- a message of n octets has at most three rows for two octets
pub rows-count : (v : Value) → Valid v → 2 * length (rows v) ≤ 3 * length (spell v)
unfolding rows count
rows-count v a =
    let g = a.shaped in
    let inside = held-count (rule_of v.top) v.inside g.held (fits_count (indexed (rule_of v.top)) (rule_of v.top) v.inside (rule-taking v.top g.good)) in
    let own = value-count v.top v.inside (form-full (whole false) v tt a.outermost g) inside in
    omega (arith, rows-length false 0 (child_of 0 v empty))
