-- What is spelt is octets, where the contents of its strings are.
use mathlib.Core.Path.{◌≡◌, refl}
use mathlib.Core.Bool.{Bool, true, false, cond, ◌&&◌}
use mathlib.Core.List.{List, [], ◌∷◌, ◌++◌, map}
use Prim.Native.Nat.{ℕ, zero, suc, ◌+◌, ◌/◌, ◌%◌, ◌<◌, ◌≤◌}
use native.Mathlib.Omega.{arith}
use lib.ListN.{length, take, drop}
use lib.Dec.{ltb, leb, eqb, lit≤}
use lib.IntN.{ℤ, pos, negsuc}
use lib.Signed.{mag}
use borrow.Author.Tests.{ltb-true, leb-true}
use Rattle.reading.proofs.Sound.{Octets}
use Rattle.integer.specs.Packed.{groups_by, groups, spell_with, sign_bit, spell_int}
use Rattle.format.specs.declared.Row.{Row}
use Rattle.format.specs.Types.{Datum, packed, fixed, code, amount, implied, kind_of}
use Rattle.format.specs.Data.{unsigned, big_spelt, spell_char, spell_number, spell_element}
use Rattle.format.specs.Values.{Head, rule_of}
use Rattle.format.specs.Spelling.{fore, indexed, index, spell_children}
use Rattle.format.specs.Rows.{has_contents}
use Rattle.format.specs.Writing.{Seen, seen, build, spell_rows}
use Rattle.reading.proofs.Tests.{and_right}
use Rattle.laws.proofs.Characters.{octets-cons, octets-front}

-- every element is an octet, as a record: so the list is found from it
record Small (l : List ℕ) : Type 0 where
  are : Octets l

none-small : Small []
none-small = record { are = λ i. omega arith }

one-small : {b : ℕ} {l : List ℕ} → b < 256 → Small l → Small (b ∷ l)
one-small {b} {l} h f = record { are = octets-cons b l h f.are }

join-small : {l m : List ℕ} → Small l → Small m → Small (l ++ m)
join-small {l = []} f g = g
join-small {l = b ∷ l} f g = one-small (f.are 0) (join-small {l = l} (record { are = λ j. f.are (suc j) }) g)

drop-small : (n : ℕ) {l : List ℕ} → Small l → Small (drop n l)
drop-small zero f = f
drop-small (suc n) {l = []} f = f
drop-small (suc n) {l = b ∷ l} f = drop-small n (record { are = λ i. f.are (suc i) })

take-small : (n : ℕ) {l : List ℕ} → Small l → Small (take n l)
take-small n {l} f = record { are = octets-front n l f.are }

cond_small : (t : Bool) (l : List ℕ) → Small l → Small (cond t l [])
cond_small true l f = f
cond_small false l f = none-small

-- ---- integers

groups_by-small : (k n : ℕ) → Small (groups_by k n)
unfolding groups_by
groups_by-small zero n = none-small
groups_by-small (suc k) n = by (ltb n 128) refl (groups_by-small k (n / 128))
  where
    by : (t : Bool) → ltb n 128 ≡ t → Small (groups_by k (n / 128)) → Small (elim t [ true ↦ n ∷ [] | false ↦ (n % 128 + 128) ∷ groups_by k (n / 128) ])
    by true e o = one-small (omega (arith, ltb-true n 128 e)) none-small
    by false e o = one-small (omega arith) o

sign_small : (z : ℤ) → sign_bit z ≤ 64
sign_small (pos n) = lit≤ tt
sign_small (negsuc n) = lit≤ tt

int_small : (z : ℤ) → Small (spell_int z)
unfolding spell_int spell_with groups
int_small z = by (sign_bit z) (mag z) (sign_small z) (ltb (mag z) 64) refl
  where
    by : (f n : ℕ) → f ≤ 64 → (t : Bool) → ltb n 64 ≡ t → Small (elim t [ true ↦ (f + n) ∷ [] | false ↦ (f + 128 + n % 64) ∷ groups (n / 64) ])
    by f n h true e = one-small (omega (arith, ltb-true n 64 e)) none-small
    by f n h false e = one-small (omega arith) (groups_by-small (suc (n / 64)) (n / 64))

-- ---- numbers and heads

big-small : (k n : ℕ) → Small (big_spelt k n)
unfolding big_spelt
big-small zero n = none-small
big-small (suc k) n = one-small (omega arith) (big-small k n)

char-small : (c : ℕ) → Small (spell_char c)
unfolding spell_char
char-small c = by (leb 1 c && leb c 0x7F) refl (leb c 0x7FF)
  where
    by : (t : Bool) → leb 1 c && leb c 0x7F ≡ t → (u : Bool) → Small (cond t (c ∷ []) (cond u ((0xC0 + c / 64 % 32) ∷ (0x80 + c % 64) ∷ []) ((0xE0 + c / 4096 % 16) ∷ (0x80 + c / 64 % 64) ∷ (0x80 + c % 64) ∷ [])))
    by true e u = one-small (omega (arith, leb-true c 0x7F (and_right (leb 1 c) (leb c 0x7F) e))) none-small
    by false e true = one-small (omega arith) (one-small (omega arith) none-small)
    by false e false = one-small (omega arith) (one-small (omega arith) (one-small (omega arith) none-small))

number_small : (d : Datum) (z : ℤ) → Small (spell_number d z)
unfolding spell_number
number_small (packed w) z = int_small z
number_small (fixed n) z = big-small n (unsigned z)
number_small code z = char-small (mag z)
number_small amount z = int_small z
number_small (implied y) z = none-small

element-small : (b : Bool) (e : ℤ) → Small (spell_element b e)
unfolding spell_element
element-small true e = int_small e
element-small false e = none-small

fore-small : (h : Head) → Small h.text → Small (fore h)
unfolding fore
fore-small h o = join-small (cond_small (eqb h.own 1) (spell_int h.ty) (int_small h.ty))
    (join-small (element-small (kind_of h.ty).first h.first) (join-small (element-small (kind_of h.ty).second h.second) (join-small (number_small (kind_of h.ty).datum h.number) o)))

-- ---- rows

-- the contents of all strings are octets
Texts : List Seen → Type 0
Texts [] = Unit {0}
Texts (r ∷ rs) = Small r.what.text × Texts rs

texts-take : (n : ℕ) (rs : List Seen) → Texts rs → Texts (take n rs)
unfolding Texts
texts-take zero rs t = tt
texts-take (suc n) [] t = tt
texts-take (suc n) (r ∷ rs) t = (t.0, texts-take n rs t.1)

texts-drop : (n : ℕ) (rs : List Seen) → Texts rs → Texts (drop n rs)
unfolding Texts
texts-drop zero rs t = t
texts-drop (suc n) [] t = tt
texts-drop (suc n) (r ∷ rs) t = texts-drop n rs t.1

index-small : (x : Bool) (z : ℤ) → Small (index x z)
index-small x z = cond_small x (spell_int z) (int_small z)

build-small : (k : ℕ) (x : Bool) (rs : List Seen) → Texts rs → Small (spell_children x (build k rs))
unfolding build spell_children Texts
build-small zero x rs t = index-small x (negsuc 0)
build-small (suc k) x [] t = index-small x (negsuc 0)
build-small (suc k) x (r ∷ rs) t =
    join-small (index-small x (pos r.label)) (join-small (fore-small r.what t.0)
    (join-small (build-small k (indexed (rule_of r.what)) (take r.below rs) (texts-take r.below rs t.1)) (build-small k x (drop r.below rs) (texts-drop r.below rs t.1))))

seen-texts : (c : List ℕ) (rs : List Row) → Small c → Texts (map (seen c) rs)
unfolding Texts seen
seen-texts c [] o = tt
seen-texts c (r ∷ rs) o = (cond_small (has_contents (kind_of r.ty).text) _ (take-small (mag r.number) (drop-small r.place o)), seen-texts c rs o)

pub rows-octets : (c : List ℕ) (rs : List Row) → Octets c → Octets (spell_rows c rs)
unfolding spell_rows
rows-octets c rs o = (build-small (length rs) false (map (seen c) rs) (seen-texts c rs (record { are = o }))).are
