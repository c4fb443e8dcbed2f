-- Which numbers the refusals of each answer have: never 0, so a status of 0 says that there is a result.
use mathlib.Core.Path.{◌≡◌, refl, sym, ◌∙◌}
use mathlib.Core.Bool.{Bool, true, false, cond, ◌||◌}
use mathlib.Core.List.{List, [], ◌∷◌}
use Prim.Native.Nat.{ℕ, zero, suc, ◌^◌, ◌≤◌}
use native.Mathlib.Omega.{arith}
use borrow.Author.Tests.{leb-true, le-leb}
use lib.ListN.{length}
use lib.Dec.{ltb, leb, eqb}
use lib.IntN.{ℤ, pos, negsuc}
use lib.Signed.{mag}
use Rattle.reading.specs.Reading.{number_of, reason_of, Env, Out, got, stop, Reader, start}
use Rattle.integer.specs.Packed.{Width, wide32, further, integer}
use Rattle.format.specs.declared.Row.{Row}
use Rattle.format.specs.declared.As.{As}
use Rattle.format.specs.declared.As.TheVariants.{Int16, Int32, Int64, Octet, Char, Boolean}
use Rattle.format.specs.Types.{Datum, packed, fixed, code, amount, implied, Text, none, octets, characters, Parts, Names, silent, gives, refers, Sort, integral, octet, char, boolean, null, other, Kind, kind_of}
use Rattle.format.specs.Data.{within, eq_z, run, character, followers, chars, contents, number, element, integers, moment}
use Rattle.format.specs.Values.{Form, whole, bare, Rule, counted, rising, moments, allow, enter, leave, Inner, each, turns, pairs, children, front, levels, data_of, outermost}
use Rattle.format.specs.Rows.{rows}
use Rattle.format.specs.Message.{Answer, ok, refused, unless, then, answer, most_octets, reading, ends, whole_message, message, within_rows, read_message, first_length, measure, whole_frame, frame, read_frame}
use Rattle.format.specs.Asking.{possible, fitting, narrow, integer_as, truth, asked, only, sort_as, ask}
use Rattle.reading.proofs.Tests.{and_left, and_right}
use Rattle.laws.proofs.Tests.{clash, and_both}
use Rattle.measure.specs.Entries.{rows_needed}
use Rattle.message.specs.Messages as messages
use Rattle.frame.specs.Frames.{needs, told}
use Rattle.sumqadil.specs.Told.{status, up_to, up_to_or16, of_row, Numbered, ask_by}
use Rattle.sumqadil.proofs.Listed.{Listed, l-more, l-bind, l-ret, l-refuse, l-either, l-require, l-octet, l-here, l-ahead, l-names, l-rename}

-- ---- plain data

further-listed : (k p : ℕ) → Listed (up_to 10) (further k p)
unfolding further
further-listed zero p = l-refuse 3 p refl
further-listed (suc k) p = l-bind (l-octet refl) λ b. l-either _ (l-bind (l-require _ 3 p refl) λ _. l-ret _) (l-bind (further-listed k p) λ n. l-ret _)

integer-listed : (w : Width) → Listed (up_to 10) (integer w)
unfolding integer
integer-listed w =
    l-bind l-here λ p. l-bind (l-octet refl) λ b.
    l-bind (l-either _ (l-ret _) (l-bind (further-listed w.more p) λ m. l-ret _)) λ n. l-bind (l-require _ 3 p refl) λ _. l-ret _

run-listed : (n : ℕ) → Listed (up_to 10) (run n)
unfolding run
run-listed zero = l-ret _
run-listed (suc n) = l-bind (l-octet refl) λ b. l-bind (run-listed n) λ l. l-ret _

character-listed : Listed (up_to 10) character
unfolding character
character-listed =
    l-bind l-here λ p. l-bind (l-octet refl) λ a. l-bind (l-require _ 6 p refl) λ _.
    l-bind (run-listed (followers a)) λ l. l-bind (l-require _ 6 p refl) λ _. l-ret _

chars-listed : (k p : ℕ) (l : List ℕ) → Listed (up_to 10) (chars k p l)
unfolding chars
chars-listed k p [] = l-ret _
chars-listed (suc k) p (a ∷ l) = chars-listed k _ l
chars-listed zero p (a ∷ l) = l-bind (l-require _ 6 p refl) λ _. chars-listed (followers a) _ l

contents-listed : (t : Text) (n : ℤ) → Listed (up_to 10) (contents t n)
unfolding contents
contents-listed none n = l-ret _
contents-listed octets n = run-listed _
contents-listed characters n = l-bind l-here λ p. l-bind (run-listed _) λ l. l-bind (chars-listed 0 p l) λ _. l-ret _

number-listed : (d : Datum) → Listed (up_to 10) (number d)
unfolding number
number-listed (packed w) = integer-listed w
number-listed (fixed n) = l-bind (run-listed n) λ l. l-ret _
number-listed code = l-bind character-listed λ c. l-ret _
number-listed amount = l-bind l-here λ p. l-bind (integer-listed wide32) λ z. l-bind (l-require _ 5 p refl) λ _. l-ret _
number-listed (implied z) = l-ret _

element-listed : (t : Bool) → Listed (up_to 10) (element t)
unfolding element
element-listed false = l-ret _
element-listed true = l-bind l-here λ p. l-bind (integer-listed wide32) λ e. l-bind (l-require _ 4 p refl) λ _. l-bind (l-require _ 4 p refl) λ _. l-ret _

integers-listed : (n : ℕ) → Listed (up_to 10) (integers n)
unfolding integers
integers-listed zero = l-ret _
integers-listed (suc n) = l-bind (integer-listed wide32) λ z. l-bind (integers-listed n) λ l. l-ret _

moment-listed : (d : Parts) → Listed (up_to 10) (moment d)
unfolding moment
moment-listed d =
    l-bind l-here λ p. l-bind (integers-listed _) λ l. l-bind (l-either _ (integers-listed 2) (l-ret _)) λ o. l-bind (l-require _ 7 p refl) λ _. l-ret _

-- ---- values

allow-listed : (y : Names) (n p : ℕ) (e : Env) → Listed (up_to 10) (allow y n p e)
unfolding allow
allow-listed silent n p e = l-ret tt
allow-listed gives n p e = l-bind (l-require _ 9 p refl) λ _. l-require _ 9 p refl
allow-listed refers n p e = l-require _ 10 p refl

enter-listed : (y : Names) (n p : ℕ) → Listed (up_to 10) (enter y n p)
unfolding enter
enter-listed y n p = l-bind l-names λ e. l-bind (allow-listed y n p e) λ _. l-rename _

leave-listed : (y : Names) (n : ℕ) → Listed (up_to 10) (leave y n)
unfolding leave
leave-listed y n = l-bind l-names λ e. l-rename _

front-listed : (k : Kind) (t : ℤ) (o : ℕ) → Listed (up_to 10) (front k t o)
unfolding front
front-listed k t o =
    l-bind (element-listed k.first) λ e. l-bind (element-listed k.second) λ f.
    l-bind (number-listed k.datum) λ n. l-bind (contents-listed k.text n) λ l. l-ret _

module _ (inner : Inner) (inner-listed : (t : ℤ) (o p : ℕ) → Listed (up_to 10) (inner t o p)) where
  each-listed : (f : Form) → Listed (up_to 10) (each inner f)
  unfolding each
  each-listed (whole once) =
      l-bind l-here λ p. l-bind (integer-listed wide32) λ t. l-bind (l-require _ 4 p refl) λ _. l-bind (l-require _ 9 p refl) λ _. inner-listed t 1 p
  each-listed (bare t) = l-bind l-here λ p. inner-listed t 0 p

  turns-listed : (paired : Bool) (f g : Form) (n i : ℕ) → Listed (up_to 10) (turns inner paired f g n i)
  unfolding turns
  turns-listed paired f g zero i = l-ret _
  turns-listed paired f g (suc n) i = l-bind (each-listed f) λ v. l-bind (turns-listed paired g f n (suc i)) λ cs. l-ret _

  pairs-listed : (f : Form) (k top low : ℕ) → Listed (up_to 10) (pairs inner f k top low)
  unfolding pairs
  pairs-listed f zero top low = l-refuse 5 0 refl
  pairs-listed f (suc k) top low =
      l-bind l-here λ p. l-bind (integer-listed wide32) λ z. l-either _ (l-ret _)
      (l-bind (l-require _ 5 p refl) λ _. l-bind (l-require _ 5 p refl) λ _. l-bind (l-require _ 5 p refl) λ _.
      l-bind (each-listed f) λ v. l-bind (pairs-listed f k top _) λ cs. l-ret _)

  children-listed : (r : Rule) → Listed (up_to 10) (children inner r)
  unfolding children
  children-listed (counted paired f g n i) = turns-listed paired f g n i
  children-listed (rising f top low) = pairs-listed f (suc top) top low
  children-listed (moments d) = l-bind (moment-listed d) λ l. l-ret _

data-listed : (lv : ℕ) (t : ℤ) (o p : ℕ) → Listed (up_to 10) (data_of lv t o p)
unfolding data_of
data-listed zero t o p = l-refuse 8 p refl
data-listed (suc lv) t o p =
    l-bind l-here λ q. l-bind (front-listed (kind_of t) t o) λ h. l-bind (enter-listed _ _ q) λ _.
    l-bind (children-listed (data_of lv) (data-listed lv) _) λ cs. l-bind (leave-listed _ _) λ _. l-ret _

outermost-listed : Listed (up_to 10) outermost
unfolding outermost
outermost-listed = each-listed (data_of levels) (data-listed levels) (whole false)

-- ---- more numbers

up_to-more : {k m : ℕ} → k ≤ m → (n : ℕ) → up_to k n ≡ true → up_to m n ≡ true
up_to-more {k} {m} le n e =
    and_both (leb 1 n) (leb n m) (and_left (leb 1 n) (leb n k) e) (le-leb n m (omega (arith, le, leb-true n k (and_right (leb 1 n) (leb n k) e))))

or-16 : (k n : ℕ) → up_to k n ≡ true → up_to_or16 k n ≡ true
or-16 k n e = rw e

numbered_more : {A : Type 0} {among more : ℕ → Bool} → ((n : ℕ) → among n ≡ true → more n ≡ true) → (a : Answer A) → Numbered among a → Numbered more a
numbered_more k (ok x) h = tt
numbered_more k (refused r) h = k (number_of r.reason) h

10≤11 : 10 ≤ 11
10≤11 = omega arith

11≤12 : 11 ≤ 12
11≤12 = omega arith

-- ---- the entries

ends-listed : Listed (up_to 11) ends
unfolding ends
ends-listed = l-bind l-here λ p. l-bind l-ahead λ l. l-require _ 11 p refl

whole-listed : Listed (up_to 11) whole_message
unfolding whole_message
whole-listed = l-bind (l-more (up_to-more 10≤11) outermost-listed) λ v. l-bind ends-listed λ _. l-ret v

-- an integer of a frame
framed-listed : Listed (up_to_or16 11) (integer wide32)
framed-listed = l-more (λ n e. or-16 11 n (up_to-more 10≤11 n e)) (integer-listed wide32)

frame-listed : Listed (up_to_or16 11) whole_frame
unfolding whole_frame
frame-listed =
    l-bind l-here λ p. l-bind framed-listed λ n. l-bind (l-require _ 5 p refl) λ _.
    l-bind l-here λ q. l-bind l-ahead λ l. l-bind (l-require _ 1 _ refl) λ _. l-bind (l-require _ 11 _ refl) λ _.
    l-bind framed-listed λ c. l-bind l-here λ from. l-bind (l-more (or-16 11) whole-listed) λ v. l-bind (l-require _ 16 0 refl) λ _. l-ret _

module _ (among : ℕ → Bool) where
  unless-numbered : {A : Type 0} (t : Bool) (n : ℕ) (a : Answer A) → among (number_of (reason_of n)) ≡ true → Numbered among a → Numbered among (unless t n a)
  unless-numbered true n a g h = h
  unless-numbered false n a g h = g

  then-numbered : {A B : Type 0} (a : Answer A) (f : A → Answer B) → Numbered among a → ((x : A) → Numbered among (f x)) → Numbered among (then a f)
  then-numbered (ok x) f h k = k x
  then-numbered (refused r) f h k = h

  reading-numbered : {A : Type 0} (p : Reader A) → among 2 ≡ true → Listed among p → (o : List ℕ) → Numbered among (reading p o)
  reading-numbered {A} p g h o = unless-numbered (leb (length o) most_octets) 2 (answer (p (start o))) g (by (p (start o)) refl)
    where
      by : (x : Out A) → p (start o) ≡ x → Numbered among (answer x)
      by (got a s) e = tt
      by (stop r) e = h.listed (start o) r e

  within-numbered : among 12 ≡ true → (n : ℕ) (r : List Row) → Numbered among (within_rows n r)
  within-numbered g n r = unless-numbered (leb (length r) n) 12 (ok r) g tt

pub measure-numbered : (o : List ℕ) → Numbered (up_to 10) (measure o)
unfolding measure first_length
measure-numbered o = reading-numbered (up_to 10) _ refl (l-bind outermost-listed λ v. l-here) o

whole-numbered : (o : List ℕ) → Numbered (up_to 11) (message o)
unfolding message
whole-numbered o = reading-numbered (up_to 11) _ refl whole-listed o

whole-frame-numbered : (o : List ℕ) → Numbered (up_to_or16 11) (frame o)
unfolding frame
whole-frame-numbered o = reading-numbered (up_to_or16 11) _ refl frame-listed o

pub rows-numbered : (o : List ℕ) → Numbered (up_to 11) (rows_needed o)
unfolding rows_needed
rows-numbered o = then-numbered (up_to 11) (message o) _ (whole-numbered o) λ v. tt

read-numbered : (n : ℕ) (o : List ℕ) → Numbered (up_to 12) (read_message n o)
unfolding read_message
read-numbered n o = then-numbered (up_to 12) (message o) _ (numbered_more (up_to-more 11≤12) (message o) (whole-numbered o)) λ v. within-numbered (up_to 12) refl n (rows v)

pub message-numbered : (n : ℕ) (o : List ℕ) → Numbered (up_to 12) (then (read_message n o) messages.counted)
message-numbered n o = then-numbered (up_to 12) (read_message n o) messages.counted (read-numbered n o) λ r. tt

pub needs-numbered : (o : List ℕ) → Numbered (up_to_or16 11) (needs o)
unfolding needs
needs-numbered o = then-numbered (up_to_or16 11) (frame o) _ (whole-frame-numbered o) λ f. tt

or_right : (a b : Bool) → b ≡ true → a || b ≡ true
or_right true b e = refl
or_right false b e = e

or-more : (n : ℕ) → up_to_or16 11 n ≡ true → up_to_or16 12 n ≡ true
or-more n e = by (up_to 11 n) refl e
  where
    by : (t : Bool) → up_to 11 n ≡ t → t || eqb n 16 ≡ true → up_to_or16 12 n ≡ true
    by true u e = or-16 12 n (up_to-more 11≤12 n u)
    by false u e = or_right (up_to 12 n) (eqb n 16) e

read-frame-numbered : (n : ℕ) (o : List ℕ) → Numbered (up_to_or16 12) (read_frame n o)
unfolding read_frame
read-frame-numbered n o = then-numbered (up_to_or16 12) (frame o) _ (numbered_more or-more (frame o) (whole-frame-numbered o)) λ f.
    then-numbered (up_to_or16 12) (within_rows n (rows f.said)) (λ r. ok (f.conversation, f.from, r)) (within-numbered (up_to_or16 12) refl n (rows f.said)) λ r. tt

pub frame-numbered : (n : ℕ) (o : List ℕ) → Numbered (up_to_or16 12) (then (read_frame n o) told)
frame-numbered n o = then-numbered (up_to_or16 12) (read_frame n o) told (read-frame-numbered n o) λ a. tt

-- ---- asking

fitting-numbered : (t : Bool) (z : ℤ) → Numbered of_row (fitting t z)
fitting-numbered t z = unless-numbered of_row t 15 (ok z) refl tt

cond-numbered : {A : Type 0} (t : Bool) (a b : Answer A) → Numbered of_row a → Numbered of_row b → Numbered of_row (cond t a b)
cond-numbered true a b h k = h
cond-numbered false a b h k = k

narrow-numbered : (top z : ℤ) → Numbered of_row (narrow top z)
narrow-numbered top z = cond-numbered (eq_z z (negsuc 0)) (ok top) _ tt (fitting-numbered (within (pos 0) top z) z)

integer-numbered : (a : As) (z : ℤ) → Numbered of_row (integer_as a z)
integer-numbered Int16 z = fitting-numbered (ltb (mag z) (2 ^ 15)) z
integer-numbered Int32 z = fitting-numbered (ltb (mag z) (2 ^ 31)) z
integer-numbered Int64 z = fitting-numbered (ltb (mag z) (2 ^ 63)) z
integer-numbered Octet z = narrow-numbered (pos 255) z
integer-numbered Char z = narrow-numbered (pos 65535) z
integer-numbered Boolean z = refl

only-numbered : (t : ℤ) (a : As) (z : ℤ) → Numbered of_row (only t a z)
only-numbered t a z = unless-numbered of_row (eq_z (asked a) t) 15 (ok z) refl tt

sort-numbered : (s : Sort) (a : As) (z : ℤ) → Numbered of_row (sort_as s a z)
sort-numbered integral a z = integer-numbered a z
sort-numbered octet a z = only-numbered (asked Octet) a z
sort-numbered char a z = only-numbered (asked Char) a z
sort-numbered boolean a z = only-numbered (asked Boolean) a (truth z)
sort-numbered null a z = tt
sort-numbered other a z = refl

ask-numbered : (a : As) (r : Row) → Numbered of_row (ask a r)
unfolding ask
ask-numbered a r =
    unless-numbered of_row (kind_of r.ty).carried 14 _ refl (unless-numbered of_row (possible (kind_of r.ty).datum r.number) 14 _ refl (sort-numbered (kind_of r.ty).sort a r.number))

pub asked-numbered : (n : ℕ) (r : Row) → Numbered of_row (ask_by n r)
asked-numbered n r =
    cond-numbered (eqb n 0) _ _ (ask-numbered Int16 r) (cond-numbered (eqb n 1) _ _ (ask-numbered Int32 r) (cond-numbered (eqb n 2) _ _ (ask-numbered Int64 r)
    (cond-numbered (eqb n 3) _ _ (ask-numbered Octet r) (cond-numbered (eqb n 4) _ _ (ask-numbered Char r) (cond-numbered (eqb n 5) _ _ (ask-numbered Boolean r) refl)))))

-- ---- what 0 says

pub result-by-status : {A : Type 0} (among : ℕ → Bool) → among 0 ≡ false → (a : Answer A) → Numbered among a → status a ≡ 0 → (x : A) × (a ≡ ok x)
result-by-status among g (ok x) h e = (x, refl)
result-by-status among g (refused r) h e = clash (sym (rw e at h) ∙ g)
