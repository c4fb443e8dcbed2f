-- Rows and values: an accepted message's rows, seen apart from their places, are those of its value, and are spelt as the message.
use mathlib.Core.Path.{◌≡◌, refl, sym, ap, ◌∙◌, subst, ap₂}
use mathlib.Core.Bool.{Bool, true, false, cond}
use mathlib.Core.List.{List, [], ◌∷◌, ◌++◌, map, map-append, append_assoc, append-nil}
use Prim.Native.Nat.{ℕ, zero, suc, ◌+◌, ◌-◌, ◌≤◌}
use native.Mathlib.Omega.{arith}
use lib.ListN.{length, length-append, length-map, take, drop}
use lib.Seq.{take_at, drop_at}
use lib.Dec.{leb, eqb}
use lib.IntN.{ℤ, pos}
use lib.Signed.{mag}
use borrow.Author.Tests.{le-leb}
use Rattle.reading.proofs.Sound.{Octets}
use Rattle.format.specs.declared.Row.{Row}
use Rattle.format.specs.Types.{Text, none, octets, characters, kind_of}
use Rattle.format.specs.Data.{spell_number, spell_element}
use Rattle.format.specs.Values.{Head, Children, empty, child, child_of, Value, value, Rule, counted, rising, moments, rule_of, pieces}
use Rattle.format.specs.Spelling.{identifier, fore, indexed, index, spell_children, spell}
use Rattle.format.specs.Rows.{count, has_contents, place_of, row_of, rows_from, rows}
use Rattle.format.specs.Message.{ok, message}
use Rattle.format.specs.Writing.{Seen, placed_in, text_in, seen, HasRows, build, spell_rows}
use Rattle.format.specs.Grammar.{Contents, Good, Ints, Held, Fits, Shaped}
use Rattle.laws.proofs.Tests.{clash}
use Rattle.laws.proofs.Messages.{accepted-is}

-- ---- heads inside

-- every head is good
unfoldable pub Goods : Children → Type 0
Goods empty = Unit {0}
Goods (child i h cs more) = Good (kind_of h.ty) h × Goods cs × Goods more

pieces-good : (i : ℕ) (l : List ℤ) → Ints l → Goods (pieces i l)
unfolding Goods pieces Ints kind_of
pieces-good i [] g = tt
pieces-good i (z ∷ l) g = (record { first_good = refl; second_good = refl; number_good = g.0; text-good = refl }, tt, pieces-good (suc i) l g.1)

held-good : (r : Rule) (cs : Children) → Held r cs (Fits r cs) → (Fits r cs → Goods cs) → Goods cs
held-good (counted paired f g n i) cs h k = k h
held-good (rising f top low) cs h k = k h
held-good (moments d) cs h k = subst Goods (sym h.are_pieces) (pieces-good 0 _ h.are_ints)

fits-good : (r : Rule) (cs : Children) → Fits r cs → Goods cs
unfolding Fits Goods
fits-good r empty f = tt
fits-good r (child i h cs more) f = (f.1, held-good (rule_of h) cs f.2 (fits-good (rule_of h) cs), fits-good _ more f.3)

pub shaped-good : (i : ℕ) (v : Value) → Shaped v → Goods (child_of i v empty)
unfolding Goods
shaped-good i v g = (g.good, held-good (rule_of v.top) v.inside g.held (fits-good (rule_of v.top) v.inside), tt)

-- ---- the rows of values, without places

unfoldable pub seens : Children → List Seen
seens empty = []
seens (child i h cs more) = record { label = i; what = h; below = count cs; placed = true } ∷ (seens cs ++ seens more)

pub seens-count : (cs : Children) → length (seens cs) ≡ count cs
unfolding seens count
seens-count empty = refl
seens-count (child i h cs more) = ap suc (length-append (seens cs) (seens more) ∙ ap₂ ◌+◌ (seens-count cs) (seens-count more))

build-seens : (k : ℕ) (cs : Children) → count cs ≤ k → build k (seens cs) ≡ cs
unfolding build seens count
build-seens zero empty b = refl
build-seens zero (child i h cs more) b = absurd (omega arith)
build-seens (suc k) empty b = refl
build-seens (suc k) (child i h cs more) b =
    rw (take_at (seens cs) (seens more) (count cs) (seens-count cs), drop_at (seens cs) (seens more) (count cs) (seens-count cs), build-seens k cs (omega arith), build-seens k more (omega arith))

-- ---- rows seen where they stand

-- the contents of a string are as long as its number says, and others have none
pub contents-long : (t : Text) (n : ℤ) (l : List ℕ) → has_contents t ≡ true → Contents t n l → length l ≡ mag n
contents-long none n l e g = clash (sym e)
contents-long octets n l e g = g
contents-long characters n l e g = g.0

pub contents-none : (t : Text) (n : ℤ) (l : List ℕ) → has_contents t ≡ false → Contents t n l → l ≡ []
contents-none none n l e g = g
contents-none octets n l e g = clash e
contents-none characters n l e g = clash e

-- what stands before the contents
abbrev pub before_text : Head → List ℕ
before_text h = identifier h ++ (spell_element (kind_of h.ty).first h.first ++ (spell_element (kind_of h.ty).second h.second ++ spell_number (kind_of h.ty).datum h.number))

pub fore-text : (h : Head) → fore h ≡ before_text h ++ h.text
unfolding fore
fore-text h = simp append_assoc

module _ (h : Head) (from : ℕ) (pre post o : List ℕ) (good : Good (kind_of h.ty) h) (at : length pre ≡ from) (here : o ≡ pre ++ (fore h ++ post)) where
  abbrev kind-text : Text
  kind-text = (kind_of h.ty).text

  -- the place of the contents, where there are any
  abbrev text-place : ℕ
  text-place = from + length (fore h) - length h.text

  text-seen : (text_in kind-text o (place_of h from) (mag h.number) ≡ h.text) × (placed_in kind-text o (place_of h from) (mag h.number) ≡ true)
  text-seen = by (has_contents kind-text) refl
    where
      by : (b : Bool) → has_contents kind-text ≡ b
          → (cond b (take (mag h.number) (drop (cond b text-place 0) o)) [] ≡ h.text)
          × (cond b (leb (cond b text-place 0 + mag h.number) (length o)) (eqb (cond b text-place 0) 0) ≡ true)
      by false e = (sym (contents-none kind-text h.number h.text e good.text-good), refl)
      by true e =
          let long : length h.text ≡ mag h.number = contents-long kind-text h.number h.text e good.text-good in
          let whole : o ≡ (pre ++ before_text h) ++ (h.text ++ post) = here ∙ ap (λ (l : List ℕ). pre ++ (l ++ post)) (fore-text h) ∙ simp append_assoc in
          let fore-long : length (fore h) ≡ length (before_text h) + length h.text = ap length (fore-text h) ∙ length-append (before_text h) h.text in
          let before : length (pre ++ before_text h) ≡ text-place = length-append pre (before_text h) ∙ (omega arith) in
          let all : length o ≡ length (pre ++ before_text h) + (length h.text + length post) = ap length whole ∙ length-append (pre ++ before_text h) (h.text ++ post) ∙ ap (λ (n : ℕ). length (pre ++ before_text h) + n) (length-append h.text post) in (
            ap (λ (l : List ℕ). take (mag h.number) (drop text-place l)) whole ∙ ap (take (mag h.number)) (drop_at (pre ++ before_text h) (h.text ++ post) text-place before) ∙ take_at h.text post (mag h.number) long,
            le-leb (text-place + mag h.number) (length o) (omega arith),
          )

  row_seen : (i below to : ℕ) → seen o (row_of i h below from to) ≡ record { label = i; what = h; below = below; placed = true }
  unfolding seen
  row_seen i below to =
      let w = text-seen in
      λ j. record { label = i; what = record { ty = h.ty; own = h.own; number = h.number; first = h.first; second = h.second; text = w.0 j }; below = below; placed = w.1 j }

-- the rows of values that stand in o from a place on, seen there
rows_seen : (x : Bool) (at : ℕ) (cs : Children) (pre post o : List ℕ) → Goods cs → length pre ≡ at → o ≡ pre ++ (spell_children x cs ++ post) → map (seen o) (rows_from x at cs) ≡ seens cs
unfolding rows_from seens spell spell_children Goods
rows_seen x at empty pre post o f e q = refl
rows_seen x at (child i h cs more) pre post o f e q =
    let d = index x (pos i) in
    let inside = spell_children (indexed (rule_of h)) cs in
    let after = spell_children x more in
    let to = at + length d + length (spell (value h cs)) in
    ap₂ ◌∷◌
    (row_seen h (at + length d) (pre ++ d) (inside ++ (after ++ post)) o f.0 (simp length-append (omega arith)) (q ∙ simp append_assoc) i (count cs) to)
    (map-append (seen o) (rows_from (indexed (rule_of h)) (at + length d + length (fore h)) cs) (rows_from x to more)
    ∙ ap₂ ◌++◌
    (rows_seen (indexed (rule_of h)) (at + length d + length (fore h)) cs (pre ++ (d ++ fore h)) (after ++ post) o f.1 (simp length-append (omega arith)) (q ∙ simp append_assoc))
    (rows_seen x to more (pre ++ (d ++ spell (value h cs))) post o f.2 (simp length-append (omega arith)) (q ∙ simp append_assoc)))

-- ---- messages

unfoldable pub alone : Value → Children
alone v = child_of 0 v empty

pub alone-spelt : (v : Value) → spell_children false (alone v) ≡ spell v
unfolding alone spell_children spell
alone-spelt v = simp append-nil

-- the rows of a value, seen in its spelling
pub shaped-seen : (v : Value) → Shaped v → map (seen (spell v)) (rows v) ≡ seens (alone v)
unfolding rows alone
shaped-seen v g = rows_seen false 0 (child_of 0 v empty) [] [] (spell v) (shaped-good 0 v g) refl (sym (alone-spelt v) ∙ simp append-nil)

pub message-seen : (o : List ℕ) (v : Value) → Octets o → message o ≡ ok v → map (seen o) (rows v) ≡ seens (alone v)
message-seen o v x e =
    let a = accepted-is o v x e in
    subst (λ (l : List ℕ). map (seen l) (rows v) ≡ seens (alone v)) a.spelt (shaped-seen v a.valid.shaped)

-- the rows of a value of the grammar's shape are spelt as the value
pub shaped-spelt : (v : Value) → Shaped v → spell_rows (spell v) (rows v) ≡ spell v
unfolding spell_rows
shaped-spelt v g =
    let m : map (seen (spell v)) (rows v) ≡ seens (alone v) = shaped-seen v g in
    let n : length (rows v) ≡ count (alone v) = sym (length-map (rows v) (seen (spell v))) ∙ ap length m ∙ seens-count (alone v) in
    ap (spell_children false) (ap₂ build n m ∙ build-seens (count (alone v)) (alone v) (omega arith)) ∙ alone-spelt v

-- and an accepted message's as the message
pub rows-spelt : (o : List ℕ) (v : Value) → Octets o → message o ≡ ok v → spell_rows o (rows v) ≡ o
rows-spelt o v x e = let a = accepted-is o v x e in subst (λ (l : List ℕ). spell_rows l (rows v) ≡ l) a.spelt (shaped-spelt v a.valid.shaped)

-- rows that accepted octets have are spelt as those octets; so they are had by their own spelling
pub has-rows-spelt : (c : List ℕ) (rs : List Row) (o : List ℕ) → Octets o → HasRows c rs o → spell_rows c rs ≡ o
unfolding spell_rows
has-rows-spelt c rs o x h =
    let n : length rs ≡ length (rows h.said) = sym (length-map rs (seen c)) ∙ ap length (sym h.same) ∙ length-map (rows h.said) (seen o) in
    ap (spell_children false) (ap₂ build n (sym h.same)) ∙ rows-spelt o h.said x h.accepted

pub has-rows-again : (c : List ℕ) (rs : List Row) (o : List ℕ) → Octets o → HasRows c rs o → HasRows c rs (spell_rows c rs)
has-rows-again c rs o x h = subst (HasRows c rs) (sym (has-rows-spelt c rs o x h)) h

-- messages whose rows agree apart from places are the same octets
pub rows-fix : (o o' : List ℕ) (v v' : Value) → Octets o → Octets o' → message o ≡ ok v → message o' ≡ ok v' → map (seen o) (rows v) ≡ map (seen o') (rows v') → o ≡ o'
rows-fix o o' v v' x x' e e' same = sym (has-rows-spelt o' (rows v') o x (record { said = v; accepted = e; same = same })) ∙ rows-spelt o' v' x' e'
