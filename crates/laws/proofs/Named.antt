-- Identities and references, by rows: a number is given once, and a reference aims at an identity that has ended before it.
use mathlib.Core.Path.{◌≡◌, refl, sym, ap, ◌∙◌, subst}
use mathlib.Core.Bool.{Bool, true, false, cond}
use mathlib.Core.List.{List, [], ◌∷◌, ◌++◌}
use Prim.Native.Nat.{ℕ, ◌+◌, ◌≤◌}
use native.Mathlib.Omega.{arith}
use lib.ListN.{length, length-append}
use lib.Dec.{eqb}
use lib.IntN.{ℤ, pos}
use lib.Signed.{mag}
use borrow.Author.Tests.{eqb-true, eq-eqb}
use Rattle.reading.specs.Reading.{Env}
use Rattle.format.specs.declared.Row.{Row}
use Rattle.format.specs.Types.{Datum, Names, silent, gives, refers, kind_of}
use Rattle.format.specs.Values.{Children, empty, child, child_of, Value, most_identities, has, begun, closed, rule_of}
use Rattle.format.specs.Spelling.{fore, indexed, index, spell_children, spell}
use Rattle.format.specs.Rows.{count, row_of, rows_from, rows}
use Rattle.format.specs.Grammar.{Number, Allowed, opens, closes, after, Named, Valid}
use Rattle.laws.specs.Words.{fresh, Ungiven, Ended, identities, NamedAfter, NamedRows}
use Rattle.laws.proofs.Tests.{clash, pos-mag}
use Rattle.laws.proofs.Types.{numbered, all-numbered, amount-whole}
use Rattle.laws.proofs.Rows.{Goods, shaped-good}

-- ---- rows above rows

-- rows, the last first, and then those above them
unfoldable onto : List Row → List Row → List Row
onto [] above = above
onto (r ∷ rs) above = onto rs (r ∷ above)

onto-join : (a b above : List Row) → onto (a ++ b) above ≡ onto b (onto a above)
unfolding onto
onto-join [] b above = refl
onto-join (r ∷ a) b above = onto-join a b (r ∷ above)

named-join : (above a b : List Row) → NamedRows above a → NamedRows (onto a above) b → NamedRows above (a ++ b)
unfolding NamedRows onto
named-join above [] b p q = q
named-join above (r ∷ a) b p q = (p.0, named-join (r ∷ above) a b p.1 q)

onto-identities : (rs above : List Row) → identities (onto rs above) ≡ identities rs + identities above
unfolding onto identities
onto-identities [] above = omega arith
onto-identities (r ∷ rs) above = omega (arith, onto-identities rs (r ∷ above))

ended-more : (n : ℤ) (p : ℕ) (r : Row) (rs : List Row) → Ended n p rs → Ended n p (r ∷ rs)
ended-more n p r rs e = record { identity = e.identity; others = r ∷ e.others; more = e.more; stands = ap (λ (l : List Row). r ∷ l) e.stands; given = e.given; ended = e.ended }

ended-onto : (n : ℤ) (p : ℕ) (rs above : List Row) → Ended n p above → Ended n p (onto rs above)
unfolding onto
ended-onto n p [] above e = e
ended-onto n p (r ∷ rs) above e = ended-onto n p rs (r ∷ above) (ended-more n p r above e)

ended-later : (n : ℤ) (p q : ℕ) (rs : List Row) → p ≤ q → Ended n p rs → Ended n q rs
ended-later n p q rs h e = record { identity = e.identity; others = e.others; more = e.more; stands = e.stands; given = e.given; ended = omega (arith, e.ended) }

-- ---- what the identities given so far say of the rows above

-- each identity of the rows is among the numbers l
unfoldable Opened : List ℕ → List Row → Type 0
Opened l [] = Unit {0}
Opened l (r ∷ rs) = ((kind_of r.ty).names ≡ gives → has (mag r.number) l ≡ true) × Opened l rs

record Known (e : Env) (at : ℕ) (above : List Row) : Type 0 where
  opened_are : Opened e.opened above
  count_is : identities above ≡ length e.opened
  few : length e.opened ≤ most_identities
  ended_are : (n : ℕ) → has n e.ended ≡ true → Ended (pos n) at above

known-later : (e : Env) (p q : ℕ) (above : List Row) → p ≤ q → Known e p above → Known e q above
known-later e p q above h k = record { opened_are = k.opened_are; count_is = k.count_is; few = k.few; ended_are = λ n m. ended-later (pos n) p q above h (k.ended_are n m) }

-- a number that takes part in naming is 0 or more
abbrev Spoken : Names → ℤ → Type 0
Spoken silent z = Unit {0}
Spoken gives z = pos (mag z) ≡ z
Spoken refers z = pos (mag z) ≡ z

spoken : (y : Names) (d : Datum) (z : ℤ) → numbered y d ≡ true → Number d z → Spoken y z
spoken silent d z e g = tt
spoken gives d z e g = pos-mag z (amount-whole d z e g)
spoken refers d z e g = pos-mag z (amount-whole d z e g)

not_opened : (n : ℤ) (l : List ℕ) (above : List Row) → has (mag n) l ≡ false → Opened l above → Ungiven n above
unfolding Opened Ungiven
not_opened n l [] h p = tt
not_opened n l (r ∷ rs) h p = (λ g. clash (sym (p.0 g.0) ∙ ap (λ (z : ℤ). has (mag z) l) g.1 ∙ h), not_opened n l rs h p.1)

row_named : (y : Names) (e : Env) (at : ℕ) (above : List Row) (r : Row) → at ≤ r.start → Spoken y r.number → Allowed y (mag r.number) e → Known e at above → NamedAfter y above r
row_named silent e at above r h s a k = tt
row_named gives e at above r h s a k = not_opened r.number e.opened above a.0 k.opened_are
row_named refers e at above r h s a k = ended-later r.number at r.start above h (subst (λ (z : ℤ). Ended z at above) s (k.ended_are (mag r.number) a))

-- one more row

has_more : (m n : ℕ) (l : List ℕ) → has m l ≡ true → has m (n ∷ l) ≡ true
unfolding has
has_more m n l h = by (eqb n m)
  where
    by : (t : Bool) → cond t true (has m l) ≡ true
    by true = refl
    by false = h

opened-more : (n : ℕ) (l : List ℕ) (above : List Row) → Opened l above → Opened (n ∷ l) above
unfolding Opened
opened-more n l [] p = tt
opened-more n l (r ∷ rs) p = (λ z. has_more (mag r.number) n l (p.0 z), opened-more n l rs p.1)

begins : (y : Names) (e : Env) (at : ℕ) (above : List Row) (r : Row) → (kind_of r.ty).names ≡ y → Allowed y (mag r.number) e → Known e at above → Known (begun y (mag r.number) e) at (r ∷ above)
unfolding Opened identities has
begins silent e at above r h a k = record {
  opened_are = (λ z. let c : ◌≡◌ {A = ℕ} 0 1 = cc in absurd (omega arith), k.opened_are);
  count_is = rw h (omega (arith, k.count_is));
  few = k.few;
  ended_are = λ n m. ended-more (pos n) at r above (k.ended_are n m);
}
begins gives e at above r h a k = record {
  opened_are = (λ z. rw (eq-eqb (mag r.number) (mag r.number) refl), opened-more (mag r.number) e.opened above k.opened_are);
  count_is = rw h (omega (arith, k.count_is));
  few = omega (arith, a.1);
  ended_are = λ n m. ended-more (pos n) at r above (k.ended_are n m);
}
begins refers e at above r h a k = record {
  opened_are = (λ z. let c : ◌≡◌ {A = ℕ} 0 1 = cc in absurd (omega arith), k.opened_are);
  count_is = rw h (omega (arith, k.count_is));
  few = k.few;
  ended_are = λ n m. ended-more (pos n) at r above (k.ended_are n m);
}

-- and its end

abbrev Shut : Names → ℤ → ℕ → List Row → Type 0
Shut silent z at above = Unit {0}
Shut gives z at above = Ended (pos (mag z)) at above
Shut refers z at above = Unit {0}

shuts : (y : Names) (r : Row) (inside above : List Row) → (kind_of r.ty).names ≡ y → Spoken y r.number → Shut y r.number r.end (onto inside (r ∷ above))
shuts silent r inside above h s = tt
shuts gives r inside above h s = ended-onto _ _ inside (r ∷ above) (record { identity = r; others = []; more = above; stands = refl; given = (h, sym s); ended = omega arith })
shuts refers r inside above h s = tt

ends_now : (y : Names) (z : ℤ) (e : Env) (at : ℕ) (above : List Row) → Shut y z at above → Known e at above → Known (closed y (mag z) e) at above
unfolding has
ends_now silent z e at above s k = k
ends_now gives z e at above s k = record { opened_are = k.opened_are; count_is = k.count_is; few = k.few; ended_are = λ n m. by n (eqb (mag z) n) refl m }
  where
    by : (n : ℕ) (t : Bool) → eqb (mag z) n ≡ t → cond t true (has n e.ended) ≡ true → Ended (pos n) at above
    by n true q m = subst (λ (x : ℕ). Ended (pos x) at above) (eqb-true (mag z) n q) s
    by n false q m = k.ended_are n m
ends_now refers z e at above s k = k

-- ---- all rows

from_named : (x : Bool) (at : ℕ) (cs : Children) (e : Env) (above : List Row) → Goods cs → Named e cs → Known e at above
    → NamedRows above (rows_from x at cs) × Known (after e cs) (at + length (spell_children x cs)) (onto (rows_from x at cs) above)
unfolding NamedRows rows_from onto Goods Named after spell_children spell
from_named x at empty e above g q k = (tt, known-later e at _ above (omega arith) k)
from_named x at (child i h cs more) e above g q k =
    let d = index x (pos i) in
    let from = at + length d in
    let within = spell_children (indexed (rule_of h)) cs in
    let to = from + length (fore h ++ within) in
    let r = row_of i h (count cs) from to in
    let y = (kind_of h.ty).names in
    let inside = rows_from (indexed (rule_of h)) (from + length (fore h)) cs in
    let others = rows_from x to more in
    let own : length (fore h ++ within) ≡ length (fore h) + length within = length-append (fore h) within in
    let all : length (d ++ (fore h ++ (within ++ spell_children x more))) ≡ length d + (length (fore h) + (length within + length (spell_children x more))) = simp length-append in
    let s : Spoken y h.number = spoken y (kind_of h.ty).datum h.number (all-numbered h.ty) g.0.number_good in
    let begin = known-later _ at (from + length (fore h)) (r ∷ above) (omega arith) (begins y e at above r refl q.0 k) in
    let in-it = from_named (indexed (rule_of h)) (from + length (fore h)) cs (opens h e) (r ∷ above) g.1 q.1 begin in
    let shut = ends_now y h.number _ to (onto inside (r ∷ above)) (shuts y r inside above refl s) (known-later _ _ to _ (omega arith) in-it.1) in
    let rest = from_named x to more (closes h (after (opens h e) cs)) (onto inside (r ∷ above)) g.2 q.2 shut in (
      (row_named y e at above r (omega arith) s q.0 k, named-join (r ∷ above) inside others in-it.0 rest.0),
      subst (Known _ _) (sym (onto-join inside others (r ∷ above))) (known-later _ _ _ _ (omega arith) rest.1),
    )

pub rows_named : (v : Value) → Valid v → NamedRows [] (rows v) × (identities (rows v) ≤ most_identities)
unfolding rows Opened identities has
rows_named v a =
    let start : Known fresh 0 [] = record { opened_are = tt; count_is = refl; few = omega arith; ended_are = λ n m. clash (sym m) } in
    let w = from_named false 0 (child_of 0 v empty) fresh [] (shaped-good 0 v a.shaped) a.named start in
    (w.0, omega (arith, w.1.count_is, w.1.few, onto-identities (rows_from false 0 (child_of 0 v empty)) []))
