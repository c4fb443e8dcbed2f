-- Counting rows while reading: one turn of the loop over a container.
use mathlib.Core.Path.{◌≡◌, refl, sym, ap, ap₂, ◌∙◌}
use mathlib.Core.Bool.{Bool, true, false, cond}
use Prim.Native.Nat.{ℕ, suc, ◌+◌, ◌-◌, ◌≤◌}
use native.Mathlib.Omega.{arith}
use native.Mathlib.Nat.{add-zero}
use lib.Dec.{ltb}
use borrow.Author.Tests.{ltb-true, ltb-false}
use Rattle.reading.specs.Reading.{State, Out, got, stop, Reader, follow, ◌>>=◌, return}
use Rattle.integer.specs.Packed.{wide32, integer}
use Rattle.format.specs.Values.{Value, Children, child_of, Form, Rule, counted, rising, label, Inner, each, children}
use Rattle.format.specs.Rows.{count}
use Rattle.decide.specs.Forms.{turn}
use Rattle.decide.proofs.Forms.{turn-same, turn-next}
use Rattle.decide.specs.Coming.{Coming, halt, ends, go, coming_by_index, coming, next_low}
use Rattle.measure.specs.Tally.{plus, value_rows, child_rows, onward, rest}
use Rattle.measure.specs.Plans.{OneForm}
use Rattle.measure.proofs.Turns.{on_coming, turns-none, turns_more, pairs-turn}

-- what is counted at what comes next, where `again` is still expected after the value
abbrev pub count_coming : Inner → Form → (ℕ → Rule) → ℕ → Coming → Out ℕ
count_coming inner f again rows (halt r) = stop r
count_coming inner f again rows (ends s) = got rows s
count_coming inner f again rows (go i s) = onward inner f (again i) rows s

pub counted-turn : (inner : Inner) (r : Rule) (s : State) (f : Form) (again : ℕ → Rule) (g : Coming) (rows : ℕ)
    → children inner r s ≡ on_coming (each inner f) (λ i. children inner (again i)) g → plus rows (child_rows inner r) s ≡ count_coming inner f again rows g
unfolding plus child_rows value_rows onward ◌>>=◌ return count
counted-turn inner r s f again g rows h = rw h (by g)
  where
    last : (v : Value) (x : Out Children) (i : ℕ) → follow (follow (follow x (λ cs. return (child_of i v cs))) (λ cs. return (count cs))) (λ m. return (rows + m))
        ≡ follow (follow x (λ cs. return (count cs))) (λ m. return (rows + suc (count v.inside) + m))
    last v (got cs t) i = ap (λ (n : ℕ). got n t) (omega arith)
    last v (stop r) i = refl

    one : (x : Out Value) (i : ℕ) → follow (follow (follow x (λ v t. follow (children inner (again i) t) (λ cs. return (child_of i v cs)))) (λ cs. return (count cs))) (λ m. return (rows + m))
        ≡ follow (follow (follow x (λ v. return (suc (count v.inside)))) (λ m. return (rows + m))) (λ k t. follow (follow (children inner (again i) t) (λ cs. return (count cs))) (λ m. return (k + m)))
    one (got v t) i = last v (children inner (again i) t) i
    one (stop r) i = refl

    by : (g : Coming) → follow (follow (on_coming (each inner f) (λ i. children inner (again i)) g) (λ cs. return (count cs))) (λ m. return (rows + m)) ≡ count_coming inner f again rows g
    by (halt r) = refl
    by (ends s) = ap (λ (n : ℕ). got n s) (add-zero rows)
    by (go i s) = one (each inner f s) i

pub plus-zero : (p : Reader ℕ) (s : State) → plus 0 p s ≡ p s
unfolding plus ◌>>=◌ return
plus-zero p s = by (p s)
  where
    by : (x : Out ℕ) → follow x (λ m. return (0 + m)) ≡ x
    by (got n t) = ap (λ (k : ℕ). got k t) (omega arith)
    by (stop r) = refl

-- ---- what a container still expects, by what comes next

module _ (inner : Inner) where
  counted-go : (p : Bool) (f g : Form) (n i rows : ℕ) (s : State) → plus rows (child_rows inner (counted p f g (suc n) i)) s ≡ onward inner f (counted p g f n (suc i)) rows s
  counted-go p f g n i rows s = counted-turn inner (counted p f g (suc n) i) s f (λ _. counted p g f n (suc i)) (go (label p i) s) rows (turns_more inner p f g n i s)

  counted_none : (p : Bool) (f g : Form) (i rows : ℕ) (s : State) → plus rows (child_rows inner (counted p f g 0 i)) s ≡ got rows s
  counted_none p f g i rows s = counted-turn inner (counted p f g 0 i) s f (λ _. counted p f g 0 i) (ends s) rows (turns-none inner p f g i s)

  pub rest-coming : (x p : Bool) (f g : Form) (count low rows : ℕ) (s : State) → low ≤ count → OneForm x f g
      → plus rows (child_rows inner (rest x p f g count low)) s ≡ count_coming inner (turn f g low) (λ j. rest x p f g count (next_low x j low)) rows (coming x p count low s)
  rest-coming true p f g count low rows s h e =
      counted-turn inner (rising f count low) s f (λ i. rising f count (suc i)) (coming_by_index s.at count low (integer wide32 s)) rows (pairs-turn inner f count low s h)
      ∙ ap (λ (y : Form). count_coming inner y (λ i. rising f count (suc i)) rows (coming_by_index s.at count low (integer wide32 s))) (sym (ap (λ (z : Form). turn f z low) (sym e) ∙ turn-same f low))
  rest-coming false p f g count low rows s h e = by (ltb low count) refl
    where
      by : (b : Bool) → ltb low count ≡ b → plus rows (child_rows inner (rest false p f g count low)) s ≡ count_coming inner (turn f g low) (λ j. rest false p f g count (suc low)) rows (cond b (go (label p low) s) (ends s))
      by true q =
          let l = ltb-true low count q in
          let m : count - low ≡ suc (count - suc low) = omega arith in
          ap (λ (n : ℕ). plus rows (child_rows inner (counted p (turn f g low) (turn g f low) n low)) s) m
          ∙ counted-go p (turn f g low) (turn g f low) (count - suc low) low rows s
          ∙ ap₂ (λ (y z : Form). onward inner (turn f g low) (counted p y z (count - suc low) (suc low)) rows s) (sym (turn-next f g low)) (sym (turn-next g f low))
      by false q =
          let l = ltb-false low count q in
          let m : count - low ≡ 0 = omega arith in
          ap (λ (n : ℕ). plus rows (child_rows inner (counted p (turn f g low) (turn g f low) n low)) s) m ∙ counted_none p (turn f g low) (turn g f low) low rows s
