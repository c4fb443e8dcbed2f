-- What comes next in a container, in accepted octets.
use mathlib.Core.Path.{◌≡◌, ap, ap₂, ◌∙◌}
use mathlib.Core.Bool.{Bool, true, false}
use mathlib.Core.List.{List}
use Prim.Native.Nat.{ℕ, ◌+◌, ◌<◌, ◌≤◌}
use native.Mathlib.Omega.{arith}
use native.Mathlib.Nat.{add-zero}
use lib.ListN.{length}
use lib.IntN.{pos, negsuc}
use borrow.Author.Tests.{le-leb, le-ltb, lt-ltb}
use Rattle.std.specs.Prelude.{Result, Ok, Err}
use Rattle.reading.specs.Reading.{State, got, stand}
use Rattle.integer.specs.Packed.{wide32}
use Rattle.integer.proofs.Laws.{integer-does, enough32}
use Rattle.format.specs.Spelling.{index}
use Rattle.decide.specs.declared.Next.{Next}
use Rattle.decide.specs.declared.Next.TheVariants.{Value, End}
use Rattle.decide.specs.Coming.{Coming, halt, ends, go, coming_by_index, next_low, next_out, PastNext, NextAt}
use Rattle.fill.specs.Numbers.{Begins}
use Rattle.fill.specs.Rows.{Follows, Ended}
use Rattle.fill.proofs.Begins.{unnamed, read_is}
use Rattle.reading.specs.declared.Refusal.{Refusal}

-- the place that an answer leads to
place_of : Coming → ℕ
place_of (halt r) = 0
place_of (ends s) = s.at
place_of (go j s) = s.at

module _ (o : List ℕ) {s : State} where
  is-value : (x : Bool) (count low at : ℕ) (g : Result Next Refusal) {j : ℕ} → PastNext o x count low at g → next_out o unnamed g ≡ go j s → g ≡ Ok (Value s.at j (next_low x j low))
  unfolding place_of stand
  is-value x count low at (Ok (Value next i k)) {j} p e = let a : i ≡ j = cc in rw p.4 (ap₂ (λ (y z : ℕ). Ok (Value y z (next_low x z low))) (ap place_of e) a)
  is-value x count low at (Ok (End next)) p e = cc
  is-value x count low at (Err r) p e = cc

  is-end : (g : Result Next Refusal) → next_out o unnamed g ≡ ends s → g ≡ Ok (End s.at)
  unfolding place_of stand
  is-end (Ok (Value next i k)) e = cc
  is-end (Ok (End next)) e = ap (λ (y : ℕ). Ok (End y)) (ap place_of e)
  is-end (Err r) e = cc

index-go : (at top low j : ℕ) (s : State) → low ≤ j → j < top → coming_by_index at top low (got (pos j) s) ≡ go j s
index-go at top low j s a b = rw (le-leb low j a, lt-ltb j top b)

module _ {o : List ℕ} {paired : Bool} {count low at : ℕ} {g : Result Next Refusal} where
  follows_by : (x : Bool) → NextAt o x paired count low at g → (j : ℕ) → Follows x paired count low j → Begins o at (index x (pos j)) → g ≡ Ok (Value (at + length (index x (pos j))) j (next_low x j low))
  unfolding stand
  follows_by true next j f b =
      is-value o true count low at g next.past (next.same unnamed ∙ ap (coming_by_index at count low) (read_is (integer-does wide32 enough32 (pos j) unnamed f.2) b) ∙ index-go at count low j _ f.0 f.1)
  follows_by false next j f b = is-value o {s = stand o at unnamed} false count low at g {j = j} next.past (next.same unnamed ∙ rw (lt-ltb low count f.0, f.1)) ∙ rw add-zero

  ended_by : (x : Bool) → NextAt o x paired count low at g → Ended x count low → Begins o at (index x (negsuc 0)) → g ≡ Ok (End (at + length (index x (negsuc 0))))
  unfolding stand
  ended_by true next f b = is-end o g (next.same unnamed ∙ ap (coming_by_index at count low) (read_is (integer-does wide32 enough32 (negsuc 0) unnamed (omega arith)) b))
  ended_by false next f b = is-end o {s = stand o at unnamed} g (next.same unnamed ∙ rw (le-ltb low count (omega arith))) ∙ rw add-zero

  pub follows : {x : Bool} → NextAt o x paired count low at g → (j : ℕ) → Follows x paired count low j → Begins o at (index x (pos j)) → g ≡ Ok (Value (at + length (index x (pos j))) j (next_low x j low))
  follows {x} = follows_by x

  pub ended : {x : Bool} → NextAt o x paired count low at g → Ended x count low → Begins o at (index x (negsuc 0)) → g ≡ Ok (End (at + length (index x (negsuc 0))))
  ended {x} = ended_by x
