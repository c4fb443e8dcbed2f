-- What is passed, from what is read.
use mathlib.Core.Path.{◌≡◌, sym, ap, subst}
use mathlib.Core.List.{List, []}
use Prim.Native.Nat.{ℕ, ◌+◌, ◌<◌, ◌≤◌}
use native.Mathlib.Omega.{arith}
use lib.IntN.{ℤ}
use lib.ListN.{length, get_or}
use lib.Signed.{mag}
use Rattle.std.proofs.lemmas.List.{get_or-drop}
use Rattle.integer.proofs.Laws.{integer-leaf}
use Rattle.reading.specs.declared.Refusal.{Refusal}
use Rattle.reading.specs.Reading.{Env, Out, got, stop, Reader, stand, follow, ◌>>=◌, return}
use Rattle.std.specs.Prelude.{Result, Ok, Err}
use Rattle.integer.specs.Packed.{Width, integer}
use Rattle.integer.specs.Answers.{out, Past, Reads}
use Rattle.scalar.specs.Answers.{Passes}

module _ {A : Type 0} {least : ℕ} {o : List ℕ} {at : ℕ} {p : Reader A} where
  pub passes-got : {next : ℕ} (x : A) → ((e : Env) → p (stand o at e) ≡ got x (stand o next e)) → at + least ≤ next → next ≤ length o → Passes least o at p (Ok next)
  unfolding ◌>>=◌ return
  passes-got x h g k = record { same = λ e. sym (ap (λ (y : Out A). follow y (λ _. return tt)) (h e)); past = (g, k) }

  pub passes-stop : {r : Refusal} → ((e : Env) → p (stand o at e) ≡ stop r) → Passes least o at p (Err r)
  unfolding ◌>>=◌
  passes-stop h = record { same = λ e. sym (ap (λ (y : Out A). follow y (λ _. return tt)) (h e)); past = tt }

-- as an integer was read
module _ {A : Type 0} {number : A → ℤ} {w : Width} {o : List ℕ} {at : ℕ} {r : Result (ℕ × A) Refusal} (h : Reads number w o at r) where
  pub read-stop : {x : Refusal} → r ≡ Err x → (e : Env) → integer w (stand o at e) ≡ stop x
  read-stop q e = sym (subst (λ (r : Result (ℕ × A) Refusal). out number o e r ≡ integer w (stand o at e)) q (h.same e))

  pub passes-unread : {x : Refusal} → r ≡ Err x → Passes 1 o at (integer w) (Err x)
  passes-unread q = passes-stop (read-stop q)

  module _ {next : ℕ} {v : A} (q : r ≡ Ok (next, v)) where
    pub read-got : (e : Env) → integer w (stand o at e) ≡ got (number v) (stand o next e)
    read-got e = sym (subst (λ (r : Result (ℕ × A) Refusal). out number o e r ≡ integer w (stand o at e)) q (h.same e))

    pub read-past : (at < next) × (next ≤ length o)
    read-past = subst (Past o at) q h.past

    pub passes-read : Passes 1 o at (integer w) (Ok next)
    passes-read = passes-got (number v) read-got (omega (arith, read-past.0)) read-past.1

    -- where the octets are octets, it fits
    pub read-small : ((i : ℕ) → get_or o i 0 < 256) → mag (number v) < w.bound
    unfolding stand
    read-small small =
        let e : Env = record { opened = []; ended = [] } in
        ((integer-leaf w (stand o at e)).sound (λ i. rw (get_or-drop at o i 0) (small (at + i))) _ _ (read-got e)).2.1
