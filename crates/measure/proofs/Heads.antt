-- The type of a value, as the code finds it.
use mathlib.Core.Path.{◌≡◌, refl, sym, ap, subst, ◌∙◌}
use mathlib.Core.Bool.{Bool, true, false}
use mathlib.Core.List.{List}
use mathlib.Core.Logic.{◌⊎◌, inl, inr}
use Prim.Native.Nat.{ℕ, ◌<◌, ◌≤◌}
use native.Mathlib.Omega.{arith}
use lib.ListN.{length}
use lib.IntN.{ℤ, negsuc}
use lib.Signed.{lt_z}
use Rattle.std.specs.Prelude.{Ok, Err}
use Rattle.reading.proofs.Tests.{and_left}
use Rattle.reading.specs.declared.Refusal.{Refusal}
use Rattle.reading.specs.Reading.{Env, State, Out, stop, stand, follow, ◌>>=◌, here, require}
use Rattle.integer.specs.Packed.{wide32, integer}
use Rattle.format.specs.Types.{kind_of}
use Rattle.format.specs.Values.{whole, bare, Inner, each}
use Rattle.format.specs.Values.{Form as Forms}
use Rattle.decide.specs.declared.Form.{Form}
use Rattle.decide.specs.declared.Form.TheVariants.{Whole, Named, Bare, Sized, Packed}
use Rattle.decide.specs.Classes.{elementary}
use Rattle.decide.specs.Forms.{Says, known, says, own_by, own_of, IdentifierIs, BareIs, TypedBy, TypedAt}
use Rattle.measure.specs.Plans.{once_of, Means, Stands, judged}

-- a value in a form f at a place, whose data are read from another place on: the type is judged there, and lies before its data or is an element type
pub record Headed (o : List ℕ) (f : Forms) (at from own : ℕ) (t : ℤ) (once : Bool) : Type 0 where
  pub further : at ≤ from
  pub within : from ≤ length o
  pub later : (at < from) ⊎ (elementary t ≡ true)
  pub judges : (inner : Inner) (e : Env) → each inner f (stand o at e) ≡ judged inner once t own at (stand o from e)

-- by the identifier
by-identifier : (once : Bool) (o : List ℕ) (at : ℕ) (inner : Inner) (e : Env) → each inner (whole once) (stand o at e) ≡ follow (integer wide32 (stand o at e)) (λ t. judged inner once t 1 at)
unfolding each judged ◌>>=◌ here stand
by-identifier once o at inner e = refl

whole-headed : (once : Bool) {o : List ℕ} {at from : ℕ} {t : ℤ} → IdentifierIs o at (Ok (from, t)) → Headed o (whole once) at from 1 t once
whole-headed once {o} {at} {from} {t} i = record {
  further = omega (arith, i.0);
  within = i.1;
  later = inl i.0;
  judges = λ inner e. by-identifier once o at inner e ∙ ap (λ (y : Out ℤ). follow y (λ t. judged inner once t 1 at)) (i.2 e);
}

-- a bare value is not judged: its type was
unjudged : (inner : Inner) (t : ℤ) (own p : ℕ) (s : State) → elementary t ≡ true → judged inner false t own p s ≡ inner t own p s
unfolding judged ◌>>=◌ require
unjudged inner t own p s e = rw (and_left (kind_of t).carried (lt_z (negsuc 30) t) e)

bare-headed : {o : List ℕ} {at from : ℕ} {s t : ℤ} → at ≤ length o → BareIs t at (Ok (from, s)) → elementary t ≡ true → Headed o (bare t) at from 0 s false
unfolding each ◌>>=◌ here stand
bare-headed {o} {at} {from} {s} {t} h i k = rw (i.0, i.1) record {
  further = omega arith;
  within = h;
  later = inr k;
  judges = λ inner e. sym (unjudged inner t 0 at (stand o at e) k);
}

bare-once : (w : Form) (t : ℤ) → says w ≡ known t → once_of w ≡ false
bare-once Whole t e = refl
bare-once Named t e = let z : ◌≡◌ {A = ℕ} 0 1 = cc in absurd (omega arith)
bare-once (Bare a) t e = refl
bare-once (Sized n a) t e = refl
bare-once (Packed b a) t e = refl

pub headed : {o : List ℕ} {w : Form} {at from : ℕ} {t : ℤ} → at ≤ length o → TypedAt o w at (Ok (from, t)) → (f : Forms) → Stands w f → Headed o f at from (own_of w) t (once_of w)
headed {o} {w} {at} {from} {t} h typed f s = by f s.means
  where
    typed-by : {y : Says} → says w ≡ y → TypedBy o y at (Ok (from, t))
    typed-by e = subst (λ (y : Says). TypedBy o y at (Ok (from, t))) e typed.is

    by : (f : Forms) → Means w f → Headed o f at from (own_by (says w)) t (once_of w)
    by (whole once) m = rw (m.0, m.1) (whole-headed once (typed-by m.0))
    by (bare u) m = rw (m.0, bare-once w u m.0) (bare-headed h (typed-by m.0) m.1)

pub odd : {o : List ℕ} {w : Form} {at : ℕ} {r : Refusal} → TypedAt o w at (Err r) → (f : Forms) → Stands w f → (inner : Inner) (e : Env) → each inner f (stand o at e) ≡ stop r
odd {o} {w} {at} {r} typed f s inner e = by f s.means
  where
    typed-by : {y : Says} → says w ≡ y → TypedBy o y at (Err r)
    typed-by q = subst (λ (y : Says). TypedBy o y at (Err r)) q typed.is

    by : (f : Forms) → Means w f → each inner f (stand o at e) ≡ stop r
    by (whole once) m = by-identifier once o at inner e ∙ ap (λ (y : Out ℤ). follow y (λ t. judged inner once t 1 at)) (typed-by m.0 e)
    by (bare u) m = absurd (typed-by m.0)
