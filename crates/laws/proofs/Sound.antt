-- What is read is spelt so, would be read again whatever follows, and is of the grammar.
use mathlib.Core.Path.{◌≡◌, refl, sym, ap, ◌∙◌, subst, ap₂}
use mathlib.Core.Bool.{Bool, true, false}
use mathlib.Core.List.{List, [], ◌++◌, append_assoc, append-nil}
use Prim.Native.Nat.{ℕ, zero, suc}
use native.Mathlib.Omega.{arith}
use lib.ListN.{length}
use lib.IntN.{ℤ, pos, negsuc}
use lib.Signed.{mag}
use borrow.Author.Tests.{ltb-true, leb-true, eq-eqb, ne_eqb, not-true}
use Rattle.reading.specs.Reading.{Env, State}
use Rattle.reading.proofs.Sound.{Sound, s-bind, s-stop, s-either, s-weaken, s-here, s-names, s-require, s-ret, s-rename, s-must, s-leaf}
use Rattle.integer.specs.Packed.{wide32, spell_int}
use Rattle.integer.proofs.Laws.{integer-leaf}
use Rattle.format.specs.Types.{Names, silent, gives, refers, kind_of}
use Rattle.format.specs.Values.{Head, Children, empty, child_of, Value, Form, whole, bare, Rule, counted, rising, moments, label, rule_of, most_identities, has, begun, closed, allow, enter, leave, Inner, may, each, turns, pairs, children, front, levels, data_of, outermost}
use Rattle.format.specs.Spelling.{identifier, data_by, fore, indexed, index, spell_children, spell}
use Rattle.format.specs.Grammar.{Int32, Good, Whole, Formed, Allows, next, Held, Fits, Shaped, Leveled, Deep, Allowed, after, Named}
use Rattle.laws.proofs.Tests.{eq_z-true, pos-mag}
use Rattle.laws.proofs.Types.{all-workable}
use Rattle.laws.proofs.Leaves.{number-leaf, element-leaf, contents-leaf}
use Rattle.laws.proofs.Moments.{moment-leaf, pieces-spelt, pieces-named, pieces-after}

-- ---- heads and identities

pub front-sound : (t : ℤ) (o : ℕ) (s : State) → Sound (front (kind_of t) t o) s (λ h s' u. (h.ty ≡ t) × (h.own ≡ o) × (u ≡ data_by (kind_of t) h) × Good (kind_of t) h × (s'.env ≡ s.env))
unfolding front
front-sound t o s =
    s-leaf _ (element-leaf (kind_of t).first) λ e at₁ m₁ q₁. s-leaf _ (element-leaf (kind_of t).second) λ f at₂ m₂ q₂.
    s-leaf _ (number-leaf (kind_of t).datum (all-workable t)) λ n at₃ m₃ q₃. s-leaf _ (contents-leaf (kind_of t).text n) λ l at₄ m₄ q₄.
    s-ret _ (refl, refl, simp append-nil, record { first_good = q₁; second_good = q₂; number_good = q₃; text-good = q₄ }, refl)

pub allow-sound : (y : Names) (n p : ℕ) (e : Env) (s : State) → Sound (allow y n p e) s (λ _ s' u. (u ≡ []) × (s'.env ≡ s.env) × Allowed y n e)
unfolding allow
allow-sound silent n p e s = s-ret _ (refl, refl, tt)
allow-sound gives n p e s = s-require _ _ _ _ λ a. s-must _ _ _ λ b. (refl, refl, (not-true (has n e.opened) a, ltb-true (length e.opened) most_identities b))
allow-sound refers n p e s = s-must _ _ _ λ a. (refl, refl, a)

pub enter-sound : (y : Names) (n p : ℕ) (s : State) → Sound (enter y n p) s (λ _ s' u. (u ≡ []) × (s'.env ≡ begun y n s.env) × Allowed y n s.env)
unfolding enter
enter-sound y n p s = s-names _ (s-bind (allow-sound y n p s.env s) λ _ s₁ u₁ q. s-rename _ (append-nil u₁ ∙ q.0, refl, q.2))

pub leave-sound : (y : Names) (n : ℕ) (s : State) → Sound (leave y n) s (λ _ s' u. (u ≡ []) × (s'.env ≡ closed y n s.env))
unfolding leave
leave-sound y n s = s-names _ (s-rename _ (refl, refl))

pub owned : (h : Head) → h.own ≡ 1 → identifier h ≡ spell_int h.ty
owned h e = rw (eq-eqb h.own 1 e)

pub unowned : (h : Head) → h.own ≡ 0 → identifier h ≡ []
unowned h e = rw (ne_eqb h.own 1 (omega arith))

-- what is spelt after the identifier
abbrev pub tail : Value → List ℕ
tail v = data_by (kind_of v.top.ty) v.top ++ spell_children (indexed (rule_of v.top)) v.inside

pub spell-tail : (v : Value) (l : List ℕ) → identifier v.top ≡ l → l ++ tail v ≡ spell v
unfolding spell fore
spell-tail v l e = rw (← e) (sym (append_assoc (identifier v.top) (data_by (kind_of v.top.ty) v.top) (spell_children (indexed (rule_of v.top)) v.inside)))

-- ---- what a reading of values gives, with the identities e before it and e' after it

-- a value with lv levels left
pub record One (lv : ℕ) (e : Env) (v : Value) (e' : Env) : Type 0 where
  pub shaped : Shaped v
  pub deep : Deep lv (child_of 0 v empty)
  pub named : Named e (child_of 0 v empty)
  pub env_is : e' ≡ after e (child_of 0 v empty)

-- its data
pub record Body (lv : ℕ) (t : ℤ) (o : ℕ) (e : Env) (v : Value) (e' : Env) (u : List ℕ) : Type 0 where
  pub ty_is : v.top.ty ≡ t
  pub own_is : v.top.own ≡ o
  pub spelt_is : identifier v.top ++ u ≡ spell v
  pub is_one : One lv e v e'

-- values one after another, which fit (F) and stand so deep (D)
pub record Several (F D : Type 0) (x : Bool) (e : Env) (cs : Children) (e' : Env) (u : List ℕ) : Type 0 where
  pub spelt_is : u ≡ spell_children x cs
  pub fits : F
  pub deep : D
  pub named : Named e cs
  pub env_is : e' ≡ after e cs

-- the values inside a value
abbrev pub Inside : ℕ → Rule → Env → Children → Env → List ℕ → Type 0
Inside lv r e cs e' u = Several (Held r cs (Fits r cs)) (Leveled r (Deep lv cs)) (indexed r) e cs e' u

abbrev pub Sound-inner : ℕ → Inner → Type 0
Sound-inner lv inner = (t : ℤ) (o p : ℕ) (s : State) → Sound (inner t o p) s (λ v s' u. Body lv t o s.env v s'.env u)

deeper : (lv i : ℕ) (v : Value) (more : Children) → Deep lv (child_of 0 v empty) → Deep lv more → Deep lv (child_of i v more)
unfolding Deep
deeper zero i v more d m = d
deeper (suc n) i v more d m = (d.0, m)

empty-deep : (lv : ℕ) → Deep lv empty
unfolding Deep
empty-deep zero = tt
empty-deep (suc lv) = tt

module _ (lv : ℕ) (inner : Inner) (inner-sound : Sound-inner lv inner) where
  pub each-sound : (f : Form) (s : State) → Sound (each inner f) s (λ v s' u. Formed f v.top × (u ≡ spell v) × One lv s.env v s'.env)
  unfolding each
  each-sound (whole once) s = s-here _ (s-leaf _ (integer-leaf wide32) λ t at l k. s-require _ _ _ _ λ a. s-require _ _ _ _ λ b. s-weaken (step t k a b) (inner-sound t 1 s.at _))
    where
      step : (t : ℤ) → Int32 t → (kind_of t).carried ≡ true → may once (kind_of t).names ≡ true → (v : Value) (s' : State) (u : List ℕ) → Body lv t 1 s.env v s'.env u
          → Whole once v.top × (spell_int t ++ u ≡ spell v) × One lv s.env v s'.env
      step t k a b v s' u q =
          let w : identifier v.top ≡ spell_int v.top.ty = owned v.top q.own_is in
          let ty : v.top.ty ≡ t = q.ty_is in (
            record { has_own = q.own_is; ty_fits = subst Int32 (sym ty) k; ty_carried = ap (λ (x : ℤ). (kind_of x).carried) ty ∙ a; ty_may = ap (λ (x : ℤ). may once (kind_of x).names) ty ∙ b },
            ap (λ (x : ℤ). spell_int x ++ u) (sym ty) ∙ ap (λ (x : List ℕ). x ++ u) (sym w) ∙ q.spelt_is,
            q.is_one,
          )
  each-sound (bare t) s = s-here _ (s-weaken (λ v s' u q. ((q.own_is, q.ty_is), ap (λ (x : List ℕ). x ++ u) (sym (unowned v.top q.own_is)) ∙ q.spelt_is, q.is_one)) (inner-sound t 0 s.at s))

  -- a value and those after it
  more-sound : (x : Bool) (r : Rule) (i : ℕ) (v : Value) (cs : Children) (e e₁ e' : Env) (u₁ u₂ : List ℕ) → Allows r i v.top → u₁ ≡ spell v → One lv e v e₁ → Several (Fits (next r i) cs) (Deep lv cs) x e₁ cs e' u₂
      → Several (Fits r (child_of i v cs)) (Deep lv (child_of i v cs)) x e (child_of i v cs) e' (index x (pos i) ++ (u₁ ++ (u₂ ++ [])))
  unfolding spell_children spell Fits Named after
  more-sound x r i v cs e e₁ e' u₁ u₂ a h q w = record {
    spelt_is = ap₂ (λ (m n : List ℕ). index x (pos i) ++ (m ++ n)) h (append-nil u₂ ∙ w.spelt_is) ∙ simp append_assoc;
    fits = (a, q.shaped.good, q.shaped.held, w.fits);
    deep = deeper lv i v cs q.deep w.deep;
    named = (q.named.0, q.named.1, subst (λ (z : Env). Named z cs) q.env_is w.named);
    env_is = w.env_is ∙ ap (λ (z : Env). after z cs) q.env_is;
  }

  pub turns-sound : (paired : Bool) (f g : Form) (n i : ℕ) (s : State) → Sound (turns inner paired f g n i) s (λ cs s' u. Inside lv (counted paired f g n i) s.env cs s'.env u)
  unfolding turns spell_children Fits Named after
  turns-sound paired f g zero i s = s-ret _ (record { spelt_is = refl; fits = refl; deep = empty-deep lv; named = tt; env_is = refl })
  turns-sound paired f g (suc n) i s = s-bind (each-sound f s) λ v s₁ u₁ q. s-bind (turns-sound paired g f n (suc i) s₁) λ cs s₂ u₂ w.
      s-ret _ (more-sound false (counted paired f g (suc n) i) (label paired i) v cs s.env s₁.env s₂.env u₁ u₂ (omega arith, refl, q.0) q.1 q.2 w)

  pub pairs-sound : (f : Form) (k top low : ℕ) (s : State) → Sound (pairs inner f k top low) s (λ cs s' u. Inside lv (rising f top low) s.env cs s'.env u)
  unfolding pairs spell_children Fits Named after
  pairs-sound f zero top low s = s-stop _ _
  pairs-sound f (suc k) top low s = s-here _ (s-leaf _ (integer-leaf wide32) λ z at l b. s-either _ _ _
      (λ e. s-ret _ (record { spelt_is = append-nil _ ∙ ap spell_int (eq_z-true z (negsuc 0) e); fits = tt; deep = empty-deep lv; named = tt; env_is = refl }))
      λ e. s-require _ _ _ _ λ t. s-require _ _ _ _ λ t'. s-require _ _ _ _ λ t''. s-bind (each-sound f _) λ v s₁ u₁ q. s-bind (pairs-sound f k top (suc (mag z)) s₁) λ cs s₂ u₂ w.
      s-ret _ (subst (λ (y : ℤ). Inside lv (rising f top low) s.env (child_of (mag z) v cs) s₂.env (spell_int y ++ (u₁ ++ (u₂ ++ [])))) (pos-mag z t)
      (more-sound true (rising f top low) (mag z) v cs s.env s₁.env s₂.env u₁ u₂ (leb-true low (mag z) t', ltb-true (mag z) top t'', q.0) q.1 q.2 w)))

  pub children-sound : (r : Rule) (s : State) → Sound (children inner r) s (λ cs s' u. Inside lv r s.env cs s'.env u)
  unfolding children
  children-sound (counted paired f g n i) s = turns-sound paired f g n i s
  children-sound (rising f top low) s = pairs-sound f (suc top) top low s
  children-sound (moments d) s = s-leaf _ (moment-leaf d) λ l at m q.
      s-ret _ (record { spelt_is = append-nil _ ∙ sym (pieces-spelt 0 l); fits = q; deep = tt; named = pieces-named 0 l s.env; env_is = sym (pieces-after 0 l s.env) })

pub data-sound : (lv : ℕ) → Sound-inner lv (data_of lv)
unfolding data_of spell fore Deep Named after
data-sound zero t o p s = s-stop _ _
data-sound (suc lv) t o p s =
    s-here _ (s-bind (front-sound t o s) λ h s₁ u₁ q₁. s-bind (enter-sound (kind_of t).names (mag h.number) s.at s₁) λ _ s₂ u₂ q₂.
    s-bind (children-sound lv (data_of lv) (data-sound lv) (rule_of h) s₂) λ cs s₃ u₃ q₃. s-bind (leave-sound (kind_of t).names (mag h.number) s₃) λ _ s₄ u₄ q₄.
    let y : kind_of h.ty ≡ kind_of t = ap kind_of q₁.0 in
    let e₂ : s₂.env ≡ begun (kind_of t).names (mag h.number) s.env = q₂.1 ∙ ap (begun (kind_of t).names (mag h.number)) q₁.4 in
    s-ret _ (record {
      ty_is = q₁.0;
      own_is = q₁.1;
      spelt_is = rw (q₂.0, q₄.0, append-nil u₃, q₁.2, q₃.spelt_is, y) (simp append_assoc);
      is_one = record {
        shaped = record { good = rw y q₁.3; held = q₃.fits };
        deep = (q₃.deep, tt);
        named = rw y (subst (Allowed (kind_of t).names (mag h.number)) q₁.4 q₂.2, subst (λ (z : Env). Named z cs) e₂ q₃.named, tt);
        env_is = rw y (q₄.1 ∙ ap (closed (kind_of t).names (mag h.number)) (q₃.env_is ∙ ap (λ (z : Env). after z cs) e₂));
      };
    }))

-- ---- the outermost value

pub outermost-sound : (s : State) → Sound outermost s (λ v s' u. Whole false v.top × (u ≡ spell v) × One levels s.env v s'.env)
unfolding outermost
outermost-sound s = each-sound levels (data_of levels) (data-sound levels) (whole false) s
