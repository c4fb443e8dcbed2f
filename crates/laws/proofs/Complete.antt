-- A valid value is read from its spelling, whatever follows.
use mathlib.Core.Path.{◌≡◌, refl, sym, ap, ◌∙◌, subst}
use mathlib.Core.Bool.{Bool, true, false}
use mathlib.Core.Logic.{◌↔◌}
use mathlib.Core.List.{List, [], ◌++◌, append_assoc, append-nil}
use Prim.Native.Nat.{ℕ, zero, suc, ◌+◌, ◌^◌, ◌<◌, ◌≤◌}
use native.Mathlib.Omega.{arith}
use lib.ListN.{length}
use lib.Dec.{lit<, lit≤}
use lib.IntN.{ℤ, pos, negsuc}
use lib.Signed.{mag}
use borrow.Author.Tests.{lt-ltb, le-leb}
use Rattle.reading.specs.Reading.{Env, got}
use Rattle.reading.proofs.Sound.{Octets}
use Rattle.reading.proofs.Does.{Does, d-bind, d-here, d-names, d-require, d-ret, d-rename, d-must, d-as, d-either-true, d-either-false}
use Rattle.integer.specs.Packed.{wide32}
use Rattle.integer.proofs.Laws.{enough32, integer-does}
use Rattle.format.specs.Types.{Holds, nothing, values, couples, indexes, properties, one, parts, Names, silent, gives, refers, Kind, kind_of}
use Rattle.format.specs.Values.{Head, Children, empty, child, Value, value, Form, whole, bare, Rule, counted, rising, moments, label, rule_by, rule_of, most_identities, begun, closed, allow, enter, leave, Inner, each, turns, pairs, children, front, levels, data_of, outermost}
use Rattle.format.specs.Spelling.{data_by, indexed, spell_children, spell}
use Rattle.format.specs.Message.{ok, most_octets, whole_message, message}
use Rattle.format.specs.Grammar.{Number, Good, Formed, Held, Fits, Shaped, Leveled, Deep, Allowed, opens, closes, after, Named, Valid}
use Rattle.laws.specs.Words.{fresh}
use Rattle.laws.proofs.Types.{all-workable, sized, all-sized, amount-fits}
use Rattle.laws.proofs.Leaves.{number-does, element-does, contents-does}
use Rattle.laws.proofs.Moments.{parts-of, moment-does, pieces-spelt, pieces-after}
use Rattle.laws.proofs.Sound.{owned, unowned, tail, spell-tail}
use Rattle.laws.proofs.Steps.{reads_so}
use Rattle.laws.proofs.Messages.{whole-so, accepted-is}

-- ---- heads and identities

front-does : (h : Head) (e : Env) → Good (kind_of h.ty) h → Does (front (kind_of h.ty) h.ty h.own) e (data_by (kind_of h.ty) h) h e
unfolding front
front-does h e g =
    let k = kind_of h.ty in
    d-bind _ (element-does k.first h.first e g.first_good) (d-bind _ (element-does k.second h.second e g.second_good)
    (d-bind _ (number-does k.datum h.number e (all-workable h.ty) g.number_good)
    (d-as (append-nil h.text) refl refl (d-bind _ (contents-does k.text h.number h.text e g.text-good) (d-ret h)))))

allow-does : (y : Names) (n p : ℕ) (e : Env) → Allowed y n e → Does (allow y n p e) e [] tt e
unfolding allow
allow-does silent n p e a = d-ret tt
allow-does gives n p e a = d-require _ _ _ _ (rw a.0) (d-must _ _ _ (lt-ltb (length e.opened) most_identities a.1))
allow-does refers n p e a = d-must _ _ _ a

enter-does : (y : Names) (n p : ℕ) (e : Env) → Allowed y n e → Does (enter y n p) e [] tt (begun y n e)
unfolding enter
enter-does y n p e a = d-names _ (d-bind _ (allow-does y n p e a) (d-rename _))

leave-does : (y : Names) (n : ℕ) (e : Env) → Does (leave y n) e [] tt (closed y n e)
unfolding leave
leave-does y n e = d-names _ (d-rename _)

-- ---- what is demanded of a value, with lv levels left and the identities e before it

pub record Legal (lv : ℕ) (e : Env) (v : Value) : Type 0 where
  pub shaped : Shaped v
  pub some_left : 0 < lv
  pub deep : (n : ℕ) → lv ≡ suc n → Leveled (rule_of v.top) (Deep n v.inside)
  pub allowed : Allowed (kind_of v.top.ty).names (mag v.top.number) e
  pub named : Named (opens v.top e) v.inside

legal : (lv i : ℕ) (e : Env) (h : Head) (cs more : Children) → Shaped (value h cs) → Deep lv (child i h cs more) → Named e (child i h cs more) → Legal lv e (value h cs)
unfolding Deep Named
legal zero i e h cs more g d n = absurd d
legal (suc lv) i e h cs more g d n = record {
  shaped = g;
  some_left = omega arith;
  deep = λ m q. subst (λ (x : ℕ). Leveled (rule_of h) (Deep x cs)) (let z : lv ≡ m = omega arith in z) d.0;
  allowed = n.0;
  named = n.1;
}

deep_more : (lv i : ℕ) (h : Head) (cs more : Children) → Deep lv (child i h cs more) → Deep lv more
unfolding Deep
deep_more zero i h cs more d = absurd d
deep_more (suc lv) i h cs more d = d.1

-- the identities after a value
abbrev pub past : Env → Value → Env
past e v = closes v.top (after (opens v.top e) v.inside)

-- indexes below 2 ^ 31 are integers, and some can still come
abbrev Bounded : Rule → Type 0
Bounded (counted paired f g n i) = Unit {0}
Bounded (rising f top low) = (top ≤ 2 ^ 31) × (low ≤ top)
Bounded (moments d) = Unit {0}

bounded : (h : Head) → Good (kind_of h.ty) h → Bounded (rule_of h)
unfolding rule_of
bounded h g = by (kind_of h.ty) (kind_of h.ty).holds (all-sized h.ty) g.number_good
  where
    by : (k : Kind) (y : Holds) → sized y k.datum ≡ true → Number k.datum h.number → Bounded (rule_by k y h)
    by k nothing s n = tt
    by k values s n = tt
    by k couples s n = tt
    by k indexes s n = let small : mag h.number < 2 ^ 31 = amount-fits k.datum h.number s n in (omega arith, omega arith)
    by k properties s n = (lit≤ tt, omega arith)
    by k one s n = tt
    by k (parts d) s n = tt

abbrev Does-inner : ℕ → Inner → Type 0
Does-inner lv inner = (p : ℕ) (e : Env) (v : Value) → Legal lv e v → Does (inner v.top.ty v.top.own p) e (tail v) v (past e v)

module _ (lv : ℕ) (inner : Inner) (inner-does : Does-inner lv inner) where
  each-does : (f : Form) (e : Env) (v : Value) → Formed f v.top → Legal lv e v → Does (each inner f) e (spell v) v (past e v)
  unfolding each
  each-does (whole once) e v w g = d-as (spell-tail v _ (owned v.top w.has_own)) refl refl
      (d-here _ λ p. d-bind _ (integer-does wide32 enough32 v.top.ty e w.ty_fits) (d-require _ _ _ _ w.ty_carried (d-require _ _ _ _ w.ty_may
      (subst (λ (o : ℕ). Does (inner v.top.ty o p) e (tail v) v (past e v)) w.has_own (inner-does p e v g)))))
  each-does (bare t) e v w g = d-as (spell-tail v _ (unowned v.top w.0)) refl refl
      (d-here _ λ p. subst (λ (o : ℕ). Does (inner t o p) e (tail v) v (past e v)) w.0 (subst (λ (x : ℤ). Does (inner x v.top.own p) e (tail v) v (past e v)) w.1 (inner-does p e v g)))

  turns-does : (paired : Bool) (f g : Form) (n i : ℕ) (e : Env) (cs : Children) → Fits (counted paired f g n i) cs → Deep lv cs → Named e cs → Does (turns inner paired f g n i) e (spell_children false cs) cs (after e cs)
  unfolding turns spell_children spell Fits Named after
  turns-does paired f g zero i e empty q d l = d-ret empty
  turns-does paired f g zero i e (child j h cs more) q d l = absurd (omega (arith, q.0.0))
  turns-does paired f g (suc n) i e empty q d l = absurd (omega (arith, q))
  turns-does paired f g (suc n) i e (child j h cs more) q d l =
      d-as (ap (λ (x : List ℕ). spell (value h cs) ++ x) (append-nil (spell_children false more)) ∙ simp append_assoc) (ap (λ (x : ℕ). child x h cs more) (sym q.0.1)) refl
      (d-bind _ (each-does f e (value h cs) q.0.2 (legal lv j e h cs more (record { good = q.1; held = q.2 }) d l))
      (d-bind _ (turns-does paired g f n (suc i) (past e (value h cs)) more q.3 (deep_more lv j h cs more d) l.2) (d-ret (child (label paired i) h cs more))))

  pairs-does : (f : Form) (k top low : ℕ) (e : Env) (cs : Children) → top ≤ 2 ^ 31 → low ≤ top → top < low + k → Fits (rising f top low) cs → Deep lv cs → Named e cs
      → Does (pairs inner f k top low) e (spell_children true cs) cs (after e cs)
  unfolding pairs spell_children spell Fits Named after
  pairs-does f zero top low e cs b c g q d l = absurd (omega arith)
  pairs-does f (suc k) top low e empty b c g q d l = d-here _ λ p. d-as (append-nil _) refl refl (d-bind _ (integer-does wide32 enough32 (negsuc 0) e (lit< tt)) (d-either-true _ _ _ refl (d-ret empty)))
  pairs-does f (suc k) top low e (child j h cs more) b c g q d l =
      let jt : j < top = q.0.1 in
      let lj : low ≤ j = q.0.0 in
      d-here _ λ p. d-bind _ (integer-does wide32 enough32 (pos j) e (omega arith)) (d-either-false _ _ _ refl (d-require _ _ _ _ refl (d-require _ _ _ _ (le-leb low j lj) (d-require _ _ _ _ (lt-ltb j top jt)
      (d-as (ap (λ (x : List ℕ). spell (value h cs) ++ x) (append-nil (spell_children true more)) ∙ simp append_assoc) refl refl
      (d-bind _ (each-does f e (value h cs) q.0.2 (legal lv j e h cs more (record { good = q.1; held = q.2 }) d l))
      (d-bind _ (pairs-does f k top (suc j) (past e (value h cs)) more b jt (omega arith) q.3 (deep_more lv j h cs more d) l.2) (d-ret (child j h cs more)))))))))

  children-does : (r : Rule) (e : Env) (cs : Children) → Bounded r → Held r cs (Fits r cs) → Leveled r (Deep lv cs) → Named e cs → Does (children inner r) e (spell_children (indexed r) cs) cs (after e cs)
  unfolding children
  children-does (counted paired f g n i) e cs b q d l = turns-does paired f g n i e cs q d l
  children-does (rising f top low) e cs b q d l = pairs-does f (suc top) top low e cs b.0 b.1 (omega arith) q d l
  children-does (moments d) e cs b q deep l =
      subst (λ (x : Children). Does (children inner (moments d)) e (spell_children false x) x (after e x)) (sym q.are_pieces)
      (d-as (append-nil _ ∙ sym (pieces-spelt 0 (parts-of d q))) refl (sym (pieces-after 0 (parts-of d q) e)) (d-bind _ (moment-does d q e) (d-ret _)))

pub data-does : (lv : ℕ) → Does-inner lv (data_of lv)
unfolding data_of
data-does zero p e v g = absurd (omega (arith, g.some_left))
data-does (suc lv) p e v g =
    let k = kind_of v.top.ty in
    let w = children-does lv (data_of lv) (data-does lv) (rule_of v.top) (opens v.top e) v.inside (bounded v.top g.shaped.good) g.shaped.held (g.deep lv refl) g.named in
    d-here _ λ q. d-as (ap (λ (x : List ℕ). data_by k v.top ++ x) (append-nil _)) refl refl
    (d-bind _ (front-does v.top e g.shaped.good) (d-bind _ (enter-does k.names (mag v.top.number) q e g.allowed) (d-bind _ w (d-bind _ (leave-does k.names (mag v.top.number) _) (d-ret v)))))

-- ---- messages

pub outermost-does : (v : Value) → Valid v → Does outermost fresh (spell v) v (past fresh v)
unfolding outermost
outermost-does v a = each-does levels (data_of levels) (data-does levels) (whole false) fresh v a.outermost (legal levels 0 fresh v.top v.inside empty a.shaped a.deep a.named)

-- and then nothing is left over
pub whole-does : (v : Value) (at : ℕ) → Valid v → whole_message (record { at = at; left = spell v; env = fresh }) ≡ got v (record { at = at + length (spell v); left = []; env = past fresh v })
whole-does v at a = whole-so _ _ v (ap (λ (l : List ℕ). outermost (record { at = at; left = l; env = fresh })) (sym (append-nil (spell v))) ∙ (outermost-does v a).does at []) refl

pub valid-accepted : (v : Value) → Valid v → length (spell v) ≤ most_octets → message (spell v) ≡ ok v
unfolding message
valid-accepted v a short = reads_so whole_message (spell v) v (record { short = short; state = _; read = whole-does v 0 a })

-- octets are accepted exactly if they are the spelling of a valid value, of at most 65,535 octets
pub accepted-exactly : (o : List ℕ) (v : Value) → Octets o → message o ≡ ok v ↔ (Valid v × (spell v ≡ o) × (length o ≤ most_octets))
accepted-exactly o v x = (
  λ e. let a = accepted-is o v x e in (a.valid, a.spelt, a.short),
  λ h. subst (λ (l : List ℕ). message l ≡ ok v) h.1 (valid-accepted v h.0 (subst (λ (l : List ℕ). length l ≤ most_octets) (sym h.1) h.2)),
)
