-- Octets that begin with the spelling of a value of the grammar's shape are read as that value, if they are read at all, be its levels and identities
-- as they may.
use mathlib.Core.Path.{refl, sym, ap, ◌∙◌, subst}
use mathlib.Core.Bool.{Bool, true, false}
use mathlib.Core.List.{List, [], ◌++◌, append_assoc, append-nil}
use Prim.Native.Nat.{ℕ, zero, suc}
use native.Mathlib.Omega.{arith}
use lib.IntN.{ℤ, pos, negsuc}
use Rattle.reading.specs.Reading.{Env}
use Rattle.reading.proofs.Only.{Only, o-bind, o-stop, o-either, o-here, o-names, o-require, o-ret, o-as, o-rename, o-must}
use Rattle.integer.specs.Packed.{wide32}
use Rattle.integer.proofs.Laws.{integer-only}
use Rattle.format.specs.Types.{Names, silent, gives, refers, kind_of}
use Rattle.format.specs.Values.{Head, Children, empty, child, Value, value, Form, whole, bare, Rule, counted, rising, moments, label, rule_of, allow, enter, leave, Inner, each, turns, pairs, children, front, levels, data_of, outermost}
use Rattle.format.specs.Spelling.{data_by, indexed, spell_children, spell}
use Rattle.format.specs.Grammar.{Good, Whole, Formed, Held, Fits, Shaped}
use Rattle.laws.proofs.Tests.{clash}
use Rattle.laws.proofs.Types.{all-workable}
use Rattle.laws.proofs.Leaves.{number-only, element-only, contents-only}
use Rattle.laws.proofs.Moments.{parts-of, moment-only, pieces-spelt}
use Rattle.laws.proofs.Sound.{owned, unowned, tail, spell-tail}

front-only : (h : Head) → Good (kind_of h.ty) h → Only (front (kind_of h.ty) h.ty h.own) (data_by (kind_of h.ty) h) h
unfolding front
front-only h g =
    let k = kind_of h.ty in
    o-bind _ (element-only k.first h.first g.first_good) (o-bind _ (element-only k.second h.second g.second_good)
    (o-bind _ (number-only k.datum h.number (all-workable h.ty) g.number_good)
    (o-as (append-nil h.text) refl (o-bind _ (contents-only k.text h.number h.text g.text-good) (o-ret h)))))

allow-only : (y : Names) (n p : ℕ) (e : Env) → Only (allow y n p e) [] tt
unfolding allow
allow-only silent n p e = o-ret tt
allow-only gives n p e = o-require _ _ _ _ λ _. o-must _ _ _
allow-only refers n p e = o-must _ _ _

enter-only : (y : Names) (n p : ℕ) → Only (enter y n p) [] tt
unfolding enter
enter-only y n p = o-names _ λ e. o-bind _ (allow-only y n p e) (o-rename _)

leave-only : (y : Names) (n : ℕ) → Only (leave y n) [] tt
unfolding leave
leave-only y n = o-names _ λ e. o-rename _

abbrev Only-inner : Inner → Type 0
Only-inner inner = (p : ℕ) (v : Value) → Shaped v → Only (inner v.top.ty v.top.own p) (tail v) v

module _ (inner : Inner) (inner-only : Only-inner inner) where
  each-only : (f : Form) (v : Value) → Formed f v.top → Shaped v → Only (each inner f) (spell v) v
  unfolding each
  each-only (whole once) v w g = o-as (spell-tail v _ (owned v.top w.has_own)) refl
      (o-here _ λ p. o-bind _ (integer-only wide32 v.top.ty) (o-require _ _ _ _ λ _. o-require _ _ _ _ λ _.
      subst (λ (o : ℕ). Only (inner v.top.ty o p) (tail v) v) w.has_own (inner-only p v g)))
  each-only (bare t) v w g = o-as (spell-tail v _ (unowned v.top w.0)) refl
      (o-here _ λ p. subst (λ (o : ℕ). Only (inner t o p) (tail v) v) w.0 (subst (λ (x : ℤ). Only (inner x v.top.own p) (tail v) v) w.1 (inner-only p v g)))

  turns-only : (paired : Bool) (f g : Form) (n i : ℕ) (cs : Children) → Fits (counted paired f g n i) cs → Only (turns inner paired f g n i) (spell_children false cs) cs
  unfolding turns spell_children spell Fits
  turns-only paired f g zero i empty q = o-ret empty
  turns-only paired f g zero i (child j h cs more) q = absurd (omega (arith, q.0.0))
  turns-only paired f g (suc n) i empty q = absurd (omega (arith, q))
  turns-only paired f g (suc n) i (child j h cs more) q =
      o-as (ap (λ (x : List ℕ). spell (value h cs) ++ x) (append-nil (spell_children false more)) ∙ simp append_assoc) (ap (λ (x : ℕ). child x h cs more) (sym q.0.1))
      (o-bind _ (each-only f (value h cs) q.0.2 (record { good = q.1; held = q.2 })) (o-bind _ (turns-only paired g f n (suc i) more q.3) (o-ret (child (label paired i) h cs more))))

  pairs-only : (f : Form) (k top low : ℕ) (cs : Children) → Fits (rising f top low) cs → Only (pairs inner f k top low) (spell_children true cs) cs
  unfolding pairs spell_children spell Fits
  pairs-only f zero top low cs q = o-stop _ _
  pairs-only f (suc k) top low empty q = o-here _ λ p. o-as (append-nil _) refl (o-bind _ (integer-only wide32 (negsuc 0)) (o-either true _ _ (λ _. o-ret empty) (λ e. clash e)))
  pairs-only f (suc k) top low (child j h cs more) q =
      o-here _ λ p. o-bind _ (integer-only wide32 (pos j)) (o-either false _ _ (λ e. clash (sym e)) (λ _. o-require _ _ _ _ λ _. o-require _ _ _ _ λ _. o-require _ _ _ _ λ _.
      o-as (ap (λ (x : List ℕ). spell (value h cs) ++ x) (append-nil (spell_children true more)) ∙ simp append_assoc) refl
      (o-bind _ (each-only f (value h cs) q.0.2 (record { good = q.1; held = q.2 })) (o-bind _ (pairs-only f k top (suc j) more q.3) (o-ret (child j h cs more))))))

  children-only : (r : Rule) (cs : Children) → Held r cs (Fits r cs) → Only (children inner r) (spell_children (indexed r) cs) cs
  unfolding children
  children-only (counted paired f g n i) cs q = turns-only paired f g n i cs q
  children-only (rising f top low) cs q = pairs-only f (suc top) top low cs q
  children-only (moments d) cs q =
      subst (λ (x : Children). Only (children inner (moments d)) (spell_children false x) x) (sym q.are_pieces)
      (o-as (append-nil _ ∙ sym (pieces-spelt 0 (parts-of d q))) refl (o-bind _ (moment-only d q) (o-ret _)))

data-only : (lv : ℕ) → Only-inner (data_of lv)
unfolding data_of
data-only zero p v g = o-stop _ _
data-only (suc lv) p v g =
    o-here _ λ q. o-as (ap (λ (x : List ℕ). data_by (kind_of v.top.ty) v.top ++ x) (append-nil _)) refl
    (o-bind _ (front-only v.top g.good) (o-bind _ (enter-only _ _ _) (o-bind _ (children-only (data_of lv) (data-only lv) (rule_of v.top) v.inside g.held) (o-bind _ (leave-only _ _) (o-ret v)))))

pub outermost-only : (v : Value) → Whole false v.top → Shaped v → Only outermost (spell v) v
unfolding outermost
outermost-only v w g = each-only (data_of levels) (data-only levels) (whole false) v w g
