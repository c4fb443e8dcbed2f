-- Writing gives exactly the octets that have the rows, and 14 exactly where there are none.
use mathlib.Core.Path.{◌≡◌, refl, sym, ap, ◌∙◌, subst}
use mathlib.Core.Bool.{Bool, true, false, cond, ◌&&◌}
use mathlib.Core.Logic.{◌↔◌}
use mathlib.Core.List.{List, [], ◌∷◌, ◌++◌, map}
use Prim.Native.Nat.{ℕ, ◌+◌, ◌≤◌}
use native.Mathlib.Omega.{arith}
use lib.ListN.{length, length-map}
use lib.Dec.{leb, eqb}
use lib.Signed.{mag}
use borrow.Author.Tests.{leb-true, eqb-true, eq-eqb}
use Rattle.reading.specs.declared.Refusal.{Refusal}
use Rattle.reading.specs.Reading.{refusal}
use Rattle.reading.proofs.Sound.{Octets}
use Rattle.format.specs.declared.Row.{Row}
use Rattle.format.specs.Types.{kind_of}
use Rattle.format.specs.Data.{eq_z, eq_list}
use Rattle.format.specs.Values.{Head, Children, empty, child, Value}
use Rattle.format.specs.Rows.{count, has_contents, rows}
use Rattle.format.specs.Message.{Answer, ok, refused, unless, most_octets, message}
use Rattle.format.specs.Writing.{Seen, seen, HasRows, spell_rows, eq_head, eq_seen, same_rows, written}
use Rattle.laws.specs.Words.{Lying, AllLie, Faultless}
use Rattle.reading.proofs.Tests.{and_left, and_right}
use Rattle.laws.proofs.Tests.{and_both, eq_z-true, eq_z-same, eq_list-true, eq_list-same}
use Rattle.laws.proofs.Types.{All}
use Rattle.laws.proofs.Steps.{not-ok}
use Rattle.laws.proofs.Messages.{accepted-is}
use Rattle.laws.proofs.Rows.{seens, seens-count, alone, message-seen, has-rows-spelt}
use Rattle.laws.proofs.Octets.{rows-octets}

-- ---- the comparison of rows

five : (a b c d e : Bool) → a && b && c && d && e ≡ true → (a ≡ true) × (b ≡ true) × (c ≡ true) × (d ≡ true) × (e ≡ true)
five a b c d e q =
    let q₁ = and_left (a && b && c && d) e q in
    let q₂ = and_left (a && b && c) d q₁ in
    let q₃ = and_left (a && b) c q₂ in
    (and_left a b q₃, and_right a b q₃, and_right (a && b) c q₂, and_right (a && b && c) d q₁, and_right (a && b && c && d) e q)

eq_head-true : (g h : Head) → eq_head g h ≡ true → g ≡ h
eq_head-true g h e =
    let q = five (eq_z g.ty h.ty && eqb g.own h.own) (eq_z g.number h.number) (eq_z g.first h.first) (eq_z g.second h.second) (eq_list eqb g.text h.text) e in
    let t = eq_z-true g.ty h.ty (and_left (eq_z g.ty h.ty) (eqb g.own h.own) q.0) in
    let o = eqb-true g.own h.own (and_right (eq_z g.ty h.ty) (eqb g.own h.own) q.0) in
    let n = eq_z-true g.number h.number q.1 in
    let f = eq_z-true g.first h.first q.2 in
    let s = eq_z-true g.second h.second q.3 in
    let x = eq_list-true eqb eqb-true g.text h.text q.4 in
    λ i. record { ty = t i; own = o i; number = n i; first = f i; second = s i; text = x i }

eq_head-same : (h : Head) → eq_head h h ≡ true
eq_head-same h = rw (eq_z-same h.ty, eq-eqb h.own h.own refl, eq_z-same h.number, eq_z-same h.first, eq_z-same h.second) (eq_list-same eqb h.text (λ x. eq-eqb x x refl))

eq_seen-true : (r s : Seen) → eq_seen r s ≡ true → r ≡ s
eq_seen-true r s e =
    let q = five (eqb r.label s.label) (eq_head r.what s.what) (eqb r.below s.below) r.placed s.placed e in
    let l = eqb-true r.label s.label q.0 in
    let w = eq_head-true r.what s.what q.1 in
    let b = eqb-true r.below s.below q.2 in
    let p = q.3 ∙ sym q.4 in
    λ i. record { label = l i; what = w i; below = b i; placed = p i }

eq_seen-same : (r : Seen) → r.placed ≡ true → eq_seen r r ≡ true
eq_seen-same r p = rw (eq-eqb r.label r.label refl, eq_head-same r.what, eq-eqb r.below r.below refl, p)

all_join : {A : Type 0} (p : A → Bool) (l m : List A) → All p l ≡ true → All p m ≡ true → All p (l ++ m) ≡ true
all_join p [] m a b = b
all_join p (x ∷ l) m a b = and_both (p x) (All p (l ++ m)) (and_left (p x) (All p l) a) (all_join p l m (and_right (p x) (All p l) a) b)

-- the contents places of a value's rows are as they must be
seens-placed : (cs : Children) → All (λ r. r.placed) (seens cs) ≡ true
unfolding seens
seens-placed empty = refl
seens-placed (child i h cs more) = all_join (λ r. r.placed) (seens cs) (seens more) (seens-placed cs) (seens-placed more)

placed_same : (rs : List Seen) → All (λ r. r.placed) rs ≡ true → eq_list eq_seen rs rs ≡ true
unfolding eq_list
placed_same [] a = refl
placed_same (r ∷ rs) a = and_both (eq_seen r r) (eq_list eq_seen rs rs) (eq_seen-same r (and_left r.placed (All (λ r. r.placed) rs) a)) (placed_same rs (and_right r.placed (All (λ r. r.placed) rs) a))

-- ---- writing

-- what is written is the rows' spelling
written_is : (c : List ℕ) (rs : List Row) (o : List ℕ) → written c rs ≡ ok o → spell_rows c rs ≡ o
unfolding written
written_is c rs o e = by (same_rows c rs (spell_rows c rs) (message (spell_rows c rs))) e
  where
    by : (b : Bool) → unless b 14 (ok (spell_rows c rs)) ≡ ok o → spell_rows c rs ≡ o
    by true z = cc
    by false z = absurd (not-ok z)

written_has : (c : List ℕ) (rs : List Row) (o : List ℕ) → written c rs ≡ ok o → HasRows c rs o
unfolding written
written_has c rs o e = by (message (spell_rows c rs)) refl (same_rows c rs (spell_rows c rs) (message (spell_rows c rs))) refl e
  where
    by : (a : Answer Value) → message (spell_rows c rs) ≡ a → (b : Bool) → same_rows c rs (spell_rows c rs) a ≡ b → unless b 14 (ok (spell_rows c rs)) ≡ ok o → HasRows c rs o
    by a h false p q = absurd (not-ok q)
    by (ok v) h true p q =
        let z : spell_rows c rs ≡ o = cc in
        subst (HasRows c rs) z (record { said = v; accepted = h; same = eq_list-true eq_seen eq_seen-true (map (seen (spell_rows c rs)) (rows v)) (map (seen c) rs) p })
    by (refused r) h true p q = let z : ◌≡◌ {A = ℕ} 0 1 = cc in absurd (omega arith)

has-written : (c : List ℕ) (rs : List Row) (o : List ℕ) → Octets o → HasRows c rs o → written c rs ≡ ok o
unfolding written
has-written c rs o x h =
    let s : spell_rows c rs ≡ o = has-rows-spelt c rs o x h in
    let m : map (seen o) (rows h.said) ≡ seens (alone h.said) = message-seen o h.said x h.accepted in
    let all : eq_list eq_seen (map (seen o) (rows h.said)) (map (seen c) rs) ≡ true = rw (← h.same, m) (placed_same (seens (alone h.said)) (seens-placed (alone h.said))) in
    ap (λ (l : List ℕ). unless (same_rows c rs l (message l)) 14 (ok l)) s ∙ ap (λ (a : Answer Value). unless (same_rows c rs o a) 14 (ok o)) h.accepted ∙ ap (λ (b : Bool). unless b 14 (ok o)) all

-- what is written has the rows, and rows that octets have are written as those octets
pub written-exactly : (c : List ℕ) (rs : List Row) (o : List ℕ) → Octets o → written c rs ≡ ok o ↔ HasRows c rs o
written-exactly c rs o x = (written_has c rs o, has-written c rs o x)

-- its only refusal is 14 at 0
pub written-14 : (c : List ℕ) (rs : List Row) (r : Refusal) → written c rs ≡ refused r → r ≡ refusal 14 0
unfolding written
written-14 c rs r e = by (same_rows c rs (spell_rows c rs) (message (spell_rows c rs))) e
  where
    by : (b : Bool) → unless b 14 (ok (spell_rows c rs)) ≡ refused r → r ≡ refusal 14 0
    by true z = let y : refused r ≡ ok (spell_rows c rs) = sym z in absurd (not-ok y)
    by false z = cc

-- given exactly where no octets have the rows
pub refused-exactly : (c : List ℕ) (rs : List Row) → Octets c → written c rs ≡ refused (refusal 14 0) ↔ ((o : List ℕ) → Octets o → HasRows c rs o → ⊥)
refused-exactly c rs x = (λ e o y h. not-ok (sym e ∙ has-written c rs o y h), λ none. by none (written c rs) refl)
  where
    by : ((o : List ℕ) → Octets o → HasRows c rs o → ⊥) → (a : Answer (List ℕ)) → written c rs ≡ a → written c rs ≡ refused (refusal 14 0)
    by none (refused r) e = e ∙ ap refused (written-14 c rs r e)
    by none (ok o) e = absurd (none o (subst Octets (written_is c rs o e) (rows-octets c rs x)) (written_has c rs o e))

-- ---- the faults that 01 lists

row_lies : (b : Bool) (c : List ℕ) (r : Row) → cond b (leb (r.place + mag r.number) (length c)) (eqb r.place 0) ≡ true → Lying b c r
row_lies true c r e = leb-true _ _ e
row_lies false c r e = eqb-true _ _ e

rows_lie : (c : List ℕ) (rs : List Row) → All (λ r. r.placed) (map (seen c) rs) ≡ true → AllLie c rs
unfolding seen AllLie
rows_lie c [] a = tt
rows_lie c (r ∷ rs) a = (row_lies (has_contents (kind_of r.ty).text) c r (and_left (seen c r).placed (All (λ r. r.placed) (map (seen c) rs)) a), rows_lie c rs (and_right (seen c r).placed (All (λ r. r.placed) (map (seen c) rs)) a))

pub has-faultless : (c : List ℕ) (rs : List Row) (o : List ℕ) → Octets o → HasRows c rs o → Faultless c rs
unfolding alone count
has-faultless c rs o x h =
    let v = h.said in
    let m : map (seen c) rs ≡ seens (alone v) = sym h.same ∙ message-seen o v x h.accepted in
    record {
      lie = rows_lie c rs (subst (λ (l : List Seen). All (λ r. r.placed) l ≡ true) (sym m) (seens-placed (alone v)));
      some = omega (arith, length-map rs (seen c), ap length m, seens-count (alone v));
      short = subst (λ (l : List ℕ). length l ≤ most_octets) (sym (has-rows-spelt c rs o x h)) (accepted-is o v x h.accepted).short;
    }
