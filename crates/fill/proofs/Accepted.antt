-- The values of an accepted message may be filled in.
use mathlib.Core.Path.{◌≡◌, refl, sym, ap, subst, ◌∙◌}
use mathlib.Core.Bool.{Bool, true, false, cond}
use mathlib.Core.List.{List, [], ◌∷◌, ◌++◌}
use Prim.Native.Nat.{ℕ, zero, suc, ◌+◌, ◌^◌, ◌%◌, ◌<◌, ◌≤◌}
use native.Mathlib.Omega.{arith}
use native.Mathlib.Nat.{add-zero}
use lib.ListN.{length}
use lib.Dec.{lit≤, eqb}
use lib.IntN.{ℤ, negsuc}
use lib.Signed.{mag}
use Rattle.format.specs.Types.{Holds, nothing, values, couples, indexes, properties, one, parts, kind_of}
use Rattle.format.specs.Values.{Head, Children, empty, child, Rule, counted, rising, moments, rule_by, rule_of, formed, whole, bare, pieces, label, child_of, Value, levels}
use Rattle.format.specs.Values.{Form as Forms}
use Rattle.format.specs.Grammar.{Element, Good, Formed, less, Ints, Held, Fits, Leveled, Deep, Valid}
use Rattle.laws.proofs.Types.{all-sized, sized, amount-fits}
use Rattle.decide.specs.declared.Form.{Form}
use Rattle.scalar.specs.declared.Bits.TheVariants.{Bits32}
use Rattle.decide.specs.declared.Form.TheVariants.{Whole, Packed}
use Rattle.decide.specs.declared.Nest.{Nest}
use Rattle.decide.specs.Forms.{unknown, known, says, Sound, form_of, nest_with, turn}
use Rattle.decide.specs.Coming.{next_low}
use Rattle.decide.proofs.Forms.{turn-same, turn-next}
use Rattle.decide.proofs.Plain.{bare-says, bare-sound}
use Rattle.fill.specs.Numbers.{Stands}
use Rattle.fill.specs.Rows.{several, nest_by, nest_of, Dated}
use Rattle.fill.specs.Filling.{Fillable}
use Rattle.fill.proofs.Contained.{several-pieces}

-- how a value stands, for the code and for the format
abbrev pub FormIs : Form → Forms → Type 0
FormIs w (whole once) = (says w ≡ unknown) × Sound w
FormIs w (bare t) = (says w ≡ known t) × Sound w × ((kind_of t).carried ≡ true)

stands-so : (w : Form) (f : Forms) (h : Head) → FormIs w f → Formed f h → Stands w h × ((kind_of h.ty).carried ≡ true)
stands-so w (whole once) h m g = ((rw m.0 (g.has_own, g.ty_fits), m.1), g.ty_carried)
stands-so w (bare t) h m g = ((rw m.0 (g.0, g.1), m.1), ap (λ (z : ℤ). (kind_of z).carried) g.1 ∙ m.2)

form-is : (b : Bool) (t : ℤ) → Element b t → FormIs (form_of b t) (formed b t)
form-is true t g = (bare-says t, bare-sound t, g.1)
form-is false t g = (refl, tt)

-- what a container still expects, for the format and for the code from position or index `low` on
abbrev pub Matches : Rule → Nest → ℕ → Type 0
Matches (counted paired f g c p) n low = (n.indexed ≡ false) × (n.paired ≡ paired) × (c + low ≡ n.count) × (p ≡ low) × FormIs (turn n.form n.other low) f × FormIs (turn n.form n.other (suc low)) g
Matches (rising f top least) n low = (n.indexed ≡ true) × (top ≡ n.count) × (top ≤ 2 ^ 31) × (least ≡ low) × FormIs n.form f × FormIs n.other f
Matches (moments d) n low = ⊥

form-turn : (a b : Form) (f : Forms) (i : ℕ) → FormIs a f → FormIs b f → FormIs (turn a b i) f
form-turn a b f i p q = by (eqb (i % 2) 0)
  where
    by : (t : Bool) → FormIs (cond t a b) f
    by true = p
    by false = q

turn_two : (f g : Form) (i : ℕ) → turn f g (suc (suc i)) ≡ turn f g i
turn_two f g i = turn-next f g (suc i) ∙ turn-next g f i

abbrev is_parts : Holds → Bool
is_parts nothing = false
is_parts values = false
is_parts couples = false
is_parts indexes = false
is_parts properties = false
is_parts one = false
is_parts (parts d) = true

rule-matches : (h : Head) (cs : Children) → Good (kind_of h.ty) h → (x : Holds) → (kind_of h.ty).holds ≡ x → is_parts x ≡ false → Matches (rule_by (kind_of h.ty) x h) (nest_by (kind_of h.ty) x h cs) 0
rule-matches h cs g nothing e p = (refl, refl, refl, refl, (refl, tt), (refl, tt))
rule-matches h cs g values e p = let f = form-is (kind_of h.ty).first h.first g.first_good in (refl, refl, add-zero _, refl, f, f)
rule-matches h cs g couples e p = (refl, refl, add-zero _, refl, form-is (kind_of h.ty).first h.first g.first_good, form-is (kind_of h.ty).second h.second g.second_good)
rule-matches h cs g indexes e p =
    let f = form-is (kind_of h.ty).first h.first g.first_good in
    let l : mag h.number < 2 ^ 31 = amount-fits (kind_of h.ty).datum h.number (subst (λ (x : Holds). sized x (kind_of h.ty).datum ≡ true) e (all-sized h.ty)) g.number_good in
    (refl, refl, omega arith, refl, f, f)
rule-matches h cs g properties e p = (refl, refl, lit≤ tt, refl, (refl, tt), (refl, tt))
rule-matches h cs g one e p = (refl, refl, refl, refl, (refl, tt), (refl, tt))
rule-matches h cs g (parts d) e p = let z : ◌≡◌ {A = ℕ} 0 1 = cc in absurd (omega arith)

-- ---- the integers of a date or time

pieces-fillable : (d i : ℕ) (l : List ℤ) (n : ℕ) → i + length l ≡ n → Ints l → Fillable (suc d) (nest_with false false (Packed Bits32 (negsuc 1)) (Packed Bits32 (negsuc 1)) n) i (pieces i l)
unfolding Fillable pieces Ints kind_of nest_of
pieces-fillable d i [] n e g = omega arith
pieces-fillable d i (z ∷ l) n e g = (
  (omega arith, refl),
  rw (turn-same (Packed Bits32 (negsuc 1)) i) ((refl, refl), (_, refl)),
  refl,
  record { first_good = refl; second_good = refl; number_good = g.0; text-good = refl },
  tt,
  refl,
  pieces-fillable d (suc i) l n (omega arith) g.1,
)

-- ---- all values

fewer : (c i n : ℕ) → 0 < c → c + i ≡ n → less c + suc i ≡ n
fewer zero i n h e = absurd (omega arith)
fewer (suc c) i n h e = omega arith

-- what a value holds, where the values inside it may be filled in
inner : (lv : ℕ) (h : Head) (cs : Children) → ((r : Rule) (n : Nest) → Matches r n 0 → Fits r cs → Deep lv cs → Fillable (suc lv) n 0 cs)
    → Good (kind_of h.ty) h → Held (rule_of h) cs (Fits (rule_of h) cs) → Leveled (rule_of h) (Deep lv cs) → Dated (kind_of h.ty).holds cs × Fillable (suc lv) (nest_of h cs) 0 cs
unfolding rule_of nest_of
inner lv h cs again g = by (kind_of h.ty).holds refl
  where
    by : (x : Holds) → (kind_of h.ty).holds ≡ x → Held (rule_by (kind_of h.ty) x h) cs (Fits (rule_by (kind_of h.ty) x h) cs) → Leveled (rule_by (kind_of h.ty) x h) (Deep lv cs)
        → Dated x cs × Fillable (suc lv) (nest_by (kind_of h.ty) x h cs) 0 cs
    by nothing e f l = (tt, again _ _ (rule-matches h cs g nothing e refl) f l)
    by values e f l = (tt, again _ _ (rule-matches h cs g values e refl) f l)
    by couples e f l = (tt, again _ _ (rule-matches h cs g couples e refl) f l)
    by indexes e f l = (tt, again _ _ (rule-matches h cs g indexes e refl) f l)
    by properties e f l = (tt, again _ _ (rule-matches h cs g properties e refl) f l)
    by one e f l = (tt, again _ _ (rule-matches h cs g one e refl) f l)
    by (parts d) e f l =
        let p = f.usual_parts ++ f.offset_parts in
        let n : several cs ≡ length p = ap several f.are_pieces ∙ several-pieces 0 p in
        (f, subst (λ (y : Children). Fillable (suc lv) (nest_with false false (Packed Bits32 (negsuc 1)) (Packed Bits32 (negsuc 1)) (several cs)) 0 y) (sym f.are_pieces) (pieces-fillable lv 0 p (several cs) (omega arith) f.are_ints))

pub fillable : (lv : ℕ) (r : Rule) (n : Nest) (low : ℕ) (cs : Children) → Matches r n low → Fits r cs → Deep lv cs → Fillable (suc lv) n low cs
unfolding Fits Deep Fillable
fillable lv (counted paired f g c p) n low empty m e d = rw m.0 (omega (arith, m.2, e))
fillable lv (rising f top least) n low empty m e d = rw m.0 tt
fillable lv (moments w) n low empty m e d = absurd m
fillable zero r n low (child j h cs more) m e d = absurd d
fillable (suc lv) (moments w) n low (child j h cs more) m e d = absurd m
fillable (suc lv) (counted paired f g c p) n low (child j h cs more) m e d =
    let s = stands-so (turn n.form n.other low) f h m.4 e.0.2 in
    let w = inner lv h cs (λ r k. fillable lv r k 0 cs) e.1 e.2 d.0 in (
      rw (m.0, m.1) (omega (arith, m.2, e.0.0), e.0.1 ∙ ap (label paired) m.3),
      s.0,
      s.1,
      e.1,
      w.0,
      w.1,
      subst (λ (x : Bool). Fillable (suc (suc lv)) n (next_low x j low) more) (sym m.0)
          (fillable (suc lv) (counted paired g f (less c) (suc p)) n (suc low) more (m.0, m.1, fewer c low n.count e.0.0 m.2, ap suc m.3, m.5, subst (λ (y : Form). FormIs y f) (sym (turn_two n.form n.other low)) m.4) e.3 d.1),
    )
fillable (suc lv) (rising f top least) n low (child j h cs more) m e d =
    let s = stands-so (turn n.form n.other low) f h (form-turn n.form n.other f low m.4 m.5) e.0.2 in
    let w = inner lv h cs (λ r k. fillable lv r k 0 cs) e.1 e.2 d.0 in (
      rw m.0 (omega (arith, m.3, e.0.0), omega (arith, m.1, e.0.1), omega (arith, m.2, e.0.1)),
      s.0,
      s.1,
      e.1,
      w.0,
      w.1,
      subst (λ (x : Bool). Fillable (suc (suc lv)) n (next_low x j low) more) (sym m.0) (fillable (suc lv) (rising f top (suc j)) n (suc j) more (m.0, m.1, m.2, refl, m.4, m.5) e.3 d.1),
    )

-- the outermost value, as the one value of a container: with one level more, for the integers of a date or time
pub valid-fillable : (v : Value) → Valid v → Fillable (suc levels) (nest_with false false Whole Whole 1) 0 (child_of 0 v empty)
unfolding Fits
valid-fillable v k = fillable levels (counted false (whole false) (whole false) 1 0) (nest_with false false Whole Whole 1) 0 (child_of 0 v empty) (refl, refl, refl, refl, (refl, tt), (refl, tt))
    ((omega arith, refl, k.outermost), k.shaped.good, k.shaped.held, refl) k.deep
