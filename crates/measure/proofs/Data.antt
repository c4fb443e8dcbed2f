-- The rows of a value's data, by the kind of its type.
use mathlib.Core.Path.{◌≡◌, refl, sym, ap, ◌∙◌}
use mathlib.Core.Bool.{Bool, true, false, not}
use mathlib.Core.List.{List, [], ◌∷◌}
use Prim.Native.Nat.{ℕ, suc, ◌+◌}
use native.Mathlib.Omega.{arith}
use lib.Dec.{ltb}
use lib.ListN.{length}
use lib.IntN.{ℤ, pos}
use lib.Signed.{mag}
use Rattle.reading.specs.Reading.{Env, State, Out, got, stop, Reader, follow, ◌>>=◌, ◌>>◌, return, require, here, names, rename}
use Rattle.format.specs.Types.{Datum, amount, Text, none, Parts, Holds, nothing, one, Names, silent, gives, refers, Sort, Kind, scalar, string, dated, container, kind_of}
use Rattle.format.specs.Data.{number, element, contents, moment}
use Rattle.format.specs.Values.{Head, head, Children, Value, value, Rule, counted, whole, rule_by, rule_of, most_identities, has, allow, enter, leave, begun, closed, turns, pieces, children, front, data_of}
use Rattle.format.specs.Rows.{count}
use Rattle.measure.specs.Tally.{plus, value_rows, child_rows, opening, inside}

-- the rows of the data of a value of a kind, with the front taken apart
unfoldable pub rows_with : ℕ → Kind → ℤ → ℕ → Reader ℕ
rows_with lv k t o = do
  q ← here
  e ← element k.first
  f ← element k.second
  n ← number k.datum
  l ← contents k.text n
  y ← names
  allow k.names (mag n) q y
  inside (data_of lv) k.names (mag n) (rule_by k k.holds (head t o n e f l)) 1

-- what is asked of an identity changes nothing
allow-still : {B : Type 0} (y : Names) (n q : ℕ) (e : Env) (f : Unit {0} → Reader B) (s : State) → (allow y n q e >>= f) s ≡ follow (allow y n q e s) (λ _ _. f tt s)
unfolding allow ◌>>=◌ return require
allow-still silent n q e f s = refl
allow-still gives n q e f s = by (not (has n e.opened)) (ltb (length e.opened) most_identities)
  where
    by : (a b : Bool) → follow (follow (require a 9 q s) (λ _. require b 9 q)) f ≡ follow (follow (require a 9 q s) (λ _. require b 9 q)) (λ _ _. f tt s)
    by true true = refl
    by true false = refl
    by false b = refl
allow-still refers n q e f s = by (has n e.ended)
  where
    by : (a : Bool) → follow (require a 10 q s) f ≡ follow (require a 10 q s) (λ _ _. f tt s)
    by true = refl
    by false = refl

abbrev count_it : Value → Reader ℕ
count_it v = return (suc (count v.inside))

-- the values inside, and the end of the value
ending : (lv : ℕ) (y : Names) (n : ℕ) (r : Rule) (h : Head) (s : State)
    → follow ((children (data_of lv) r >>= λ cs. leave y n >>= λ _. return (value h cs)) s) count_it ≡ (plus 1 (child_rows (data_of lv) r) >>= λ k. leave y n >>= λ _. return k) s
unfolding ◌>>=◌ return plus child_rows leave names rename
ending lv y n r h s = by (children (data_of lv) r s)
  where
    by : (x : Out Children) → follow (follow x (λ cs. leave y n >>= λ _. return (value h cs))) count_it ≡ follow (follow (follow x (λ cs. return (count cs))) (λ m. return (1 + m))) (λ k. leave y n >>= λ _. return k)
    by (got cs s') = ap (λ (m : ℕ). got m (record { at = s'.at; left = s'.left; env = closed y n s'.env })) (omega arith)
    by (stop r) = refl

-- from the number on
from-number : (lv : ℕ) (y : Names) (n q : ℕ) (r : Rule) (h : Head) (s : State)
    → follow ((enter y n q >>= λ _. children (data_of lv) r >>= λ cs. leave y n >>= λ _. return (value h cs)) s) count_it
    ≡ (names >>= λ e. allow y n q e >>= λ _. inside (data_of lv) y n r 1) s
unfolding ◌>>=◌ enter names rename inside opening
from-number lv y n q r h s =
    ap (λ (x : Out (Unit {0})). follow (follow x (λ _. rest)) count_it) (allow-still y n q s.env (λ _. rename (begun y n s.env)) s)
    ∙ by (allow y n q s.env s)
    ∙ sym (allow-still y n q s.env (λ _. inside (data_of lv) y n r 1) s)
  where
    rest : Reader Value
    rest = children (data_of lv) r >>= λ cs. leave y n >>= λ _. return (value h cs)

    by : (x : Out (Unit {0})) → follow (follow (follow x (λ _ _. rename (begun y n s.env) s)) (λ _. rest)) count_it ≡ follow x (λ _ _. inside (data_of lv) y n r 1 s)
    by (got u s') = ending lv y n r h (record { at = s.at; left = s.left; env = begun y n s.env })
    by (stop r) = refl

pub rows-with : (lv : ℕ) (t : ℤ) (o p : ℕ) (s : State) → value_rows (data_of (suc lv) t o p) s ≡ rows_with lv (kind_of t) t o s
unfolding value_rows data_of rows_with front rule_of ◌>>=◌ return here
rows-with lv t o p s = by1 (element (kind_of t).first s)
  where
    whole : Head → Reader Value
    whole h = enter (kind_of t).names (mag h.number) s.at >>= λ _. children (data_of lv) (rule_of h) >>= λ cs. leave (kind_of t).names (mag h.number) >>= λ _. return (value h cs)

    rows : Head → Reader ℕ
    rows h = names >>= λ y. allow (kind_of t).names (mag h.number) s.at y >>= λ _. inside (data_of lv) (kind_of t).names (mag h.number) (rule_by (kind_of t) (kind_of t).holds h) 1

    by4 : (e f n : ℤ) (x : Out (List ℕ)) → follow (follow (follow x (λ l. return (head t o n e f l))) whole) count_it ≡ follow x (λ l. rows (head t o n e f l))
    by4 e f n (got l s') = from-number lv (kind_of t).names (mag n) s.at (rule_by (kind_of t) (kind_of t).holds (head t o n e f l)) (head t o n e f l) s'
    by4 e f n (stop r) = refl

    by3 : (e f : ℤ) (x : Out ℤ) → follow (follow (follow x (λ n. contents (kind_of t).text n >>= λ l. return (head t o n e f l))) whole) count_it
        ≡ follow x (λ n. contents (kind_of t).text n >>= λ l. rows (head t o n e f l))
    by3 e f (got n s') = by4 e f n (contents (kind_of t).text n s')
    by3 e f (stop r) = refl

    by2 : (e : ℤ) (x : Out ℤ) → follow (follow (follow x (λ f. number (kind_of t).datum >>= λ n. contents (kind_of t).text n >>= λ l. return (head t o n e f l))) whole) count_it
        ≡ follow x (λ f. number (kind_of t).datum >>= λ n. contents (kind_of t).text n >>= λ l. rows (head t o n e f l))
    by2 e (got f s') = by3 e f (number (kind_of t).datum s')
    by2 e (stop r) = refl

    by1 : (x : Out ℤ) → follow (follow (follow x (λ e. element (kind_of t).second >>= λ f. number (kind_of t).datum >>= λ n. contents (kind_of t).text n >>= λ l. return (head t o n e f l))) whole) count_it
        ≡ follow x (λ e. element (kind_of t).second >>= λ f. number (kind_of t).datum >>= λ n. contents (kind_of t).text n >>= λ l. rows (head t o n e f l))
    by1 (got e s') = by2 e (element (kind_of t).second s')
    by1 (stop r) = refl

-- ---- by the kind

count-pieces : (l : List ℤ) (i : ℕ) → count (pieces i l) ≡ length l
unfolding count pieces
count-pieces [] i = refl
count-pieces (z ∷ l) i = omega (arith, count-pieces l (suc i))

module _ (lv : ℕ) (t : ℤ) (o p : ℕ) (s : State) where
  with-kind : (k : Kind) → kind_of t ≡ k → value_rows (data_of (suc lv) t o p) s ≡ rows_with lv k t o s
  with-kind k e = rows-with lv t o p s ∙ ap (λ (k : Kind). rows_with lv k t o s) e

  -- a number and nothing else
  pub scalar-rows : {d : Datum} {q : Sort} → kind_of t ≡ scalar d q → value_rows (data_of (suc lv) t o p) s ≡ (number d >>= λ _. return 1) s
  unfolding rows_with ◌>>=◌ return here element contents allow inside opening leave names rename plus child_rows children turns count
  scalar-rows {d} {q} e = with-kind (scalar d q) e ∙ by (number d s)
    where
      rest : ℤ → Reader ℕ
      rest n = contents none n >>= λ l. names >>= λ y. allow silent (mag n) s.at y >>= λ _. inside (data_of lv) silent (mag n) (rule_by (scalar d q) nothing (head t o n (pos 0) (pos 0) l)) 1

      by : (x : Out ℤ) → follow x rest ≡ follow x (λ _. return 1)
      by (got n s') = refl
      by (stop r) = refl

  -- a length and contents
  pub string-rows : {x : Text} → kind_of t ≡ string x → value_rows (data_of (suc lv) t o p) s ≡ (number amount >>= λ n. contents x n >>= λ _. return 1) s
  unfolding rows_with ◌>>=◌ return here element allow inside opening leave names rename plus child_rows children turns count
  string-rows {x} e = with-kind (string x) e ∙ by (number amount s)
    where
      rest : ℤ → List ℕ → Reader ℕ
      rest n l = names >>= λ y. allow silent (mag n) s.at y >>= λ _. inside (data_of lv) silent (mag n) (rule_by (string x) nothing (head t o n (pos 0) (pos 0) l)) 1

      by2 : (n : ℤ) (z : Out (List ℕ)) → follow z (rest n) ≡ follow z (λ _. return 1)
      by2 n (got l s') = refl
      by2 n (stop r) = refl

      by : (z : Out ℤ) → follow z (λ n. contents x n >>= λ l. rest n l) ≡ follow z (λ n. contents x n >>= λ _. return 1)
      by (got n s') = by2 n (contents x n s')
      by (stop r) = refl

  -- the integers of a date or time
  pub dated-rows : {d : Parts} → kind_of t ≡ dated d → value_rows (data_of (suc lv) t o p) s ≡ (moment d >>= λ l. return (1 + length l)) s
  unfolding rows_with ◌>>=◌ return here element number contents allow inside opening leave names rename plus child_rows children
  dated-rows {d} e = with-kind (dated d) e ∙ by (moment d s)
    where
      by : (z : Out (List ℤ)) → follow (follow (follow (follow z (λ l. return (pieces 0 l))) (λ cs. return (count cs))) (λ m. return (1 + m))) (λ k. leave silent 0 >>= λ _. return k) ≡ follow z (λ l. return (1 + length l))
      by (got l s') = ap (λ (m : ℕ). got (1 + m) s') (count-pieces l 0)
      by (stop r) = refl

  -- element types and a number, and the values inside
  pub container-rows : {f g : Bool} {h : Holds} → kind_of t ≡ container f g h silent
      → value_rows (data_of (suc lv) t o p) s
      ≡ (element f >>= λ a. element g >>= λ b. number amount >>= λ n. plus 1 (child_rows (data_of lv) (rule_by (container f g h silent) h (head t o n a b [])))) s
  unfolding rows_with ◌>>=◌ return here contents allow inside opening leave names rename
  container-rows {f} {g} {h} e = with-kind (container f g h silent) e ∙ by1 (element f s)
    where
      plain : (x : Out ℕ) → follow x (λ k. leave silent 0 >>= λ _. return k) ≡ x
      plain (got k s') = refl
      plain (stop r) = refl

      rows : ℤ → ℤ → ℤ → Reader ℕ
      rows a b n = plus 1 (child_rows (data_of lv) (rule_by (container f g h silent) h (head t o n a b [])))

      rest : ℤ → ℤ → ℤ → Reader ℕ
      rest a b n = contents none n >>= λ l. names >>= λ y. allow silent (mag n) s.at y >>= λ _. inside (data_of lv) silent (mag n) (rule_by (container f g h silent) h (head t o n a b l)) 1

      by3 : (a b : ℤ) (x : Out ℤ) → follow x (rest a b) ≡ follow x (rows a b)
      by3 a b (got n s') = plain (rows a b n s')
      by3 a b (stop r) = refl

      by2 : (a : ℤ) (x : Out ℤ) → follow x (λ b. number amount >>= rest a b) ≡ follow x (λ b. number amount >>= rows a b)
      by2 a (got b s') = by3 a b (number amount s')
      by2 a (stop r) = refl

      by1 : (x : Out ℤ) → follow x (λ a. element g >>= λ b. number amount >>= rest a b) ≡ follow x (λ a. element g >>= λ b. number amount >>= rows a b)
      by1 (got a s') = by2 a (element g s')
      by1 (stop r) = refl

  -- a number that names an identity, and its value
  pub identity-rows : kind_of t ≡ container false false one gives
      → value_rows (data_of (suc lv) t o p) s
      ≡ (number amount >>= λ n. names >>= λ y. allow gives (mag n) s.at y >>= λ _. inside (data_of lv) gives (mag n) (counted false (whole true) (whole true) 1 0) 1) s
  unfolding rows_with ◌>>=◌ return here element contents
  identity-rows e = with-kind (container false false one gives) e ∙ by (number amount s)
    where
      rest : ℤ → Reader ℕ
      rest n = names >>= λ y. allow gives (mag n) s.at y >>= λ _. inside (data_of lv) gives (mag n) (counted false (whole true) (whole true) 1 0) 1

      by : (x : Out ℤ) → follow x (λ n. contents none n >>= λ l. rest n) ≡ follow x rest
      by (got n s') = refl
      by (stop r) = refl

  -- a number that refers to one
  pub reference-rows : kind_of t ≡ container false false nothing refers
      → value_rows (data_of (suc lv) t o p) s ≡ (number amount >>= λ n. names >>= λ y. allow refers (mag n) s.at y >>= λ _. return 1) s
  unfolding rows_with ◌>>=◌ return here element contents names allow inside opening leave rename plus child_rows children turns count require
  reference-rows e = with-kind (container false false nothing refers) e ∙ by (number amount s)
    where
      rest : ℤ → Reader ℕ
      rest n = contents none n >>= λ l. names >>= λ y. allow refers (mag n) s.at y >>= λ _. inside (data_of lv) refers (mag n) (counted false (whole false) (whole false) 0 0) 1

      by2 : (s' : State) (b : Bool) → follow (require b 10 s.at s') (λ _. inside (data_of lv) refers 0 (counted false (whole false) (whole false) 0 0) 1) ≡ follow (require b 10 s.at s') (λ _. return 1)
      by2 s' true = refl
      by2 s' false = refl

      by : (x : Out ℤ) → follow x rest ≡ follow x (λ n. names >>= λ y. allow refers (mag n) s.at y >>= λ _. return 1)
      by (got n s') = by2 s' (has (mag n) s'.env.ended)
      by (stop r) = refl
