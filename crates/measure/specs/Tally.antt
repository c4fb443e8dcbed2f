-- Reading values and counting their rows, without building them.
use Rattle.std.specs.Prelude.{Bool, true, false, ℕ, suc, ◌+◌, ◌-◌}
use Rattle.reading.specs.Reading.{Reader, ◌>>=◌, ◌>>◌, return, names, rename}
use Rattle.format.specs.Types.{Names}
use Rattle.format.specs.Values.{Value, Form, Rule, counted, rising, Inner, begun, leave, each, children}
use Rattle.format.specs.Rows.{count}
use Rattle.decide.specs.Forms.{turn}

-- n more than a reading counts
unfoldable pub plus : ℕ → Reader ℕ → Reader ℕ
plus n p = p >>= λ m. return (n + m)

-- one row
abbrev pub single : Reader ℕ
single = return 1

-- the rows of a value that is read, and of the values inside a container
unfoldable pub value_rows : Reader Value → Reader ℕ
value_rows p = p >>= λ v. return (suc (count v.inside))

unfoldable pub child_rows : Inner → Rule → Reader ℕ
child_rows inner r = children inner r >>= λ cs. return (count cs)

-- an identity is given, if one is
unfoldable pub opening : Names → ℕ → Reader (Unit {0})
opening y n = do
  e ← names
  rename (begun y n e)

-- the values inside a value whose number is n, and then the value's end; `rows` were counted before
unfoldable pub inside : Inner → Names → ℕ → Rule → ℕ → Reader ℕ
inside inner y n r rows = do
  opening y n
  k ← plus rows (child_rows inner r)
  leave y n
  return k

-- what a container of `count` values still expects from position `low` on, or with indexes (x) below `count` from `low` on
abbrev pub rest : Bool → Bool → Form → Form → ℕ → ℕ → Rule
rest true paired f g count low = rising f count low
rest false paired f g count low = counted paired (turn f g low) (turn g f low) (count - low) low

-- a value, read after `rows` were counted, and then what is still expected
unfoldable pub onward : Inner → Form → Rule → ℕ → Reader ℕ
onward inner f r rows = plus rows (value_rows (each inner f)) >>= λ k. plus k (child_rows inner r)
