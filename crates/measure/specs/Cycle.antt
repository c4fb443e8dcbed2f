-- What the value reader and the container reader ask and give.
use Rattle.std.specs.Prelude.{◌≡◌, Bool, List, ℕ, ◌+◌, ◌*◌, ◌^◌, ◌<◌, ◌≤◌, length, ℤ, Option, Some, None, Result, Ok, Err}
use Rattle.reading.specs.declared.Refusal.{Refusal}
use Rattle.reading.specs.declared.Reason.{Reason}
use Rattle.reading.specs.Reading.{Env, State, Out, got, stop, stand}
use Rattle.format.specs.Values.{each, data_of}
use Rattle.format.specs.Values.{Form as Forms}
use Rattle.scalar.specs.declared.Bits.{Bits}
use Rattle.decide.specs.declared.Class.{Class}
use Rattle.decide.specs.Classes.{Is}
use Rattle.decide.specs.declared.Form.{Form}
use Rattle.decide.specs.Forms.{listed_in}
use Rattle.decide.specs.Runs.{Like}
use Rattle.scalar.specs.Answers.{Ahead}
use Rattle.measure.specs.declared.Window.{Window}
use Rattle.measure.specs.declared.identities.Identities.{Identities}
use Rattle.measure.specs.declared.Contents.{Contents}
use Rattle.measure.specs.Tally.{plus, value_rows, inside, rest}
use Rattle.measure.specs.Identities.{env_of, name_of, number_of, one}
use Rattle.measure.specs.Plans.{Stands, OneForm, judged}

-- a type at level 17: why it is refused
pub record TooDeep (c : Class) (once : Bool) (x : Reason) : Type 0 where
  pub refuses : (t : ℤ) (own p : ℕ) (s : State) → Is c t → judged (data_of 0) once t own p s ≡ stop (record { place = p; reason = x })

pub record DeepAt (o : List ℕ) (w : Form) (at : ℕ) (r : Refusal) : Type 0 where
  pub refuses : (f : Forms) → Stands w f → (e : Env) → each (data_of 0) f (stand o at e) ≡ stop r

-- what was counted, where the identities are then e
abbrev pub step_out : List ℕ → Env → Result (ℕ × ℕ) Refusal → Out ℕ
step_out o e (Ok (next, rows)) = got rows (stand o next e)
step_out o e (Err r) = stop r

-- the place lies further on, rows do not outnumber eleven times the octets, and as many identities ended as were given
abbrev pub Going : List ℕ → Identities → Identities → ℕ → Result (ℕ × ℕ) Refusal → Type 0
Going o l after at (Ok (next, rows)) = (at ≤ next) × (next ≤ length o) × (rows ≤ 11 * next) × (after.given_count + l.ended_count ≡ l.given_count + after.ended_count)
Going o l after at (Err r) = Unit {0}

-- ---- a value

pub record CanRead (o : List ℕ) (w : Form) (at rows : ℕ) : Type 0 where
  pub within : at ≤ length o
  pub few : rows ≤ 11 * at
  pub short : length o ≤ 65535
  pub stands : (f : Forms) × Stands w f

pub record HasRead (o : List ℕ) (l : Identities) (w : Form) (at rows depth : ℕ) (r : Result (ℕ × ℕ) Refusal) (after : Identities) : Type 0 where
  pub same : (f : Forms) → Stands w f → step_out o (env_of after) r ≡ plus rows (value_rows (each (data_of depth) f)) (stand o at (env_of l))
  pub going : Going o l after (at + 1) r

-- in a run of integers, what lies ahead is known
abbrev pub AheadIn : Option (Bits × ℕ) → List ℕ → ℕ → Window → Type 0
AheadIn None o at a = Unit {0}
AheadIn (Some (w, most)) o at a = Ahead o at a.near a.far

abbrev pub AheadOf : Option (Bits × ℕ) → List ℕ → Result (ℕ × ℕ) Refusal → Window → Type 0
AheadOf run o (Ok (next, rows)) a = AheadIn run o next a
AheadOf run o (Err r) a = Unit {0}

-- the next value of a container: the run is right about it, and what lies ahead is known before and after
pub record CanReadNext (o : List ℕ) (run : Option (Bits × ℕ)) (w : Form) (at : ℕ) (a : Window) (rows : ℕ) : Type 0 where
  pub can : CanRead o w at rows
  pub like : Like run w
  pub ahead : AheadIn run o at a

pub record HasReadNext (o : List ℕ) (l : Identities) (run : Option (Bits × ℕ)) (w : Form) (at rows depth : ℕ) (r : Result (ℕ × ℕ) Refusal) (after : Identities) (a : Window) : Type 0 where
  pub read : HasRead o l w at rows depth r after
  pub ahead : AheadOf run o r a

-- ---- the values inside a container

pub record Standing (w v : Form) (x : Bool) (f g : Forms) : Type 0 where
  pub first : Stands w f
  pub second : Stands v g
  pub alike : OneForm x f g

pub record CanHold (o : List ℕ) (l : Identities) (n : Contents) (before : ℕ) : Type 0 where
  pub within : n.from ≤ length o
  pub few : before ≤ 11 * n.from
  pub room : l.given_count + one n.id ≤ 64
  pub short : length o ≤ 65535
  pub small : n.nest.count < 2 ^ 32
  pub by_position : n.nest.listed ≡ listed_in n.nest.indexed n.nest.count
  pub forms : (f : Forms) × (g : Forms) × Standing n.nest.form n.nest.other n.nest.indexed f g

pub record HasHeld (o : List ℕ) (l : Identities) (n : Contents) (before depth : ℕ) (r : Result (ℕ × ℕ) Refusal) (after : Identities) : Type 0 where
  pub same : (f g : Forms) → Standing n.nest.form n.nest.other n.nest.indexed f g
      → step_out o (env_of after) r ≡ inside (data_of depth) (name_of n.id) (number_of n.id) (rest n.nest.indexed n.nest.paired f g n.nest.count 0) before (stand o n.from (env_of l))
  pub going : Going o l after n.from r
