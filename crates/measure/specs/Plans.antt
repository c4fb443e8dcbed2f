-- What the answers of the code say of a value: how it stands, what its data are, and what was counted.
use Rattle.std.specs.Prelude.{◌≡◌, Bool, true, false, List, ℕ, suc, ◌+◌, ◌^◌, ◌<◌, ◌≤◌, length, ℤ, Result, Ok, Err, Some, None}
use Rattle.reading.specs.declared.Refusal.{Refusal}
use Rattle.reading.specs.Reading.{Out, got, stop, Reader, stand, ◌>>◌, require}
use Rattle.format.specs.Types.{kind_of}
use Rattle.format.specs.Values.{Value, whole, bare, Inner, may, each, data_of}
use Rattle.format.specs.Values.{Form as Forms}
use Rattle.decide.specs.declared.Class.{Class}
use Rattle.decide.specs.declared.Class.TheVariants.{Holder, Reference, Text as Texted}
use Rattle.decide.specs.declared.Shape.{Shape}
use Rattle.decide.specs.declared.Form.{Form}
use Rattle.decide.specs.declared.Form.TheVariants.{Whole, Named, Bare, Sized, Packed}
use Rattle.decide.specs.declared.Nest.{Nest}
use Rattle.decide.specs.Classes.{Is, least_of, elementary}
use Rattle.decide.specs.Forms.{unknown, known, says, Sound, listed_in}
use Rattle.measure.specs.declared.Contents.{Contents}
use Rattle.measure.specs.declared.Plan.{Plan}
use Rattle.measure.specs.declared.Plan.TheVariants.{Single, Inner as Nested}
use Rattle.measure.specs.declared.identities.Identities.{Identities}
use Rattle.measure.specs.Tally.{value_rows, inside, rest}
use Rattle.measure.specs.Identities.{env_of, name_of, number_of, one}

-- whether a value in a form must not be an identity
abbrev pub once_of : Form → Bool
once_of Whole = false
once_of Named = true
once_of (Bare t) = false
once_of (Sized n t) = false
once_of (Packed b t) = false

-- how a value stands, for the code and for the format: a bare value has a type that element types may have
abbrev pub Means : Form → Forms → Type 0
Means w (whole once) = (says w ≡ unknown) × (once_of w ≡ once)
Means w (bare t) = (says w ≡ known t) × (elementary t ≡ true)

pub record Stands (w : Form) (f : Forms) : Type 0 where
  pub means : Means w f
  pub sound : Sound w

-- a value of a type that was read at p: what is still asked of the type, and its data
unfoldable pub judged : Inner → Bool → ℤ → ℕ → ℕ → Reader Value
judged inner once t own p = do
  require (kind_of t).carried 4 p
  require (may once (kind_of t).names) 9 p
  inner t own p

-- with indexes, all values stand in one form
abbrev pub OneForm : Bool → Forms → Forms → Type 0
OneForm true f g = f ≡ g
OneForm false f g = Unit {0}

-- what a container holds, as the code keeps it, and the forms of `Values` that its forms mean
pub record NestIs (o : List ℕ) (l : Identities) (at : ℕ) (n : Contents) (rows : ℕ → Out ℕ) : Type 0 where
  pub form-is : Forms
  pub other_is : Forms
  pub form_stands : Stands n.nest.form form-is
  pub other_stands : Stands n.nest.other other_is
  pub one_form : OneForm n.nest.indexed form-is other_is
  pub few : n.nest.count < 2 ^ 32
  pub by_position : n.nest.listed ≡ listed_in n.nest.indexed n.nest.count
  pub further : at ≤ n.from
  pub within : n.from ≤ length o
  pub room : l.given_count + one n.id ≤ 64
  pub counted : (lv : ℕ) → rows lv ≡ inside (data_of lv) (name_of n.id) (number_of n.id) (rest n.nest.indexed n.nest.paired form-is other_is n.nest.count 0) 1 (stand o n.from (env_of l))

-- what is planned for a value, whose rows with lv levels inside are counted by `rows lv`
abbrev pub PlanIs : List ℕ → Identities → ℕ → (ℕ → Out ℕ) → Result Plan Refusal → Type 0
PlanIs o l at rows (Err r) = (lv : ℕ) → rows lv ≡ stop r
PlanIs o l at rows (Ok (Single next n)) = (at ≤ next) × (next ≤ length o) × (n ≤ 11) × ((lv : ℕ) → rows lv ≡ got n (stand o next (env_of l)))
PlanIs o l at rows (Ok (Nested n)) = NestIs o l at n rows

-- scalars that were passed
abbrev pub plan_of : Result ℕ Refusal → Result Plan Refusal
plan_of (Ok next) = Ok (Single next 1)
plan_of (Err r) = Err r

-- a container without an identity, and an identity's value
abbrev pub contents_of : Nest → ℕ → Contents
contents_of n from = record { from = from; nest = n; id = None }

abbrev pub named_contents : Nest → ℕ → ℕ → Contents
named_contents n x from = record { from = from; nest = n; id = Some x }

-- the plan for the data, from `at` on, of a value of a class that starts at p
pub record DataPlan (o : List ℕ) (l : Identities) (c : Class) (once : Bool) (at p : ℕ) (r : Result Plan Refusal) : Type 0 where
  pub plan : (t : ℤ) (own : ℕ) → Is c t → PlanIs o l (at + least_of c) (λ lv. value_rows (judged (data_of (suc lv)) once t own p) (stand o at (env_of l))) r

-- and of a string: whatever the identities, and however it was judged
pub record TextPlan (o : List ℕ) (chars : Bool) (at : ℕ) (r : Result Plan Refusal) : Type 0 where
  pub plan : (l : Identities) (once : Bool) (p : ℕ) → DataPlan o l (Texted chars) once at p r

-- and of a container
pub record HolderPlan (o : List ℕ) (h : Shape) (at : ℕ) (r : Result Plan Refusal) : Type 0 where
  pub plan : (l : Identities) (once : Bool) (p : ℕ) → DataPlan o l (Holder h) once at p r

-- and of a reference
pub record ReferencePlan (o : List ℕ) (l : Identities) (at : ℕ) (r : Result Plan Refusal) : Type 0 where
  pub plan : (once : Bool) (p : ℕ) → DataPlan o l Reference once at p r

-- the plan for a value at a place
pub record ValuePlan (o : List ℕ) (l : Identities) (w : Form) (at : ℕ) (r : Result Plan Refusal) : Type 0 where
  pub plan : (f : Forms) → Stands w f → PlanIs o l (at + 1) (λ lv. value_rows (each (data_of (suc lv)) f) (stand o at (env_of l))) r
