-- Values of a container that are alike.
use Rattle.std.specs.Prelude.{◌≡◌, Bool, true, cond, eqb, ℤ, Option, Some, None, ℕ}
use Rattle.scalar.specs.declared.Bits.{Bits}
use Rattle.scalar.specs.Answers.{most_of}
use Rattle.decide.specs.declared.Form.{Form}
use Rattle.decide.specs.declared.Form.TheVariants.{Packed}

-- where keys and values are of one width
abbrev pub integers_of : Bits → Bits → Option (Bits × ℕ)
integers_of w v = cond (eqb (most_of w) (most_of v)) (Some (w, most_of w)) None

-- a value in a form is what the run says
abbrev pub Like : Option (Bits × ℕ) → Form → Type 0
Like None f = Unit {0}
Like (Some (w, most)) f = (most ≡ most_of w) × ((t : ℤ) × (f ≡ Packed w t))

pub record RunOf (form other : Form) (r : Option (Bits × ℕ)) : Type 0 where
  pub first : Like r form
  pub second : Like r other

-- values with indexes make no run
pub record RunIn (indexed : Bool) (form other : Form) (r : Option (Bits × ℕ)) : Type 0 where
  pub run : RunOf form other r
  pub mixed : indexed ≡ true → r ≡ None
