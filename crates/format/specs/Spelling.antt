-- The octets of a value, "spelt by the types' rules" (01), accepted or not.
use Rattle.std.specs.Prelude.{Bool, true, false, cond, List, [], ◌++◌, ℕ, eqb, ℤ, pos, negsuc}
use Rattle.integer.specs.Packed.{spell_int}
use Rattle.format.specs.Types.{Kind, kind_of}
use Rattle.format.specs.Data.{spell_number, spell_element}
use Rattle.format.specs.Values.{Head, Children, empty, child, Value, Rule, counted, rising, moments, rule_of}

-- 01: "own (1 if its identifier stands in the octets, 0 if bare)"
abbrev pub identifier : Head → List ℕ
identifier h = cond (eqb h.own 1) (spell_int h.ty) []

-- element types, number, contents
abbrev pub data_by : Kind → Head → List ℕ
data_by k h = spell_element k.first h.first ++ (spell_element k.second h.second ++ (spell_number k.datum h.number ++ h.text))

-- what stands before the values inside
unfoldable pub fore : Head → List ℕ
fore h = identifier h ++ data_by (kind_of h.ty) h

-- whether the values inside have an index before each, and -1 after the last
abbrev pub indexed : Rule → Bool
indexed (counted paired f g n i) = false
indexed (rising f top low) = true
indexed (moments d) = false

abbrev pub index : Bool → ℤ → List ℕ
index x z = cond x (spell_int z) []

unfoldable pub spell_children : Bool → Children → List ℕ
spell_children x empty = index x (negsuc 0)
spell_children x (child i h cs next) = index x (pos i) ++ (fore h ++ (spell_children (indexed (rule_of h)) cs ++ spell_children x next))

unfoldable pub spell : Value → List ℕ
spell v = fore v.top ++ spell_children (indexed (rule_of v.top)) v.inside
