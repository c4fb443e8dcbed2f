-- What a field tells.
use mathlib.Core.Path.{◌≡◌, refl, ap, sym, ◌∙◌}
use mathlib.Core.Bool.{Bool, true, false, ◌&&◌}
use mathlib.Core.List.{List}
use Prim.Native.Nat.{ℕ, ◌-◌, ◌*◌, ◌%◌, ◌≤◌}
use native.Mathlib.Omega.{arith}
use lib.ListN.{length, get_or, take, drop, length-drop}
use lib.Seq.{length-sets, take_all}
use lib.Dec.{leb, eqb}
use borrow.Author.Tests.{leb-true, eqb-true, le-leb, le-ltb, eq-eqb, ne_eqb}
use Rattle.format.specs.Desk.{all_digits, octets_of}
use Rattle.integer.specs.Writes.{Room, Wrote}
use Rattle.text.proofs.Digits.{octets-length}
use Rattle.text.proofs.Writes.{wrote-front}
use Rattle.std.specs.Prelude.{Option, Some, None}
use Rattle.replies.specs.Cases.{some, field_of, alone, field_reply, case_reply}
use Rattle.replies.specs.Fields.{FieldRead, asks_row, plain_text, CaseRead}

module _ (l : List ℕ) where
  whole : 2 ≤ length l → length l % 2 ≡ 0 → all_digits l ≡ true → field_of l ≡ some (octets_of l)
  unfolding field_of
  whole h o e = rw (ne_eqb (length l) 1 (λ e. omega arith), le-leb 2 (length l) h, eq-eqb (length l % 2) 0 o, e)

  pub pairs-room : {work : List ℕ} → length l ≤ 2 * length work → Room (octets_of l) 0 work
  pairs-room h = record { room = omega (arith, octets-length l) }

  pub pairs : {work after : List ℕ} {n : ℕ} → length l ≤ 2 * length work → 2 ≤ length l → length l % 2 ≡ 0 → all_digits l ≡ true → Wrote (octets_of l) 0 work n after
      → (field_of l ≡ some (take n after)) × (n ≤ length after)
  pairs {work} h g o e w =
      let fits : length (octets_of l) ≤ length work = omega (arith, octets-length l) in
      (whole g o e ∙ ap some (sym (wrote-front w fits)), omega (arith, w.past, ap length w.holds ∙ length-sets work 0 (octets_of l)))

-- what follows a case's letter and blank
rest_all : (l : List ℕ) → take (length l - 2) (drop 2 l) ≡ drop 2 l
rest_all l = take_all (length l - 2) (drop 2 l) (omega (arith, length-drop 2 l))

-- ---- a case that asks a row

module _ (l : List ℕ) where
  asks-blank : 2 ≤ length l → get_or l 0 0 ≡ 0x41 → asks_row l ≡ eqb (get_or l 1 0) 0x20
  unfolding asks_row
  asks-blank h e = rw (le-leb 2 (length l) h, eq-eqb (get_or l 0 0) 0x41 e)

  pub asks-yes : asks_row l ≡ true → (2 ≤ length l) × (get_or l 0 0 ≡ 0x41) × (get_or l 1 0 ≡ 0x20)
  unfolding asks_row
  asks-yes e = by (leb 2 (length l)) refl (eqb (get_or l 0 0) 0x41) refl (eqb (get_or l 1 0) 0x20) refl e
    where
      by : (r : Bool) → leb 2 (length l) ≡ r → (s : Bool) → eqb (get_or l 0 0) 0x41 ≡ s → (t : Bool) → eqb (get_or l 1 0) 0x20 ≡ t → (r && s && t) ≡ true
          → (2 ≤ length l) × (get_or l 0 0 ≡ 0x41) × (get_or l 1 0 ≡ 0x20)
      by true p true q true o e = (leb-true 2 (length l) p, eqb-true (get_or l 0 0) 0x41 q, eqb-true (get_or l 1 0) 0x20 o)
      by true p true q false o e = let z : ◌≡◌ {A = ℕ} 0 1 = cc in absurd (omega arith)
      by true p false q t o e = let z : ◌≡◌ {A = ℕ} 0 1 = cc in absurd (omega arith)
      by false p s q t o e = let z : ◌≡◌ {A = ℕ} 0 1 = cc in absurd (omega arith)

  asks-no : asks_row l ≡ false → 2 ≤ length l → get_or l 1 0 ≡ 0x20 → get_or l 0 0 ≡ 0x41 → ⊥
  asks-no e h b k = let t : true ≡ false = sym (asks-blank h k ∙ eq-eqb (get_or l 1 0) 0x20 b) ∙ e in let z : ◌≡◌ {A = ℕ} 0 1 = cc in omega arith

  pub case-asks : asks_row l ≡ true → case_reply l ≡ alone (plain_text l)
  case-asks e = let y = asks-yes e in rw (e, le-ltb (length l) 2 y.0, eq-eqb (get_or l 1 0) 0x20 y.2, eq-eqb (get_or l 0 0) 0x41 y.1)

-- ---- the others

module _ (l : List ℕ) (a : asks_row l ≡ false) (h : 2 ≤ length l) where
  case-field : get_or l 1 0 ≡ 0x20 → case_reply l ≡ field_reply (get_or l 0 0) (field_of (drop 2 l))
  case-field e = rw (le-ltb (length l) 2 h, eq-eqb (get_or l 1 0) 0x20 e, ne_eqb (get_or l 0 0) 0x41 (asks-no l a h e))

  pub case-read : get_or l 1 0 ≡ 0x20 → (r : Option ℕ) (after : List ℕ) → FieldRead (take (length l - 2) (drop 2 l)) r after → CaseRead l r after
  case-read e (Some n) after f = (case-field e ∙ ap (field_reply (get_or l 0 0)) (ap field_of (sym (rest_all l)) ∙ f.0), f.1, h)
  case-read e None after f = case-field e ∙ ap (field_reply (get_or l 0 0)) (ap field_of (sym (rest_all l)) ∙ f) ∙ sym (rw a)
