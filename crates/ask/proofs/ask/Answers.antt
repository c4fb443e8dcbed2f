use mir.Val.{to_z, of_z}
use mathlib.Core.Path.{◌≡◌}
use Rattle.ask.proofs.ask.Goals.{in_default-via-in-Octet+in_default, in_default-via-in-Char+in_default, in_default-via-in-Boolean+in_default, in_default-via-in_default}
use mathlib.Core.Path.{◌∙◌, ap}
use mir.Syntax.{w32, w64}
use borrow.Author.Rules.{rules}
use Rattle.format.specs.Message.{ok}
use Rattle.format.specs.Asking.{truth}
use Rattle.integer.proofs.Signs.{held}
use Rattle.ask.proofs.Answering.{impossible, told, one, not-octet, not-char, not-boolean, narrowed-rest}
use Rattle.ask.proofs.ask.Goals as goal

pub returns-in_err-sort : goal.returns-in_err-sort
returns-in_err-sort c = search rules ∙ impossible c.args.row c.args.wanted c.judge.ensures c.ok_or.ensures.value (held {w = w32} (search rules)) (held {w = w64} (search rules)) c.in_err-sort.was

pub returns-in-Octet-Octet : goal.returns-in-Octet-Octet
returns-in-Octet-Octet c = rw c.in-Octet-Octet.is-1 (ap ok (held {w = w64} {z = c.args.row.number} (search rules)) ∙ rw (c.in-Octet-Octet.is-0, c.in-Octet-Octet.is-1) at (told c.args.row c.args.wanted c.judge.ensures c.ok_or.ensures.value (held {w = w32} (search rules)) (held {w = w64} (search rules)) c.in_ok-sort.was))

pub returns-in-Char-Char : goal.returns-in-Char-Char
returns-in-Char-Char c = rw c.in-Char-Char.is-1 (ap ok (held {w = w64} {z = c.args.row.number} (search rules)) ∙ rw (c.in-Char-Char.is-0, c.in-Char-Char.is-1) at (told c.args.row c.args.wanted c.judge.ensures c.ok_or.ensures.value (held {w = w32} (search rules)) (held {w = w64} (search rules)) c.in_ok-sort.was))

pub returns-in-Boolean-Boolean : goal.returns-in-Boolean-Boolean
returns-in-Boolean-Boolean c = rw c.in-Boolean-Boolean.is-1 (ap ok (one c.args.row.number (search rules)) ∙ rw (c.in-Boolean-Boolean.is-0, c.in-Boolean-Boolean.is-1) at (told c.args.row c.args.wanted c.judge.ensures c.ok_or.ensures.value (held {w = w32} (search rules)) (held {w = w64} (search rules)) c.in_ok-sort.was))

pub returns-in-Null-default : goal.returns-in-Null-default
returns-in-Null-default c = rw c.in-Null-default.is-0 at (told c.args.row c.args.wanted c.judge.ensures c.ok_or.ensures.value (held {w = w32} (search rules)) (held {w = w64} (search rules)) c.in_ok-sort.was)

pub returns-in_default : goal.returns-in_default
returns-in_default c =
    let z : to_z w64 (of_z w64 c.args.row.number) ≡ c.args.row.number = held {w = w64} (search rules) in
    let so = told c.args.row c.args.wanted c.judge.ensures c.ok_or.ensures.value (held {w = w32} (search rules)) z c.in_ok-sort.was in
    let says = rw z at c.narrowed.ensures in
    elim c.in_default.branch [
      | in_default-via-in-Octet+in_default w ↦ says ∙ rw w.in_default.is-0 (not-octet c.args.wanted c.args.row.number w.in_default.not-Octet-1) ∙ rw w.in_default.is-0 at so
      | in_default-via-in-Char+in_default w ↦ says ∙ rw w.in_default.is-0 (not-char c.args.wanted c.args.row.number w.in_default.not-Char-1) ∙ rw w.in_default.is-0 at so
      | in_default-via-in-Boolean+in_default w ↦ says ∙ rw w.in_default.is-0 (not-boolean c.args.wanted (truth c.args.row.number) w.in_default.not-Boolean-1) ∙ rw w.in_default.is-0 at so
      | in_default-via-in_default w ↦ says ∙ narrowed-rest c.in_ok-sort.sort c.args.wanted c.args.row.number w.in_default.not-Octet-0 w.in_default.not-Char-0 w.in_default.not-Boolean-0 w.in_default.not-Null-0 ∙ so
    ]
