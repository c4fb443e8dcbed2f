use Rattle.std.proofs.Common.{◌≡◌, ◌+◌, ◌≤◌, refl, subst, ℕ, length, arith, rules}
use Rattle.std.specs.Prelude.{Option}
use Rattle.measure.specs.Identities.{one}
use Rattle.measure.proofs.Ids.{over}
use Rattle.measure.proofs.identities.Identities.close.Goals as goal

pub returns-in-Some : goal.returns-in-Some
returns-in-Some c =
    let l = c.args.self.now in
    let long : length l.ended ≡ 64 = search rules in
    let room = subst (λ (i : Option ℕ). l.ended_count + one i ≤ l.given_count) c.in-Some.is c.requires in
    over l _ c.in-Some.is (omega (arith, room, l.few)) refl refl refl refl
