-- Equality of logged calls: the test, and that it decides. It is what `==` of two logged calls answers.
use Rattle.std.specs.Prelude.{Bool}
use Rattle.undo_rules.specs.declared.log.Logged.{Logged}
use Rattle.undo_rules.specs.contracts.log.LoggedPartialEq.TheImpl as logged

-- the same session, call and answer
abbrev pub logged_eq : Logged → Logged → Bool
logged_eq = (logged.ghosts).eq
