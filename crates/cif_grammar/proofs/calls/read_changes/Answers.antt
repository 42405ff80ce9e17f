use Rattle.std.proofs.Common.{rules, ◌≡◌, ◌∙◌, sym, Some, None, [], ◌∷◌, ◌++◌, length, ◌+◌, ◌≤◌, subst, List, ℕ}
use Rattle.std.proofs.lemmas.List.{nil_from_length}
use Rattle.cif_grammar.specs.Calls.{change_at, changes_from, changes_of}
use Rattle.cif_grammar.proofs.CallSteps.{behind_shorter, changes_begun, changes_done, changes_none, changes_step}
use Rattle.cif_grammar.proofs.calls.read_changes.Goals as goal

pub loop-rest-init : goal.loop-rest-init
loop-rest-init c =
    let none : c.new-changes.result.items ≡ [] = search rules in
    rw (c.skip-rest.ensures, none) (changes_begun c.args.bytes.now)

pub returns-in_default : goal.returns-in_default
returns-in_default c =
    let rest = c.loop-rest.rest.now in
    let some : 1 ≤ length rest = search rules in
    let none : change_at rest ≡ None = search rules in
    sym (sym c.loop-rest.invariant ∙ changes_none c.loop-rest.changes.items rest some none)

pub loop-rest-smaller : goal.loop-rest-smaller
loop-rest-smaller c =
    let next : change_at c.loop-rest.rest.now ≡ Some (c.in-Some.next, c.in-Some.behind.now) = search rules in
    rw c.skip-rest-in-loop-rest.ensures (behind_shorter c.loop-rest.rest.now c.in-Some.next c.in-Some.behind.now next)

pub loop-rest-preserved : goal.loop-rest-preserved
loop-rest-preserved c =
    let rest = c.loop-rest.rest.now in
    let next : change_at rest ≡ Some (c.in-Some.next, c.in-Some.behind.now) = search rules in
    let kept : c.push.new.self.items ≡ c.loop-rest.changes.items ++ c.in-Some.next ∷ [] = search rules in
    rw (kept, c.skip-rest-in-loop-rest.ensures)
    (sym (changes_step c.loop-rest.changes.items rest c.in-Some.next c.in-Some.behind.now next) ∙ c.loop-rest.invariant)

pub returns : goal.returns
returns c =
    let none : length c.loop-rest.rest.now ≡ 0 = search rules in
    let empty = nil_from_length c.loop-rest.rest.now none in
    let all : changes_from (length {A = ℕ} [] + 1) c.loop-rest.changes.items [] ≡ changes_of c.args.bytes.now =
    subst (λ (t : List ℕ). changes_from (length t + 1) c.loop-rest.changes.items t ≡ changes_of c.args.bytes.now) empty
    c.loop-rest.invariant in
    rw c.from_vec.ensures (sym (changes_done c.loop-rest.changes.items) ∙ all)
