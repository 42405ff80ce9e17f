use Rattle.std.proofs.Common.{◌≡◌, ◌++◌, ◌∷◌, [], rules, sym, ◌∙◌, ap}
use Rattle.std.specs.Prelude.{Some}
use Rattle.job_text.specs.Steps.{parsed_points, point_of}
use Rattle.job_text.specs.Words.{words}
use Rattle.job_text.proofs.JobLemmas.{parsed_points-point}
use Rattle.job_text.proofs.step_line.points_of.Goals as goal

pub loop-x-preserved : goal.loop-x-preserved
loop-x-preserved c =
    let x = c.in-Some.x.now in
    let y = c.in-Some-split_word.y.now in
    let point = c.in-Some-point_of.point in
    let old = c.loop-x.points.items in
    let first : words c.loop-x.rest.now ≡ x ∷ words c.in-Some.behind.now = search rules in
    let second : words c.in-Some.behind.now ≡ y ∷ words c.in-Some-split_word.behind.now = search rules in
    let is : point_of x y ≡ Some point = search rules in
    let pushed : c.push.new.self.items ≡ old ++ point ∷ [] = search rules in
    ap (λ l. parsed_points l (words c.in-Some-split_word.behind.now)) pushed
    ∙ sym (parsed_points-point old x y point (words c.loop-x.rest.now) (words c.in-Some.behind.now)
    (words c.in-Some-split_word.behind.now) first second is)
    ∙ c.loop-x.invariant
