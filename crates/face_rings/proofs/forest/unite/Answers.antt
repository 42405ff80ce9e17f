use Rattle.std.proofs.Common.{◌≡◌, sym, ◌∙◌, subst, arith, set, get_or, ℕ, ◌<◌, length}
use Rattle.std.specs.Prelude.{max, min}
use Rattle.std.proofs.Math.ListN.{length-set}
use Rattle.face_rings.specs.Forest.{root_of, united}
use Rattle.face_rings.proofs.ForestLemmas.{root_ends, united_roots}
use Rattle.face_rings.proofs.forest.unite.Goals as goal

pub returns-clause-united : goal.returns-clause-united
returns-clause-united c = λ k lt.
    let p = c.args.parents.now in
    let m = c.root-first.new.parents in
    let n = c.root-second.new.parents in
    let a = c.root-first.result in
    let b = c.root-second.result in
    let one : length m ≡ length p = c.root-first.auto.parents in
    let two : length n ≡ length m = c.root-second.auto.parents in
    let at : (k : ℕ) → k < length p → root_of n k ≡ root_of p k =
    λ k lt. c.root-second.ensures.kept k (omega (arith, one)) ∙ c.root-first.ensures.kept k lt in
    let is_a : a ≡ root_of p c.args.i = c.root-first.ensures.value in
    let is_b : b ≡ root_of p c.args.j = c.root-second.ensures.value ∙ c.root-first.ensures.kept c.args.j c.requires.second in
    let root_a : root_of n c.args.i ≡ a = at c.args.i c.requires.first ∙ sym is_a in
    let root_b : root_of n c.args.j ≡ b = at c.args.j c.requires.second ∙ sym is_b in
    let own_a : get_or n a 0 ≡ a = subst (λ z. get_or n z 0 ≡ z) root_a
    (root_ends n c.root-second.ensures.forest c.args.i (omega (arith, one, two, c.requires.first))) in
    let own_b : get_or n b 0 ≡ b = subst (λ z. get_or n z 0 ≡ z) root_b
    (root_ends n c.root-second.ensures.forest c.args.j (omega (arith, one, two, c.requires.second))) in
    let is_set : set n c.max.result c.min.result ≡ set n (max a b) (min a b) = (λ t. set n (c.max.ensures t) (c.min.ensures t)) in
    united_roots n (set n c.max.result c.min.result) a b c.root-second.ensures.forest
    (omega (arith, c.root-first.ensures.inside, one, two)) (omega (arith, c.root-second.ensures.inside, two)) own_a own_b
    (length-set n c.max.result c.min.result) is_set k (omega (arith, one, two))
    ∙ (λ t. united (is_a t) (is_b t) (at k lt t))
