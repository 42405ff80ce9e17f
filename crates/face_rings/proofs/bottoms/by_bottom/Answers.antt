use Rattle.std.proofs.Common.{◌≡◌, ◌<◌, All, Contains, length, map, ◌∙◌, ap, Vec, Global, ℕ}
use Rattle.face_rings.specs.declared.bottoms.Bottom.{Bottom}
use Rattle.face_rings.specs.Joining.{AreByBottom}
use Rattle.face_rings.proofs.BottomLemmas.{has_all, if_ok, numbers_by_bottom, numbers_inside}
use Rattle.face_rings.proofs.bottoms.by_bottom.Goals as goal

pub returns-clause-inside : goal.returns-clause-inside
returns-clause-inside c =
    if_ok c.numbers_of.result (λ (numbers : Vec ℕ Global). numbers.items ≡ map (λ (b : Bottom). b.number) c.deref.result.now)
    (λ numbers. All (λ k. k < length c.args.boxes.now) numbers.items)
    (λ numbers is. numbers_inside c.args.boxes.now c.in_ok-bottoms.bottoms.items numbers.items c.in_ok-bottoms.ensures
    (is ∙ ap (map (λ (b : Bottom). b.number)) c.deref.ensures.value)) c.numbers_of.ensures

pub returns-clause-all : goal.returns-clause-all
returns-clause-all c =
    if_ok c.numbers_of.result (λ (numbers : Vec ℕ Global). numbers.items ≡ map (λ (b : Bottom). b.number) c.deref.result.now)
    (λ numbers. (k : ℕ) → k < length c.args.boxes.now → Contains numbers.items k)
    (λ numbers is. has_all c.args.boxes.now c.in_ok-bottoms.bottoms.items numbers.items c.in_ok-bottoms.ensures
    (is ∙ ap (map (λ (b : Bottom). b.number)) c.deref.ensures.value)) c.numbers_of.ensures

pub returns-clause-by_bottom : goal.returns-clause-by_bottom
returns-clause-by_bottom c =
    if_ok c.numbers_of.result (λ (numbers : Vec ℕ Global). numbers.items ≡ map (λ (b : Bottom). b.number) c.deref.result.now)
    (λ numbers. AreByBottom c.args.boxes.now numbers.items)
    (λ numbers is. numbers_by_bottom c.args.boxes.now c.in_ok-bottoms.bottoms.items numbers.items c.in_ok-bottoms.ensures
    (is ∙ ap (map (λ (b : Bottom). b.number)) c.deref.ensures.value)) c.numbers_of.ensures
