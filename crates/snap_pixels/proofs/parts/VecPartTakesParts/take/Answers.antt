use Rattle.std.proofs.Common.{◌≡◌, ◌++◌, [], ◌∷◌, rules}
use Rattle.snap_pixels.proofs.PartLemmas.{IsCrossedInOne-push}
use Rattle.snap_pixels.proofs.parts.VecPartTakesParts.take.Goals as goal

pub returns : goal.returns
returns c =
    let e : c.push.new.self.items ≡ c.args.self.now.items ++ c.args.part ∷ [] = search rules in
    IsCrossedInOne-push (λ part. part.segments.items) c.args.self.now.items c.push.new.self.items c.args.part e
