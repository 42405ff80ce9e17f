-- A ring is copied where its turn takes it, and lent where the turn changes nothing.
use Rattle.std.proofs.Common.{◌≡◌, map, sym, ap, ◌∙◌, Vec, Global}
use Rattle.std.specs.Option.{option_map_or}
use Rattle.lay_point.specs.declared.point.Point.{Point}
use Rattle.lay_point.specs.Turns.{turned}
use Rattle.snap_chains.specs.declared.owner.Owner.{Owner}
use Rattle.bool_rules.specs.Shapes.{owned_by}
use Rattle.layer_ops.proofs.Unturned.{unturned_points}
use Rattle.layer_ops.proofs.turning.turned_ring.Goals as goal
use Rattle.layer_ops.proofs.turning.turned_ring.Goals.{then-is_unturned, else-is_unturned+in_ok-turned_points}

pub returns : goal.returns
returns c =
    let ring = c.ring.inside in
    let lent = ring.points.now in
    let owner : Owner = record { input = c.args.input; shape = ring.shape_no } in
    let points : option_map_or (λ (v : Vec Point Global). v.items) c.if-is_unturned.copied lent ≡ map (turned ring.turn) lent =
    elim c.if-is_unturned.branch [
      | then-is_unturned w ↦
          ap (λ copied. option_map_or (λ (v : Vec Point Global). v.items) copied lent) w.copied-is
          ∙ sym (unturned_points ring.turn lent (sym c.is_unturned.ensures ∙ w.if-is_unturned.true))
      | else-is_unturned+in_ok-turned_points w ↦
          ap (λ copied. option_map_or (λ (v : Vec Point Global). v.items) copied lent) w.copied-is ∙ w.in_ok-turned_points.ensures
    ] in
    ap (λ ps. (owner, ps)) points ∙ ap (owned_by c.args.input) c.ring.view_is
