use Rattle.std.proofs.Common.{subst}
use Rattle.face_sweep.specs.Reaches.{AreTurns, key_of}
use Rattle.face_sweep.proofs.reach.Reach.of_edges.Goals as goal

pub returns : goal.returns
returns c = record {
  boxes = c.in_ok-boxes.ensures;
  traced = record {
    rising = c.sort_once.ensures.increasing;
    all = λ n o given listed none. (c.sort_once.ensures.members (key_of o)).1 (c.in_ok-turns.ensures.untold n o given listed none);
  };
  turns = subst (λ l. AreTurns c.args.edges.now c.in_ok-boxes.boxes l c.in_ok-turns-2.turns.items) c.as_slice-2.ensures.value
      c.in_ok-turns-2.ensures;
}
