-- The kept points are the bridged path, about which the law is a theorem.
use Rattle.std.proofs.Common.{◌≡◌, rules, List, ◌∷◌, ℤ, IfOk, Result, Ok, Err}
use Rattle.lay_point.specs.declared.point.Point.{Point}
use Rattle.lay_point.specs.Bridges.{bridged}
use Rattle.lay_point.specs.Parity.{odd}
use Rattle.lay_point.specs.RingEdges.{edges_of, edges_of_ring}
use Rattle.lay_point.specs.Rings.{IsRing, without_repeats}
use Rattle.face_rings.proofs.BridgeParity.{odd-bridged}
use Rattle.face_rings.proofs.bridging.bridge.Goals as goal

pub returns-in_default-clause-value : goal.returns-in_default-clause-value
unfolding bridged without_repeats
returns-in_default-clause-value c = search rules

pub returns-clause-value : goal.returns-clause-value
unfolding bridged
returns-clause-value c = search rules

odd_where_bridged : {T E : Type 0} (items : T → List Point) (result : Result T E) (ring : List Point) (rings all : List (List Point))
    → IsRing ring → all ≡ ring ∷ rings → IfOk result (λ path. items path ≡ bridged all)
    → IfOk result (λ path. (k x y : ℤ) → odd (edges_of_ring (items path)) k x y ≡ odd (edges_of all) k x y)
odd_where_bridged items (Ok path) ring rings all h all_is value = λ k x y. rw (value, all_is) (odd-bridged ring rings h k x y)
odd_where_bridged items (Err e) ring rings all h all_is value = value

pub returns-clause-parity : goal.returns-clause-parity
unfolding bridged
returns-clause-parity c =
    let value : IfOk c.without_repeats.result (λ path. path.items ≡ bridged c.args.rings.now) = search rules in
    odd_where_bridged (λ path. path.items) c.without_repeats.result c.in-Some.first.now c.in-Some.others.now c.args.rings.now
    (search rules) (search rules) value
