-- The laws are theorems about all edges.
use Rattle.std.proofs.Common.{arith}
use Rattle.lay_point.proofs.Signs.{linear}
use Rattle.lay_oriented.specs.Winding.{turn, winding}
use Rattle.lay_oriented.proofs.WindingLemmas.{sum_of-append, sum_of-permutation, turn-IsTurn, winding_parity}
use Rattle.lay_oriented.proofs.BridgeWinding.{winding-bridged}
use Rattle.lay_oriented.proofs.laws.winding_has_laws.Goals as goal

pub returns-clause-parity : goal.returns-clause-parity
returns-clause-parity c = winding_parity

pub returns-clause-order : goal.returns-clause-order
unfolding winding
returns-clause-order c = λ edges others k x y moved. sum_of-permutation (turn k x y) edges others moved

pub returns-clause-sum : goal.returns-clause-sum
unfolding winding
returns-clause-sum c = λ edges others k x y. sum_of-append (turn k x y) edges others

pub returns-clause-reverse : goal.returns-clause-reverse
unfolding winding
returns-clause-reverse c = λ e k x y. let back = (turn-IsTurn k x y).turned e.0 e.1 in omega (arith, linear)

pub returns-clause-bridged : goal.returns-clause-bridged
returns-clause-bridged c = winding-bridged
