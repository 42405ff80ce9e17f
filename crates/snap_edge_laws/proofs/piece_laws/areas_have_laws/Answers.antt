-- Each law is an identity of polynomials.
use Rattle.snap_edge_laws.proofs.Areas.{areas_balance, areas_weigh_x, areas_weigh_y}
use Rattle.snap_edge_laws.proofs.piece_laws.areas_have_laws.Goals as goal

pub returns-clause-balance : goal.returns-clause-balance
returns-clause-balance c = areas_balance

pub returns-clause-weigh : goal.returns-clause-weigh
returns-clause-weigh c = λ p q r t. (areas_weigh_x p q r t, areas_weigh_y p q r t)
