use Rattle.lay_flat.proofs.OrderLemmas.{numbered_in_order}
use Rattle.lay_flat.proofs.order_laws.shapes_are_numbered_in_order.Goals as goal

pub returns : goal.returns
returns c = numbered_in_order
