-- The parts are those of bands that hold all edges, so that written into one list they are all labels.
use Rattle.std.proofs.Common.{rules}
use Rattle.band_workers.proofs.WriteLemmas.{AreParts, are_below, written_is}
use Rattle.band_workers.proofs.scoped_bands.label_by.Goals as goal

pub written-requires : goal.written-requires
written-requires g c =
    let parts : AreParts c.args.op c.args.edges.now c.in_ok-cuts.cuts.items c.in_ok-parts.parts.items = record {
      paired = c.edges.ensures.paired;
      count = search rules;
      each = search rules;
      whole = search rules;
    } in
    let below = are_below c.args.op c.args.edges.now c.in_ok-cuts.cuts.items c.in_ok-parts.parts.items parts in
    search (rules, below)

pub returns : goal.returns
returns g c =
    let parts : AreParts c.args.op c.args.edges.now c.in_ok-cuts.cuts.items c.in_ok-parts.parts.items = record {
      paired = c.edges.ensures.paired;
      count = search rules;
      each = search rules;
      whole = search rules;
    } in
    let written = written_is c.args.op c.args.edges.now c.in_ok-cuts.cuts.items c.in_ok-parts.parts.items parts in
    search (rules, written)
