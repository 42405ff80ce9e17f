use Rattle.std.proofs.Common.{◌≡◌, ◌∙◌, ℕ, List, None, Option, IsSome, map, length, ap, add-one, arith, replicate, sym, subst}
use Rattle.std.proofs.lemmas.List.{length-map, length-replicate}
use Rattle.std.specs.Global.{Vec}
use Rattle.lay_cells.specs.declared.tally.Tally.{Tally}
use Rattle.lay_cells.specs.Graph.{rows_of}
use Rattle.lay_cells.specs.Places.{ArePositions}
use Rattle.lay_cells.specs.Tallies.{AreTallies, IsLow}
use Rattle.lay_cells.proofs.TallyLemmas.{low, none_at_first, round-more}
use Rattle.lay_cells.proofs.tally.tallied.Goals as goal

pub loop-round-init : goal.loop-round-init
loop-round-init c =
    let rows = rows_of c.args.rows.now.items in
    let made : c.in_ok-tallies.tallies.items ≡ replicate c.len.result None = c.in_ok-tallies.ensures in
    record {
      whole = ap length made ∙ length-replicate c.len.result None
          ∙ omega (arith, length-map c.args.rows.now.items (λ (v : Vec ℕ). v.items), c.len.ensures, c.args.rows.now.ok);
      sound = subst (λ (ts : List (Option Tally)). AreTallies rows ts) (sym made) (none_at_first rows c.len.result);
      known = λ p less none. absurd none;
    }

pub tally_all-requires-clause-order : goal.tally_all-requires-clause-order
tally_all-requires-clause-order c = λ q h. (c.requires.order q).0 h

pub tally_all-requires-clause-shallow : goal.tally_all-requires-clause-shallow
tally_all-requires-clause-shallow c = λ n p. omega (arith, c.requires.bounded n p, c.ranges.rounds.fits)

-- one round more
pub loop-round-preserved : goal.loop-round-preserved
loop-round-preserved c =
    let rows = rows_of c.args.rows.now.items in
    let len : length c.args.rows.now.items ≡ length rows = sym (length-map c.args.rows.now.items (λ (v : Vec ℕ). v.items)) in
    let order : ArePositions (map (λ (e : ℕ × ℕ). e.1) c.args.order.now) (length rows) =
    subst (λ (n : ℕ). ArePositions (map (λ (e : ℕ × ℕ). e.1) c.args.order.now) n) len c.requires.order in
    record {
      whole = c.tally_all.ensures.whole ∙ c.loop-round.invariant.whole;
      sound = c.tally_all.ensures.sound;
      known = λ p less is.
          round-more rows c.loop-round.tallies.items c.tally_all.new.tallies.items _ c.loop-round._round order c.tally_all.ensures
          c.requires.within c.loop-round.invariant.known p less
          (subst (λ (n : ℕ). IsLow rows n p) (add-one c.loop-round._round) is);
    }

-- after as many rounds all are known
pub unwrap-requires : goal.unwrap-requires
unwrap-requires c =
    let rows = rows_of c.args.rows.now.items in
    let end : c.args.rounds ≡ c.loop-round._round = omega (arith, c.loop-round-test.false, c.loop-round.auto) in
    let is : IsLow rows c.loop-round._round c.args.start =
    subst (λ (n : ℕ). IsLow rows n c.args.start) end (low rows c.args.rounds c.args.start
    (c.requires.bounded c.args.rounds c.args.start)) in
    subst (λ (o : Option Tally). IsSome o) (sym c.tally_at-2.ensures)
    (c.loop-round.invariant.known c.args.start c.requires.start is)
