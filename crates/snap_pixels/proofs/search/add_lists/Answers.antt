use Rattle.std.proofs.Common.{◌≡◌, ◌⊎◌, ◌↔◌, take, Contains, List, subst, sym, rules, arith}
use Rattle.std.proofs.lemmas.List.{take_all}
use Rattle.std.specs.Prelude.{flat_map}
use Rattle.lay_point.specs.declared.point.Point.{Point}
use Rattle.snap_pixels.proofs.PartLemmas.{list_more}
use Rattle.snap_pixels.proofs.search.add_lists.Goals as goal

pub loop-list-preserved : goal.loop-list-preserved
loop-list-preserved c =
    list_more (λ (l : List Point). l) c.args.lists.now c.loop-list.list-index c.list-item.result c.args.centres.now c.loop-list.centres
    c.append.new.self (search rules) (sym c.list-item.is) c.in_ok-append.ensures c.loop-list.invariant

pub returns : goal.returns
returns c =
    let all : take c.loop-list.list-index c.args.lists.now ≡ c.args.lists.now =
    take_all c.loop-list.list-index c.args.lists.now (omega (arith, c.loop-list-test.false)) in
    λ p. subst (λ l. Contains c.loop-list.centres p ↔ (Contains c.args.centres.now p ⊎ Contains (flat_map (λ (l' : List Point). l') l) p))
    all (c.loop-list.invariant p)
