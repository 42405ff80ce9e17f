-- The laws of histories.
use Rattle.std.proofs.Common.{◌≡◌, List, None, true, false, [], ◌∷◌, ◌++◌, map, sym, ap, subst, ◌∙◌}
use Rattle.std.proofs.lemmas.List.{length-map}
use Rattle.lay_layouts.specs.Layout.{Layout}
use Rattle.txn_commands.specs.Records.{applied}
use Rattle.undo_rules.specs.declared.log.Logged.{Logged}
use Rattle.undo_rules.specs.Histories.{AreKept}
use Rattle.undo_rules.specs.Laws.{AnUndoTakesOut, ARedoPutsBack, TheLayoutIsTheReplay}
use Rattle.undo_rules.specs.Links.{Entry, first_moved, links_to, live_of, marked, trace_of}
use Rattle.undo_rules.proofs.Chains.{no_reader}
use Rattle.undo_rules.proofs.Committing.{chain_replays}
use Rattle.undo_rules.proofs.Moved.{unmoved}
use Rattle.undo_rules.proofs.Roots.{root_of}
use Rattle.undo_rules.proofs.Undoing.{named_front, redone_kept, undone_kept}

pub replays : TheLayoutIsTheReplay
replays log base layout entries kept = chain_replays log base entries layout kept.chain

pub takes_out : AnUndoTakesOut
takes_out log base layout before entry later sound kept live unread =
    let (end, still, to, back, lead) = undone_kept log base layout before entry later sound live (no_reader entry.writes later unread)
    kept in
    let (_, links) = root_of log base [] [] before entry later kept.rooted in
    record {
      kept = subst (λ (l : Layout). AreKept log base l (before ++ marked false entry ∷ later)) (sym to) still;
      links = links live;
      again = ap (λ l. applied l entry.writes) to ∙ back;
    }

-- a transaction none of whose links moved is linked to what it has seen
pub links_seen : (log : List Logged) (base layout : Layout) (before : List Entry) (entry : Entry) (later : List Entry) →
    AreKept log base layout (before ++ entry ∷ later) → first_moved before (links_to before entry.footprint) entry.seen ≡ None →
    links_to before entry.footprint ≡ entry.seen
links_seen log base layout before entry later kept unmoved_links =
    let (root, _) = root_of log base [] [] before entry later kept.rooted in
    unmoved before entry.footprint (map live_of before) root.marks (named_front before (entry ∷ later) kept.named)
    (length-map before live_of ∙ sym (length-map before trace_of)) root.count
    (ap (λ seen. first_moved before (links_to before entry.footprint) seen) root.seen ∙ unmoved_links) ∙ root.seen

pub puts_back : ARedoPutsBack
puts_back log base layout before entry later sound kept undone unread unmoved_links =
    let same = links_seen log base layout before entry later kept unmoved_links in
    let (end, still, to, lead) = redone_kept log base layout before entry later sound undone (no_reader entry.writes later unread) same
    kept in
    subst (λ (l : Layout). AreKept log base l (before ++ marked true entry ∷ later)) (sym to) still
