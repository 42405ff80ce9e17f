-- A text means a sound layout without ids of a session.
use Rattle.std.proofs.Common.{◌≡◌, ℕ, ◌+◌, ◌≤◌, List, [], ◌∷◌, Bool, true, false, nat_lt, length, None, Some, Result, Ok, Err}
use Rattle.std.proofs.Common.{refl, sym, subst, ap, ◌∙◌, cond}
use Rattle.std.specs.declared.cmp.Ordering.TheVariants.{Greater}
use Rattle.std.specs.FinMap.{find, get-from_entries}
use Rattle.std.specs.Ordering.{eq_by_cmp, is_eq, nat_cmp, ordering_then}
use Rattle.std.specs.Cmp.{nat_cmp_is}
use Rattle.cif_grammar.specs.Cutting.{Ending, Breaks, Ends, cut}
use Rattle.cif_read.specs.declared.content.Content.{Content}
use Rattle.cif_read.specs.declared.fault.CifFault.{CifFault}
use Rattle.cif_read.specs.declared.file.TheConstants.{MAX_TEXT}
use Rattle.cif_read.specs.Content.{empty_content}
use Rattle.cif_read.specs.Contents.{Contents, IsSoundFile}
use Rattle.cif_read.specs.Kept.{IsKept}
use Rattle.cif_read.specs.Meaning.{IsEndOf, after_bytes, after_pieces, content_in, content_within, too_long}
use Rattle.cif_read.proofs.BindingLemmas.{sound_file}
use Rattle.cif_read.proofs.MeaningLemmas.{at_end_keeps}
use Rattle.cif_read.proofs.PieceFacts.{kept_step}
use Rattle.cif_read.proofs.StepFacts.{start_kept, then_ok}
use Rattle.lay_layouts.specs.declared.id.ItemId.{ItemId}
use Rattle.lay_layouts.specs.declared.item.Item.{Item}
use Rattle.cif_layout.specs.FromCif.{items_of_elements, layout_of}
use Rattle.lay_layouts.specs.IdOrder.{ids_total}
use Rattle.lay_layouts.specs.Ids.{id_cmp}
use Rattle.lay_layouts.specs.LayoutWith.{numbered_from, text_id}
use Rattle.lay_layouts.specs.Sound.{IsSound}
use Rattle.cif_layout.proofs.SoundLemmas.{layout_of-sound}
use Rattle.txn_commands.specs.declared.command.TxnId.{TxnId}
use Rattle.undo_laws.specs.Staying.{HasNoItemOf}
use Rattle.session_laws.specs.Histories.{TextsMeanBases}

-- what is meant after commands keeps what is kept of the content before them
kept_pieces : (pieces : List (ℕ × List ℕ)) (ending : Ending) (content last : Content) → IsKept content
    → after_pieces content pieces ending ≡ Ok last → IsKept last
unfolding after_pieces
kept_pieces [] (Breaks offset) content last kept e = absurd cc
kept_pieces [] (Ends offset behind) content last kept e = at_end_keeps IsKept content offset behind (Ok last) (sym e) kept
kept_pieces (p ∷ ps) ending content last kept e =
    let then = then_ok (after_bytes content p.0 p.1) (λ next. after_pieces next ps ending) last e in
    kept_pieces ps ending then.0 last ((kept_step content then.0 p.0 p.1 kept then.1).1.kept kept) then.2

kept_text : (text : List ℕ) (content : Content) → content_within text ≡ Ok content → IsKept content
unfolding content_in
kept_text text content e = by (nat_lt MAX_TEXT (length text)) e where
  by : (b : Bool) → cond b (Err too_long) (content_in text) ≡ Ok content → IsKept content
  by true f = absurd cc
  by false f = kept_pieces (cut text).pieces (cut text).ending empty_content content start_kept f

meaning_sound : (text : List ℕ) (file : Contents) (r : Result Content CifFault) → content_within text ≡ r → IsEndOf r (Ok file)
    → IsSound (layout_of file)
meaning_sound text file (Err fault) e end = absurd cc
meaning_sound text file (Ok content) e (same, bound, acyclic) =
    layout_of-sound file (subst IsSoundFile (sym same) (sound_file content (kept_text text content e) bound acyclic))

-- an id of a session is not among those of a text
apart : (id : ItemId) (k : ℕ) → 1 ≤ id.session → eq_by_cmp id_cmp id (text_id k) ≡ false
apart id k first =
    ap (λ o. is_eq (ordering_then o (ordering_then (nat_cmp id.txn 0) (nat_cmp id.seq k)))) (sym (nat_cmp_is id.session 0 Greater first))

unfound : (k : ℕ) (items : List Item) (id : ItemId) → 1 ≤ id.session → find id_cmp id (numbered_from k items) ≡ None
unfound k [] id first = refl
unfound k (item ∷ items) id first =
    ap (λ b. cond b (Some item) (find id_cmp id (numbered_from (k + 1) items))) (apart id k first) ∙ unfound (k + 1) items id first

has_none : (file : Contents) (txn : TxnId) → 1 ≤ txn.session → HasNoItemOf txn (layout_of file)
has_none file txn first id session number =
    let items = items_of_elements file.elements in
    get-from_entries ids_total (numbered_from 1 items) id ∙ unfound 1 items id (subst (λ n. 1 ≤ n) (sym session) first)

pub bases : TextsMeanBases
bases text file meaning = (meaning_sound text file (content_within text) refl meaning, has_none file)
