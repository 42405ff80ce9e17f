-- The shapes of an operation stay until another transaction draws there.
use Rattle.std.proofs.Common.{◌≡◌, ℕ, Bool, false, List, [], ◌∷◌, ◌++◌, Some, ap, sym, subst, ◌∙◌}
use Rattle.std.specs.Prelude.{MatchBool}
use Rattle.std.specs.List.{AllByRecursion}
use Rattle.lay_cells.specs.declared.cell_id.CellId.{CellId}
use Rattle.lay_layouts.specs.Layout.{Layout}
use Rattle.lay_layouts.specs.Lent.{LentShape, shapes_in}
use Rattle.lay_layouts.specs.Sound.{IsSound}
use Rattle.txn_commands.specs.declared.command.Command.{Command}
use Rattle.txn_commands.specs.declared.command.TxnId.{TxnId}
use Rattle.txn_commands.specs.declared.element.Element.TheVariants.{Layer}
use Rattle.txn_commands.specs.Agreement.{Agree}
use Rattle.txn_commands.specs.Effects.{after_each, begun, effect}
use Rattle.txn_rules.proofs.Below.{shapes_agree}
use Rattle.txn_rules.proofs.Runs.{goes_on}
use Rattle.txn_rules.proofs.Sound.{run_sound}
use Rattle.undo_rules.specs.declared.log.Logged.{Logged}
use Rattle.undo_rules.specs.Histories.{Chain, RunsBetween}
use Rattle.undo_rules.specs.Links.{Entry, txn_eq}
use Rattle.undo_rules.proofs.Grounds.{ran_sound}
use Rattle.undo_laws.specs.Laws.{HoldWhereAsked}
use Rattle.undo_laws.specs.Staying.{HasNoItemOf, OperationsStay, drawing_command}
use Rattle.undo_laws.proofs.Others.{ids_stay_free, others_stay}
use Rattle.undo_laws.proofs.Passages.{Keeps, aside_agree, chain_through, none_made, others_named, run_cut}
use Rattle.undo_laws.proofs.Places.{places_told}

-- what is so of the layout before the transaction: it is sound, and has no item with an id of it where the base has none
record IsGround (base : Layout) (txn : TxnId) (layout : Layout) : Type 0 where
  sound : IsSound layout
  none : HasNoItemOf txn base → HasNoItemOf txn layout

each_keeps : (log : List Logged) (base : Layout) (txn : TxnId) (entries : List Entry) →
    AllByRecursion (λ other. txn_eq other.txn txn ≡ false) entries → AllByRecursion (Keeps log (IsGround base txn)) entries
each_keeps log base txn [] apart = tt
each_keeps log base txn (entry ∷ entries) apart = (
  λ l m ran ground. record {
    sound = ran_sound log entry l m ran ground.sound;
    none = λ free. none_made log txn entry apart.0 l m ran (ground.none free);
  },
  each_keeps log base txn entries apart.1,
)

-- shapes that the rest of the transaction, and those behind it, left
shapes_kept : (cell : CellId) (out : List ℕ) (drawn last after layout : Layout) → shapes_in last cell out ≡ shapes_in drawn cell out →
    last ≡ after → Agree after layout (Layer cell out) → shapes_in drawn cell out ≡ shapes_in layout cell out
shapes_kept cell out drawn last after layout left same agree =
    sym left ∙ ap (λ l. shapes_in l cell out) same ∙ shapes_agree after layout cell out agree

pub stay : OperationsStay
stay s d sound kept live told =
    let command : Command = drawing_command d in
    let (ground, replays, is, chain) = chain_through s.log (IsGround s.base s.entry.txn) s.before (s.entry ∷ s.later) s.base s.layout
    (each_keeps s.log s.base s.entry.txn s.before (others_named s.before s.entry s.later kept.named)) kept.chain
    (record { sound = sound; none = λ free. free }) in
    let (after, ran, behind) : (next : Layout) × RunsBetween s.log s.entry ground next × Chain s.log next s.later s.layout =
    subst (λ (b : Bool). MatchBool b ((next : Layout) × RunsBetween s.log s.entry ground next × Chain s.log next s.later s.layout)
    (Chain s.log ground s.later s.layout)) live chain in
    let same : ran.commands ≡ s.earlier ++ command ∷ s.rest = cc (ran.told, told) in
    let runs : after_each s.entry.txn (s.earlier ++ command ∷ s.rest) (begun ground) ≡ Some ran.run =
    subst (λ (cs : List Command). after_each s.entry.txn cs (begun ground) ≡ Some ran.run) same ran.runs in
    let (reached, reaches, on) = run_cut s.entry.txn s.earlier (command ∷ s.rest) (begun ground) ran.run runs in
    let (next, does, ends) = goes_on (effect s.entry.txn command reached) (λ run. after_each s.entry.txn s.rest run) ran.run on in
    let drawn : HoldWhereAsked reached.layout d.op d.cell d.a d.b (shapes_in next.1.layout d.cell d.out) =
    places_told s.entry.txn reached d.op d.cell d.a d.b d.out next
    (run_sound s.entry.txn s.earlier (begun ground) reached reaches is.sound) does in
    record {
      way = record {
        start = ground;
        reached = reached;
        next = next;
        last = ran.run;
        start_is = replays;
        reaches = reaches;
        does = does;
        ends = ends;
      };
      holds = λ left aside.
          subst (λ (ss : List LentShape). HoldWhereAsked reached.layout d.op d.cell d.a d.b ss)
          (shapes_kept d.cell d.out next.1.layout ran.run.layout after s.layout left ran.after_is
          (aside_agree s.log (Layer d.cell d.out) s.later after s.layout aside behind)) drawn;
      others = λ free. others_stay s.entry.txn reached d.op d.cell d.a d.b d.out next
          (ids_stay_free s.entry.txn s.earlier ground reached (is.none free) reaches) does;
    }
