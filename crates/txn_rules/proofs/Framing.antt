-- Runs of commands go alike on sound layouts that agree on what they touch.
use Rattle.std.proofs.Common.{◌≡◌, ◌+◌, true, false, ◌||◌, List, [], ◌∷◌, ◌++◌, Some, Ok, length, nat_lt, refl, ap, subst, ◌∙◌}
use Rattle.std.proofs.lemmas.Bool.{or_right}
use Rattle.std.specs.FinSet.{contains}
use Rattle.std.specs.Ordering.{eq_by_cmp}
use Rattle.lay_layouts.specs.Layout.{Layout}
use Rattle.lay_layouts.specs.Sound.{IsSound}
use Rattle.txn_commands.specs.declared.command.Command.{Command}
use Rattle.txn_commands.specs.declared.command.Done.{Done}
use Rattle.txn_commands.specs.declared.command.TheConstants.{MAX_COMMANDS}
use Rattle.txn_commands.specs.declared.command.TxnId.{TxnId}
use Rattle.txn_commands.specs.declared.element.Element.{Element}
use Rattle.txn_commands.specs.declared.fault.CmdFault.TheVariants.{TxnFull}
use Rattle.txn_commands.specs.Acts.{Act}
use Rattle.txn_commands.specs.Agreement.{AgreeOn, AgreeOnEach}
use Rattle.txn_commands.specs.Covers.{has}
use Rattle.txn_commands.specs.Effects.{Run, acted, after_each, effect, is_too_much, next_id, perform}
use Rattle.txn_commands.specs.Elements.{Touched, element_cmp, with_elements}
use Rattle.txn_commands.specs.Plans.{plan, refused_if}
use Rattle.txn_commands.proofs.Agreements.{agree-rewritten}
use Rattle.txn_rules.proofs.Planned.{has_first}
use Rattle.txn_rules.proofs.Runs.{IsAct, act_of, goes_on, grows, touched_by}
use Rattle.txn_rules.proofs.SamePlans.{same_plan}
use Rattle.txn_rules.proofs.Sound.{effect_sound}

-- runs that are alike so far, on sound layouts that agree on what one of them will have touched
pub record GoAlike (r s : Run) (touched : Touched) : Type 0 where
  pub made : s.made ≡ r.made
  pub footprint : s.footprint ≡ r.footprint
  pub dones : s.dones ≡ r.dones
  pub sound : IsSound r.layout
  pub sound_there : IsSound s.layout
  pub agree : AgreeOn r.layout s.layout touched

-- an act that a command plans, and for which there is room, keeps the layout sound
performed_sound : (t : TxnId) (c : Command) (r : Run) (act : Act) → plan (next_id t r) c r.layout ≡ Ok act → is_too_much r act ≡ false →
    IsSound r.layout → IsSound (perform r act).layout
performed_sound t c r act planned room sound =
    effect_sound t c r (act.done, perform r act) (record { act = act; plan_is = planned; room = room; next_is = refl }) sound

-- the same act, which keeps both layouts sound, keeps them so
alike_after : (r s : Run) (act : Act) (touched : Touched) → IsSound (perform r act).layout → IsSound (perform s act).layout →
    GoAlike r s touched → GoAlike (perform r act) (perform s act) touched
alike_after r s act touched sound sound_there alike = record {
  made = ap (λ n. n + act.made) alike.made;
  footprint = ap (λ f. with_elements f act.elements) alike.footprint;
  dones = ap (λ ds. ds ++ act.done ∷ []) alike.dones;
  sound = sound;
  sound_there = sound_there;
  agree = λ e there. agree-rewritten r.layout s.layout e act.items act.symbols (alike.agree e there);
}

-- layouts that agree on a set agree on each of a list in it
agree_on_each : (l m : Layout) (touched : Touched) → AgreeOn l m touched → (es : List Element) →
    ((e : Element) → has e es ≡ true → contains touched e ≡ true) → AgreeOnEach l m es
agree_on_each l m touched agree [] within = tt
agree_on_each l m touched agree (e ∷ es) within = (
  agree e (within e (has_first e es)),
  agree_on_each l m touched agree es (λ f here. within f (or_right (eq_by_cmp element_cmp f e) (has f es) here)),
)

-- an accepted command is accepted there too, and the runs go on alike
act_there : (t : TxnId) (c : Command) (r s : Run) (next : Done × Run) (is : IsAct t c r next) (touched : Touched) → GoAlike r s touched →
    ((e : Element) → has e is.act.elements ≡ true → contains touched e ≡ true) →
    (effect t c s ≡ Ok (is.act.done, perform s is.act)) × GoAlike next.1 (perform s is.act) touched
unfolding effect
act_there t c r s next is touched alike within =
    let agree = agree_on_each r.layout s.layout touched alike.agree is.act.elements within in
    let id : next_id t s ≡ next_id t r = λ i. record { session = t.session; txn = t.txn; seq = alike.made i + 1 } in
    let same : plan (next_id t s) c s.layout ≡ Ok is.act = ap (λ n. plan n c s.layout) id
    ∙ same_plan (next_id t r) c r.layout s.layout is.act alike.sound alike.sound_there is.plan_is agree in
    let room : is_too_much s is.act ≡ false =
    (λ i. nat_lt MAX_COMMANDS (length (alike.dones i) + 1) || nat_lt MAX_COMMANDS (alike.made i + is.act.made)) ∙ is.room in
    let sound = performed_sound t c r is.act is.plan_is is.room alike.sound in
    let sound_there = performed_sound t c s is.act same room alike.sound_there in (
      ap (acted s) same ∙ ap (λ b. refused_if b TxnFull (Ok (is.act.done, perform s is.act))) room,
      subst (λ (p : Done × Run). GoAlike p.1 (perform s is.act) touched) is.next_is
          (alike_after r s is.act touched sound sound_there alike),
    )

-- where sound layouts agree on all that a run touches, the run goes alike on both
pub frame : (t : TxnId) (cs : List Command) (start end : Run) → after_each t cs start ≡ Some end → (other : Run) →
    GoAlike start other end.footprint → (s : Run) × (after_each t cs other ≡ Some s) × GoAlike end s end.footprint
frame t [] start end h other alike = let same : start ≡ end = cc in
    (other, refl, subst (λ (r : Run). GoAlike r other end.footprint) same alike)
frame t (c ∷ cs) start end h other alike =
    let step = goes_on (effect t c start) (λ next. after_each t cs next) end h in
    let is = act_of t c start step.0 step.1 in
    let there = act_there t c start other step.0 is end.footprint alike
    (λ e here. grows t cs step.0.1 end step.2 e (touched_by t c start step.0 is e here)) in
    let rest = frame t cs step.0.1 end step.2 (perform other is.act) there.1 in
    (rest.0, rw there.0 rest.1, rest.2)
