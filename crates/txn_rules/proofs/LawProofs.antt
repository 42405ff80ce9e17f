-- The laws of commands, runs and records, from their lemmas.
use Rattle.std.proofs.Common.{refl, subst}
use Rattle.lay_layouts.specs.Calls.{calls_of}
use Rattle.txn_commands.specs.Covers.{LeavesAlone}
use Rattle.txn_commands.specs.Effects.{begun}
use Rattle.txn_commands.specs.Elements.{Touched}
use Rattle.txn_commands.specs.Laws.{Frame, LeadersApply, PlansAreCovered, PlansAreLocal, ReachedAreWalks}
use Rattle.txn_commands.specs.Laws.{RecordsAreOne, RecordsComeOut, RecordsGoPast, RecordsKeepAgreement, RecordsLead}
use Rattle.txn_commands.specs.Laws.{RunsKeepSound, RunsLeaveAlone}
use Rattle.txn_commands.specs.Laws.{RunsMakeTheirOwn, UnmetIsKept}
use Rattle.txn_commands.specs.Records.{records_between}
use Rattle.txn_commands.proofs.Agreements.{agree-sym}
use Rattle.txn_rules.proofs.Framing.{frame}
use Rattle.txn_rules.proofs.OneRecords.{one_records}
use Rattle.txn_rules.proofs.Overlay.{agree_applied, agree_reverted, past, same_records, unmet_agree}
use Rattle.txn_rules.proofs.Own.{answers_own, new_own}
use Rattle.txn_rules.proofs.Planned.{covered, planned}
use Rattle.txn_rules.proofs.Reach.{reached-walks}
use Rattle.txn_rules.proofs.Runs.{local}
use Rattle.txn_rules.proofs.SamePlans.{same_plan}
use Rattle.txn_rules.proofs.Sound.{run_sound}
use Rattle.txn_commands.proofs.Steps.{applied_leads, lead_between, proper_between, reverted_leads}

pub plans_local : PlansAreLocal
plans_local = same_plan

pub plans_covered : PlansAreCovered
plans_covered new command l act h = covered new l act (planned new command l act h)

pub reached_walks : ReachedAreWalks
reached_walks l from to = reached-walks (calls_of l) from to

pub runs_leave_alone : RunsLeaveAlone
runs_leave_alone txn commands l end h = local txn commands (begun l) end h

pub runs_keep_sound : RunsKeepSound
runs_keep_sound txn commands l end h sound = run_sound txn commands (begun l) end h sound

pub runs_make_their_own : RunsMakeTheirOwn
runs_make_their_own txn commands l end h = (answers_own txn commands l end h, new_own txn commands l end h)

pub framed : Frame
framed txn commands l m end l_sound m_sound h agree =
    let there = frame txn commands (begun l) end h (begun m)
    (record { made = refl; footprint = refl; dones = refl; sound = l_sound; sound_there = m_sound; agree = agree }) in
    let alone = local txn commands (begun m) there.0 there.1 in (
      there.0,
      there.1,
      record {
        dones = there.2.dones;
        made = there.2.made;
        footprint = there.2.footprint;
        records = same_records l m end.layout there.0.layout end.footprint agree (local txn commands (begun l) end h)
            (subst (λ (f : Touched). LeavesAlone m there.0.layout f) there.2.footprint alone) there.2.agree;
        agree = there.2.agree;
      },
    )

pub records_lead : RecordsLead
records_lead l m =
    let proper = proper_between l m in
    let lead = lead_between l m in
    (proper, lead, applied_leads (records_between l m) l m proper lead, reverted_leads (records_between l m) l m proper lead)

pub leaders_apply : LeadersApply
leaders_apply writes l m proper lead = (applied_leads writes l m proper lead, reverted_leads writes l m proper lead)

pub records_are_one : RecordsAreOne
records_are_one = one_records

pub unmet_kept : UnmetIsKept
unmet_kept = unmet_agree

pub agreement_kept : RecordsKeepAgreement
agreement_kept writes l m l' m' e forth back =
    (agree_applied writes l m l' m' e forth back, agree_reverted writes l m l' m' e forth back)

pub records_go_past : RecordsGoPast
records_go_past txn commands writes l m end proper lead l_sound m_sound h apart =
    let there = framed txn commands l m end l_sound m_sound h (λ e here. unmet_agree writes l m e lead (apart e here)) in
    let alone = subst (λ (f : Touched). LeavesAlone m there.0.layout f) there.2.footprint (local txn commands (begun m) there.0 there.1)
    in (
      there.0,
      there.1,
      there.2,
      past writes l m end.layout there.0.layout end.footprint proper lead apart (local txn commands (begun l) end h) alone there.2.agree,
    )

pub records_come_out : RecordsComeOut
records_come_out txn commands writes l m end proper lead l_sound m_sound h apart =
    let there = framed txn commands m l end m_sound l_sound h
    (λ e here. agree-sym l m e (unmet_agree writes l m e lead (apart e here))) in
    let alone = subst (λ (f : Touched). LeavesAlone l there.0.layout f) there.2.footprint (local txn commands (begun l) there.0 there.1)
    in (
      there.0,
      there.1,
      there.2,
      past writes l m there.0.layout end.layout end.footprint proper lead apart alone (local txn commands (begun m) end h)
          (λ e here. agree-sym end.layout there.0.layout e (there.2.agree e here)),
    )
