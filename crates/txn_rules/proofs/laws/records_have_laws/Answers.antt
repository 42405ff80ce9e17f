use Rattle.txn_rules.proofs.LawProofs.{agreement_kept, leaders_apply, records_are_one, records_come_out}
use Rattle.txn_rules.proofs.LawProofs.{records_go_past, records_lead, unmet_kept}
use Rattle.txn_commands.proofs.Merging.{changes_merge, slot_changes_merge}
use Rattle.txn_rules.proofs.laws.records_have_laws.Goals as goal

pub returns : goal.returns
returns c = record {
  lead = records_lead;
  apply = leaders_apply;
  one = records_are_one;
  unmet = unmet_kept;
  agreement = agreement_kept;
  past = records_go_past;
  out = records_come_out;
  merge = changes_merge;
  slots_merge = slot_changes_merge;
}
