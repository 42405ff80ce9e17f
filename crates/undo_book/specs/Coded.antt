-- How what a book keeps is stored: as its parts.
use Rattle.std.specs.Prelude.{ℕ, Bool, List, Option, refl}
use Rattle.std.specs.Coded.{Coded, code_by, coded×, coded_bool, coded_list, coded_option, coded_ℕ}
use Rattle.lay_layouts.specs.Layout.{Layout, coded_layout}
use Rattle.txn_commands.specs.declared.command.TxnId.{TxnId}
use Rattle.txn_commands.specs.contracts.command.TxnId as txn_id
use Rattle.txn_commands.specs.Elements.{Touched, coded_touched}
use Rattle.txn_commands.specs.Records.{Records}
use Rattle.txn_marks.specs.Coded.{coded_records}
use Rattle.undo_rules.specs.declared.log.Logged.{Logged}
use Rattle.undo_rules.specs.contracts.log.Logged as logged_call
use Rattle.undo_rules.specs.Books.{History, Pending, SessionState}
use Rattle.undo_rules.specs.Links.{Entry}

abbrev pub coded_entry : Coded Entry
coded_entry =
    code_by (TxnId × (ℕ × (Records × (Touched × (List TxnId × Bool)))))
    (coded× txn_id.the_row.coded (coded× coded_ℕ (coded× coded_records (coded× coded_touched
    (coded× (coded_list txn_id.the_row.coded) coded_bool)))))
    (λ e. (e.txn, (e.place, (e.writes, (e.footprint, (e.seen, e.live))))))
    (λ p. record { txn = p.0; place = p.1.0; writes = p.1.1.0; footprint = p.1.1.1.0; seen = p.1.1.1.1.0; live = p.1.1.1.1.1 }) (λ _. refl)

abbrev pub coded_pending : Coded Pending
coded_pending =
    code_by (ℕ × Layout) (coded× coded_ℕ coded_layout) (λ p. (p.place, p.snapshot)) (λ p. record { place = p.0; snapshot = p.1 })
    (λ _. refl)

abbrev pub coded_session_state : Coded SessionState
coded_session_state =
    code_by (ℕ × Option Pending) (coded× coded_ℕ (coded_option coded_pending)) (λ s. (s.opens, s.pending))
    (λ p. record { opens = p.0; pending = p.1 }) (λ _. refl)

abbrev pub coded_history : Coded History
coded_history =
    code_by (Layout × (Layout × (List Logged × (ℕ × (List Entry × List SessionState)))))
    (coded× coded_layout (coded× coded_layout (coded× (coded_list logged_call.the_row.coded)
    (coded× coded_ℕ (coded× (coded_list coded_entry) (coded_list coded_session_state))))))
    (λ h. (h.base, (h.layout, (h.log, (h.limit, (h.entries, h.sessions))))))
    (λ p. record { base = p.0; layout = p.1.0; log = p.1.1.0; limit = p.1.1.1.0; entries = p.1.1.1.1.0; sessions = p.1.1.1.1.1 })
    (λ _. refl)
