-- The laws of legal logs.
use Rattle.std.proofs.Common.{◌≡◌, ℕ, List, [], ◌∷◌, ◌++◌, Option, Some, refl, ap, sym, ◌∙◌, subst}
use Rattle.std.proofs.lemmas.List.{append_assoc, append-nil}
use Rattle.undo_rules.specs.declared.log.Answer.{Answer}
use Rattle.undo_rules.specs.declared.log.Logged.{Logged}
use Rattle.undo_rules.specs.Books.{History}
use Rattle.undo_rules.specs.Steps.{fresh}
use Rattle.desk_rules.specs.Laws.{SameCountMeansAll, LogsAreKept, LogsLeadToOne}
use Rattle.desk_rules.specs.Legal.{Grew, Grown, IsLegal, Leads, outcome}
use Rattle.desk_rules.proofs.FitLemmas.{from_start, same_own}
use Rattle.desk_rules.proofs.LegalLemmas.{grown_call}

led : (n : ℕ) (h next : History) (c : Logged) → Leads n h c next → Grew h c.session c.call c.answer next
led n h next c leads = subst (Grown h c.session c.call) leads.outcome (grown_call h c.session c.call)

-- behind calls that lead on from any history
kept_from : (n : ℕ) (start end : History) (log : List Logged) → IsLegal n start log end
    → (end.log ≡ start.log ++ log) × (end.base ≡ start.base) × (end.limit ≡ start.limit)
kept_from n start end [] legal = (
  ap (λ (h : History). h.log) legal ∙ sym (append-nil start.log),
  ap (λ (h : History). h.base) legal,
  ap (λ (h : History). h.limit) legal,
)
kept_from n start end (c ∷ cs) legal =
    let grew = led n start legal.0 c legal.1 in
    let rest = kept_from n legal.0 end cs legal.2 in (
      rest.0 ∙ ap (λ log. log ++ cs) grew.log ∙ append_assoc start.log (c ∷ []) cs,
      rest.1 ∙ grew.base,
      rest.2 ∙ grew.limit,
    )

pub logs_are_kept : LogsAreKept
logs_are_kept sessions base limit log h legal =
    let kept = kept_from sessions (fresh base limit) h log legal in record { log = kept.0; base = kept.1; limit = kept.2 }

same_next : (g h : History) (answer : Option Answer) (one two : Option Answer × History) → one ≡ (answer, g) → two ≡ (answer, h)
    → one ≡ two → g ≡ h
same_next g h answer one two is-g is-h same = ap (λ (p : Option Answer × History). p.1) (sym is-g ∙ same ∙ is-h)

pub logs_lead_to_one : LogsLeadToOne
logs_lead_to_one n start [] g h legal other = legal ∙ sym other
logs_lead_to_one n start (c ∷ cs) g h legal other =
    let same : legal.0 ≡ other.0 =
    same_next legal.0 other.0 (Some c.answer) (outcome start c.session c.call)
    (outcome start c.session c.call) legal.1.outcome other.1.outcome refl in
    logs_lead_to_one n other.0 cs g h (subst (λ (mid : History). IsLegal n mid cs g) same legal.2) other.2

pub as_many_are_all : SameCountMeansAll
as_many_are_all session log own rising all len = same_own session 0 log own rising (from_start log own all) len
