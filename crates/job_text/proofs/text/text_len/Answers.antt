use Rattle.std.proofs.Common.{◌≡◌, ◌+◌, ap, drop, false, length, rules, sym, take, true, ◌∙◌, true≢false}
use Rattle.byte_io.specs.Lines.{IsFirstLine}
use Rattle.job_text.specs.Text.{are_whole, is_section}
use Rattle.job_text.proofs.TextLemmas.{IsTextLen, ended-all, ended-section, plain_to-line, plain_to-whole}
use Rattle.job_text.proofs.text.text_len.Goals as goal
use Rattle.job_text.proofs.text.text_len.Goals.{After-unwrap, In_default}
use Rattle.job_text.proofs.text.text_len.Goals.{else-are_whole-via-else-are_whole, else-are_whole-via-then-are_whole+else-is_section}

-- the first line of what begins with a `%`
signed_line : (c : After-unwrap) → IsFirstLine (drop c.in-Some.sign c.loop-sign.rest.now) c.unwrap.result.0.now c.unwrap.result.1.now
signed_line c = rw (← c.split_at.ensures.back) (rw (c.unwrap.ensures) at c.split_line.ensures)

ended_before : (c : goal.Then-is_section) → IsTextLen c.args.bytes.now (c.loop-sign.len + c.in-Some.sign)
ended_before c =
    let rest = c.loop-sign.rest.now in
    let sign = c.in-Some.sign in
    let first = signed_line (goal.at.returns-then-is_section-clause-text c).After-unwrap in
    let whole : are_whole (take sign rest) ≡ true = rw (← c.split_at.ensures.front) (search rules) in
    let section : is_section c.unwrap.result.0.now ≡ true = search rules in
    let before = plain_to-whole c.args.bytes.now rest c.loop-sign.len sign c.loop-sign.invariant c.in-Some.ensures.0 whole in
    ended-section c.args.bytes.now (drop sign rest) c.unwrap.result.0.now c.unwrap.result.1.now (c.loop-sign.len + sign) before first.first
    section

pub returns-then-is_section-clause-text : goal.returns-then-is_section-clause-text
returns-then-is_section-clause-text c = (ended_before c).text

pub returns-then-is_section-clause-sections : goal.returns-then-is_section-clause-sections
returns-then-is_section-clause-sections c = (ended_before c).sections

pub loop-sign-preserved : goal.loop-sign-preserved
loop-sign-preserved c =
    let rest = c.loop-sign.rest.now in
    let sign = c.in-Some.sign in
    let line = c.unwrap.result.0.now in
    let first = signed_line (goal.at.loop-sign-preserved c).After-unwrap in
    let other : are_whole (take sign rest) ≡ true → is_section line ≡ false = elim c.else-are_whole.branch [
      | else-are_whole-via-then-are_whole+else-is_section w ↦ λ whole. search rules
      | else-are_whole-via-else-are_whole w ↦
          λ whole. absurd (true≢false (sym whole ∙ ap are_whole (sym c.split_at.ensures.front) ∙ sym w.if-are_whole.ensures))
    ] in
    plain_to-line c.args.bytes.now rest line c.unwrap.result.1.now c.loop-sign.len sign c.loop-sign.invariant c.in-Some.ensures.0
    first other

ended_all : (c : In_default) → IsTextLen c.args.bytes.now (length c.args.bytes.now)
ended_all c = ended-all c.args.bytes.now c.loop-sign.rest.now c.loop-sign.len c.loop-sign.invariant c.in_default.ensures

pub returns-clause-text : goal.returns-clause-text
returns-clause-text c = (ended_all c).text

pub returns-clause-sections : goal.returns-clause-sections
returns-clause-sections c = (ended_all c).sections
