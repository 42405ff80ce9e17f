use Rattle.std.proofs.Common.{◌≡◌, ◌≤◌, ◌∙◌, List, ℕ, [], Ok, true, ap, arith, inr, length, rules, sym}
use Rattle.masklay.specs.Outcome.{job_in}
use Rattle.masklay.specs.Reading.{input_kept}
use Rattle.masklay.proofs.ReadingLemmas.{kept_all}
use Rattle.masklay.proofs.program.outcome.job_in.Goals as goal

-- a bare text is kept whole, and has no steps
pub returns : goal.returns
returns c =
    let bytes : List ℕ = c.args.bytes.now in
    let bare : c.args.bare ≡ true = c.if-not-bare.false in
    let few : length bytes ≤ 16777217 = omega (arith, c.requires) in
    let kept : input_kept bytes ≡ bytes = kept_all bytes few in
    let scripts : c.from_vec.result ≡ [] = search rules in
    let order : c.from_vec-2.result ≡ [] = search rules in
    inr ((λ i. Ok (record { cif = sym kept i; scripts = scripts i; order = order i })) ∙ ap (λ b. job_in b bytes) (sym bare))
