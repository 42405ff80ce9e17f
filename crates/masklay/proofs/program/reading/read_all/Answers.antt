use Rattle.std.proofs.Common.{◌≡◌, ◌<◌, [], ◌++◌, length, take, refl, rules, arith, ◌∙◌}
use Rattle.std.proofs.lemmas.Grind.{common_steps}
use Rattle.std.proofs.lemmas.List.{length-take-le}
use Rattle.std.proofs.KnownBytes.{Consumes-nil, Consumes-trans}
use Rattle.masklay.proofs.ReadingLemmas.{kept_more, kept_none}
use Rattle.masklay.proofs.program.reading.read_all.Goals as goal

pub loop-init : goal.loop-init
loop-init g c = record {
  gone = ([], Consumes-nil _, (search rules) ∙ kept_none);
  few = search rules;
  reads = omega arith;
  nonempty_reads = omega arith;
  turns = omega arith;
  unended = refl;
  unfailing = refl;
  buffer = refl;
}

-- the piece joins what was read before it
pub loop-preserved : goal.loop-preserved
loop-preserved g c =
    let (done, consumed, kept) = c.loop.invariant.gone in
    let taken = c.in_ok-taken.taken in
    let piece = take taken c.take.new.buffer in
    let some : 0 < taken = omega arith in
    let long : length piece ≡ taken = length-take-le taken c.take.new.buffer (search rules) in
    record {
      gone = (
        done ++ piece,
        Consumes-trans _ _ _ done piece consumed c.in_ok-taken.ensures.bytes.0,
        kept_more done c.loop.kept.items piece c.keep.new.kept.items kept c.in_ok-keep.ensures.kept,
      );
      few = c.in_ok-keep.ensures.few;
      reads = grind (arith, common_steps);
      nonempty_reads = grind (arith, common_steps);
      turns = omega arith;
      unended = grind (arith, common_steps);
      unfailing = grind (arith, common_steps);
      buffer = search rules;
    }
