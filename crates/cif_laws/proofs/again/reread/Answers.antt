-- What the reader answers for the text is the wrapped layout, or out of memory.
use Rattle.std.proofs.Common.{◌≡◌, ◌⊎◌, ◌∙◌, Result, Ok, Err, inl, inr, ap, subst, rules}
use Rattle.lay_point.specs.declared.memory.NoMemory.{NoMemory}
use Rattle.lay_layouts.specs.Layout.{Layout}
use Rattle.cif_read.specs.Meaning.{AnswersMeaning, no_memory}
use Rattle.cif_layout.specs.FromCif.{layout_of}
use Rattle.cif_write.specs.Text.{text}
use Rattle.cif_write.specs.Wrap.{wrap}
use Rattle.cif_laws.specs.Laws.{FitsText}
use Rattle.cif_laws.proofs.ReadBack.{accepted_again, refused_again}
use Rattle.cif_laws.proofs.again.reread.Goals as goal

-- an answer that is a value is the wanted one
same_value : (no_memory : NoMemory) (value wanted : Layout)
    → (◌≡◌ {A = Result Layout NoMemory} (Ok value) (Err no_memory)) ⊎ (◌≡◌ {A = Result Layout NoMemory} (Ok value) (Ok wanted))
    → value ≡ wanted
same_value no_memory value wanted (inl e) = absurd cc
same_value no_memory value wanted (inr e) = cc

pub returns-in_err-file : goal.returns-in_err-file
returns-in_err-file c room short =
    let layout = c.args.snapshot.now in
    let fault = c.in_err-file.field-0.0 in
    let may : FitsText layout = record { sound = c.look_at_layers.ensures.sound; named = c.look_at_layers.ensures.named; room = room } in
    let whole : c.written.result.now ≡ text layout = search rules in
    let answer : AnswersMeaning (text layout) (Err fault) = subst (λ t. AnswersMeaning t (Err fault)) whole c.in_err-file.ensures.answer in
    let none : fault ≡ no_memory = refused_again layout may short fault answer in
    inl (search rules)

pub returns : goal.returns
returns c room short =
    let layout = c.args.snapshot.now in
    let file = c.in_ok-file.file in
    let may : FitsText layout = record { sound = c.look_at_layers.ensures.sound; named = c.look_at_layers.ensures.named; room = room } in
    let whole : c.written.result.now ≡ text layout = search rules in
    let answer : AnswersMeaning (text layout) (Ok file) = subst (λ t. AnswersMeaning t (Ok file)) whole c.in_ok-file.ensures.answer in
    let again : layout_of file ≡ wrap layout = accepted_again layout may short file answer in
    inr (ap Ok (same_value (record {}) c.in_ok-from_cif.field-0 (layout_of file) c.in_ok-from_cif.ensures ∙ again))
