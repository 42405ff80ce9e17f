use Rattle.std.proofs.Common.{◌≡◌, rules, sym, subst}
use Rattle.lay_layouts.specs.Layout.{Layout}
use Rattle.lay_layouts.specs.Sound.{IsSound}
use Rattle.cif_layout.specs.FromCif.{layout_of}
use Rattle.cif_layout.proofs.SoundLemmas.{layout_of-sound}
use Rattle.cif_layout.proofs.from_cif.SnapshotFromCif.from_cif.Goals as goal

pub of-requires : goal.of-requires
of-requires c =
    let same : c.in_ok-version.version ≡ layout_of c.args.file = search rules in
    let sound : IsSound (layout_of c.args.file) = layout_of-sound c.args.file c.into_parts-symbols.ensures.sound in
    let P : Layout → Type 0 = λ l. IsSound l in subst P (sym same) sound
