use Rattle.snap_laws.proofs.Places.{crossings_met, ends_met, free_scales, met_either_way, one_pixel}
use Rattle.snap_laws.proofs.pixel_laws.pixels_have_laws.Goals as goal

pub returns : goal.returns
returns c = record { one = one_pixel; scales = free_scales; ends = ends_met; crossings = crossings_met; either_way = met_either_way }
