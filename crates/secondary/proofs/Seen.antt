-- What `with_shape` tells of the view that it was given. Assumes nothing.
use mathlib.Core.Path.{◌≡◌}
use mathlib.Core.Bool.{true}
use Rattle.map.specs.Map.{has_shape}
use Rattle.secondary.specs.declared.MapView.{MapView}
use Rattle.secondary.specs.declared.judged.MapShaped.{MapShaped}
use Rattle.secondary.specs.Answers.{seen_map}

pub shape_of_view : (map : MapShaped) {view : MapView} → map.view ≡ view → has_shape (seen_map view) ≡ true
shape_of_view map e = rw (← e) map.shape
