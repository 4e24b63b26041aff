-- The foreign references of a frame that came: no reference is there twice.
use Rattle.std.specs.Prelude.{[]}
use Rattle.std.specs.List.{IsDistinct}
use Rattle.dgc_client.specs.Table.{is_same}

pub none-distinct : IsDistinct is_same []
unfolding IsDistinct
none-distinct = tt
